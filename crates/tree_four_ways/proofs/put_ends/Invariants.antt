-- `tree_four_ways::put_ends` meets its contract. The loop's invariant: the first k messages have what follows their fronts.
use mathlib.Core.Path.{◌≡◌}
use lib.ListN.{length}
use Rattle.tree_four_messages.proofs.Filling.{StridesFilled}
use Rattle.tree_four_ways.specs.helpers.Ways.{lane_rest}
use Rattle.tree_four_ways.specs.helpers.Lists.{groups, froms}
use Rattle.tree_four_ways.proofs.put_ends.Given as goal

abbrev pub invariant-loop-k : goal.invariant-loop-k
invariant-loop-k l =
    (length l.messages ≡ length l.initial.messages)
    × StridesFilled l.initial.messages l.front 88 (lane_rest l.level (groups l.lanes) l.digests l.s (froms l.lanes)) l.k l.messages
