-- `tree_four_ways::put_leaves` meets its contract. The loop's invariant: the first k messages are whole.
use Prim.Native.Nat.{◌+◌, ◌*◌}
use mathlib.Core.Path.{◌≡◌}
use lib.ListN.{length}
use Rattle.tree_four_messages.proofs.Filling.{StridesFilled}
use Rattle.tree_four_ways.specs.helpers.Ways.{lane_leaf}
use Rattle.tree_four_ways.specs.helpers.Lists.{counts, groups, places}
use Rattle.tree_four_ways.proofs.put_leaves.Given as goal

abbrev pub invariant-loop-k : goal.invariant-loop-k
invariant-loop-k l =
    (length l.messages ≡ length l.initial.messages)
    × StridesFilled l.initial.messages 0 (97 + l.size + 16 * l.width) (lane_leaf l.domains l.size (counts l.lanes) l.width (groups l.lanes) l.s (places l.lanes)) l.k l.messages
