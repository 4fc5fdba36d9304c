-- `tree_four_ways::put_fronts` meets its contract. The loop's invariant: the first k messages have their fronts.
use Prim.Native.Nat.{◌+◌}
use mathlib.Core.Path.{◌≡◌}
use lib.ListN.{length}
use Rattle.tree_four_messages.proofs.Filling.{StridesFilled}
use Rattle.tree_digest.specs.helpers.Begun.{node_front}
use Rattle.tree_four_ways.specs.helpers.Ways.{domain_of}
use Rattle.tree_four_ways.proofs.put_fronts.Given as goal

abbrev pub invariant-loop-k : goal.invariant-loop-k
invariant-loop-k l =
    (length l.messages ≡ length l.initial.messages) × (length l.front ≡ 311)
    × StridesFilled l.initial.messages 0 (48 + l.size) (λ j. node_front (domain_of l.domains l.size j)) l.k l.messages
