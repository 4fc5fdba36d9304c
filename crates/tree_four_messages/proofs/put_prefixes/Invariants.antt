-- `tree_four_messages::put_prefixes` meets its contract. The loop's invariant: the strides so far have the prefix at their fronts.
use mathlib.Core.Path.{◌≡◌}
use lib.ListN.{length}
use Rattle.tree_four_messages.proofs.Filling.{StridesFilled}
use Rattle.tree_four_messages.proofs.put_prefixes.Given as goal

abbrev pub invariant-loop-k : goal.invariant-loop-k
invariant-loop-k l = (length l.messages ≡ length l.initial.messages)
    × StridesFilled l.initial.messages 0 (length l.prefix) (λ j. l.prefix) l.k l.messages
