-- `tree_four_messages::put_node_rests` meets its contract. The loop's invariant: the messages so far are whole, and the prefixes of the others stand.
use Prim.Native.Nat.{◌+◌, ◌*◌}
use mathlib.Core.Path.{◌≡◌}
use mathlib.Core.List.{◌++◌}
use lib.ListN.{length}
use Rattle.theory_laws.specs.Lists.{part}
use Rattle.theory_merkle.specs.Message.{prefixed}
use Rattle.tree_four_messages.proofs.Filling.{StridesFilled}
use Rattle.tree_four_messages.proofs.put_node_rests.Given as goal

abbrev pub invariant-loop-k : goal.invariant-loop-k
invariant-loop-k l =
    (length l.messages ≡ length l.initial.messages)
    × StridesFilled l.initial.messages l.prefix 80 (λ j. prefixed (part 32 (l.src + 64 * j) l.tree) ++ prefixed (part 32 (l.src + 64 * j + 32) l.tree)) l.k l.messages
