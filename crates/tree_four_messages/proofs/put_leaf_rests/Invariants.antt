-- `tree_four_messages::put_leaf_rests` meets its contract. The loop's invariant: the messages so far are whole, and the prefixes of the others stand.
use Prim.Native.Nat.{◌+◌, ◌*◌}
use mathlib.Core.Path.{◌≡◌}
use lib.ListN.{length}
use Rattle.theory_laws.specs.Lists.{part}
use Rattle.theory_field.specs.Words.{words}
use Rattle.theory_merkle.specs.Message.{leaf_rest}
use Rattle.tree_place.specs.Place.{number}
use Rattle.tree_four_messages.proofs.Filling.{StridesFilled}
use Rattle.tree_four_messages.proofs.put_leaf_rests.Given as goal

abbrev pub invariant-loop-k : goal.invariant-loop-k
invariant-loop-k l =
    (length l.messages ≡ length l.initial.messages)
    × StridesFilled l.initial.messages l.prefix (24 + 16 * l.width) (λ j. leaf_rest l.width (number l.group + j) (part l.width (l.width * j) (words l.values))) l.k l.messages
