-- `put_parts` meets its contract. The loop's invariant: storing the parts that are left gives the message.
use mathlib.Core.Path.{◌≡◌}
use lib.ListN.{length}
use Rattle.hash_serialize_parts.proofs.Laws.{Left}
use Rattle.hash_serialize_parts.proofs.put_parts.Given as goal

abbrev pub invariant-loop-l : goal.invariant-loop-l
invariant-loop-l l = (length l.out ≡ length l.initial.out) × Left l.lengths l.bytes l.out l.to l.from l.l-index
