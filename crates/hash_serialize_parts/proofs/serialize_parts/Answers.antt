-- `serialize_parts` meets its contract.
use mathlib.Core.Path.{refl}
use Rattle.hash_serialize_parts.proofs.Laws.{sized}
use Rattle.hash_serialize_parts.proofs.serialize_parts.Goals as goal

pub put_parts-requires : goal.put_parts-requires
put_parts-requires c = sized _ _ _ 0 c.in_ok-questions.ensures refl
