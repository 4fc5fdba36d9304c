-- `put_part` meets its contract: the length and the part, one after the other.
use Rattle.hash_serialize_parts.proofs.Laws.{part_put}
use Rattle.hash_serialize_parts.proofs.part.put_part.Goals as goal

pub returns : goal.returns
returns c = search part_put
