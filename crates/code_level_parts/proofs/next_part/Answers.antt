-- `code_level_parts::next_part` meets its contract.
use mathlib.Core.Path.{refl}
use Rattle.code_level_parts.proofs.Allowed.{next_fits}
use Rattle.code_level_parts.proofs.next_part.Goals as goal

pub put_next-requires : goal.put_next-requires
put_next-requires c =
    next_fits _ _ _ _ _ _ c.in_ok-next_questions.ensures refl

pub returns : goal.returns
returns c =
    record { value = c.in_ok-next_questions.ensures; out_after = c.put_next.ensures }
