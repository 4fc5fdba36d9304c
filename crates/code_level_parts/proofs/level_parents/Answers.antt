-- `code_level_parts::level_parents` meets its contract.
use mathlib.Core.Path.{refl}
use Rattle.code_level_parts.proofs.Allowed.{parents_fit}
use Rattle.code_level_parts.proofs.level_parents.Goals as goal

pub put_parents-requires : goal.put_parents-requires
put_parents-requires c =
    parents_fit _ _ _ _ _ _ c.in_ok-parents_questions.ensures refl

pub returns : goal.returns
returns c =
    record { value = c.in_ok-parents_questions.ensures; out_after = c.put_parents.ensures }
