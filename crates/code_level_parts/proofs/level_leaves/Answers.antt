-- `code_level_parts::level_leaves` meets its contract.
use mathlib.Core.Path.{refl}
use Rattle.code_level_parts.proofs.Allowed.{leaves_fit}
use Rattle.code_level_parts.proofs.level_leaves.Goals as goal

pub put_leaves-requires : goal.put_leaves-requires
put_leaves-requires c =
    leaves_fit _ _ _ _ _ _ _ _ c.in_ok-leaves_questions.ensures refl

pub returns : goal.returns
returns c =
    record { value = c.in_ok-leaves_questions.ensures; out_after = c.put_leaves.ensures }
