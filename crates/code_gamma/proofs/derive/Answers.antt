-- `code_gamma::derive` meets its contract.
use mathlib.Core.Path.{refl}
use Rattle.code_gamma.proofs.Sizes.{derive_sizes}
use Rattle.code_gamma.proofs.derive.Goals as goal

pub fill-requires : goal.fill-requires
fill-requires c =
    derive_sizes _ _ _ _ _ c.in_ok-questions.ensures refl
