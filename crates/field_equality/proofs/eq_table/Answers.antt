-- `field_equality::eq_table` meets its contract: what the questions leave known suffices.
use mathlib.Core.Path.{refl}
use native.Mathlib.Omega.{arith}
use lib.Pow.{pow_pos}
use Rattle.field_equality.proofs.Growing.{sizes}
use Rattle.field_equality.proofs.eq_table.Goals as goal

pub align-requires : goal.align-requires
align-requires c =
    (refl, omega (arith, (sizes _ _ _ _ c.in_ok-questions.ensures refl).of_table, pow_pos c.args.n))

pub eq_build-requires : goal.eq_build-requires
eq_build-requires c =
    (sizes _ _ _ _ c.in_ok-questions.ensures refl, c.align.auto.t)
