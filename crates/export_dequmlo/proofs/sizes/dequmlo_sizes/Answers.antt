-- `export_dequmlo::sizes::dequmlo_sizes` meets its contract.
use mathlib.Core.Path.{refl, ap, ◌∙◌}
use Rattle.theory_laws.proofs.Refusals.{never}
use Rattle.export_dequmlo.specs.Sizes.{no_sizes}
use Rattle.export_dequmlo.proofs.Fixed.{sizes-allowed, sizes-refused, sizes-done}
use Rattle.export_dequmlo.proofs.sizes.dequmlo_sizes.Goals as goal

pub sizes_under-requires : goal.sizes_under-requires
sizes_under-requires c = sizes-allowed _ _ _ 0 c.in-Ok.ensures.number_value refl

pub returns-in-Ok : goal.returns-in-Ok
returns-in-Ok c = c.sizes_under.ensures ∙ sizes-done _ _ _ 0 c.in-Ok.ensures.number_value _ refl c.in-Ok.ensures.set_value

pub returns-in-Err : goal.returns-in-Err
returns-in-Err c = ap no_sizes c.number.ensures ∙ sizes-refused _ _ _ _ c.in-Err.ensures.number_value (λ z. never _ z)
