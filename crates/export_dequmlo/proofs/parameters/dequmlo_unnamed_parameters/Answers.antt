-- `export_dequmlo::parameters::dequmlo_unnamed_parameters` meets its contract.
use mathlib.Core.Path.{◌∙◌}
use Rattle.export_dequmlo.proofs.parameters.dequmlo_unnamed_parameters.Goals as goal

pub returns : goal.returns
returns c = c.exported.ensures ∙ c.unnamed_parameters.ensures
