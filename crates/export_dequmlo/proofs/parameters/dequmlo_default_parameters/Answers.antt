-- `export_dequmlo::parameters::dequmlo_default_parameters` meets its contract.
use mathlib.Core.Path.{◌∙◌}
use Rattle.export_dequmlo.proofs.parameters.dequmlo_default_parameters.Goals as goal

pub returns : goal.returns
returns c = c.exported.ensures ∙ c.default_parameters.ensures
