-- `export_dequmlo::parameters::exported_of` meets its contract.
use mathlib.Core.Path.{◌∙◌}
use Rattle.export_dequmlo.proofs.parameters.exported_of.Goals as goal

pub returns : goal.returns
returns c = c.exported.ensures ∙ c.parameters_of.ensures
