-- `code_profile::default_parameters` meets its contract: the fields are those of the definition, computed.
use mathlib.Core.Path.{refl}
use Rattle.theory_record.specs.Profiles.{default_parameters, fields_of}
use Rattle.code_profile.proofs.default_parameters.Goals as goal

pub returns : goal.returns
unfolding default_parameters fields_of
returns c = refl
