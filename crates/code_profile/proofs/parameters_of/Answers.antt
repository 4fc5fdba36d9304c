-- `code_profile::parameters_of` meets its contract: each arm has its profile's parameters.
use mathlib.Core.Path.{refl}
use Rattle.theory_record.specs.Profiles.{Parameters, parameters_of, fields_of}
use Rattle.code_profile.specs.Meaning.{profile}
use Rattle.code_profile.specs.declared.Profile.{Profile}
use Rattle.code_profile.proofs.Told.{told}
use Rattle.code_profile.proofs.parameters_of.Goals as goal

abbrev of : Profile → Parameters
of p = parameters_of (profile p)

pub returns-in-FastChunk : goal.returns-in-FastChunk
unfolding parameters_of fields_of
returns-in-FastChunk c = told of refl c.in-FastChunk.is

pub returns-in-Balanced : goal.returns-in-Balanced
unfolding parameters_of fields_of
returns-in-Balanced c = told of refl c.in-Balanced.is

pub returns-in-CompactWrap : goal.returns-in-CompactWrap
unfolding parameters_of fields_of
returns-in-CompactWrap c = told of refl c.in-CompactWrap.is

pub returns-in-DeepWrap : goal.returns-in-DeepWrap
unfolding parameters_of fields_of
returns-in-DeepWrap c = told of refl c.in-DeepWrap.is

pub returns-in-FirstDefault : goal.returns-in-FirstDefault
unfolding parameters_of fields_of
returns-in-FirstDefault c = told of refl c.in-FirstDefault.is
