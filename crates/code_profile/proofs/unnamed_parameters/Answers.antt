-- `code_profile::unnamed_parameters` meets its contract: either branch has the parameters of its case.
use mathlib.Core.Path.{refl}
use Rattle.theory_record.specs.Profiles.{No, parameters_of, default_parameters, fields_of, checked_under}
use Rattle.code_profile.proofs.Told.{told}
use Rattle.code_profile.proofs.unnamed_parameters.Goals as goal

pub returns-then-older : goal.returns-then-older
unfolding checked_under parameters_of default_parameters fields_of
returns-then-older c = told (checked_under No) refl c.if-older.true

pub returns-else-older : goal.returns-else-older
unfolding checked_under parameters_of default_parameters fields_of
returns-else-older c = told (checked_under No) refl c.if-older.false
