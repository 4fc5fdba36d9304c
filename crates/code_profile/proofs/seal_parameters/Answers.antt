-- `code_profile::seal_parameters` meets its contract: either arm has the parameters of its case.
use mathlib.Core.Bool.{Bool}
use Rattle.theory_record.specs.Profiles.{Parameters, checked_under}
use Rattle.code_profile.specs.Meaning.{named}
use Rattle.std.specs.Prelude.{Option}
use Rattle.code_profile.specs.declared.Profile.{Profile}
use Rattle.code_profile.proofs.Told.{told}
use Rattle.code_profile.proofs.seal_parameters.Goals as goal

abbrev of : Bool → Option Profile → Parameters
of older name = checked_under (named name) older

pub returns-in-Some : goal.returns-in-Some
unfolding checked_under
returns-in-Some c =
    told (of c.args.older) c.parameters_of.ensures c.in-Some.is

pub returns-in-None : goal.returns-in-None
returns-in-None c =
    told (of c.args.older) c.unnamed_parameters.ensures c.in-None.is
