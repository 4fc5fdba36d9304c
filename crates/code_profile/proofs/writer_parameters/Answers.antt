-- `code_profile::writer_parameters` meets its contract: either arm has the parameters of its case.
use Rattle.theory_record.specs.Profiles.{Parameters, default_parameters, fields_of, written_under}
use Rattle.code_profile.specs.Meaning.{named}
use mathlib.Core.Path.{refl}
use Rattle.std.specs.Prelude.{Option}
use Rattle.code_profile.specs.declared.Profile.{Profile}
use Rattle.code_profile.proofs.Told.{told}
use Rattle.code_profile.proofs.writer_parameters.Goals as goal

abbrev of : Option Profile → Parameters
of name = written_under (named name)

pub returns-in-Some : goal.returns-in-Some
unfolding written_under
returns-in-Some c =
    told of c.parameters_of.ensures c.in-Some.is

pub returns-in-None : goal.returns-in-None
unfolding written_under default_parameters fields_of
returns-in-None c = told of refl c.in-None.is
