-- The code's parameters and profiles as those of SPECIFICATION 6.9, and whether a profile is named as in 6.10.
use Rattle.std.specs.Prelude.{Option, None, Some}
use Rattle.theory_record.specs.Profiles as paper
use Rattle.code_profile.specs.declared.Parameters.{Parameters}
use Rattle.code_profile.specs.declared.Profile.{Profile}

abbrev pub parameters : Parameters → paper.Fields
parameters r = record { k = r.k; queries = r.queries; domain = r.domain; size = r.length }

abbrev pub profile : Profile → paper.Profile
profile Profile.FastChunk = paper.FastChunk
profile Profile.Balanced = paper.Balanced
profile Profile.CompactWrap = paper.CompactWrap
profile Profile.DeepWrap = paper.DeepWrap
profile Profile.FirstDefault = paper.FirstDefault

abbrev pub named : Option Profile → paper.Named
named None = paper.No
named (Some p) = paper.Yes (profile p)
