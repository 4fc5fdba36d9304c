-- What the change of the default (SPECIFICATION 14, N1) leaves as it was; and that the parameters of every seal pass the questions that they are put to.
use Prim.Native.Nat.{◌≤◌}
use mathlib.Core.Path.{◌≡◌, refl}
use mathlib.Core.Bool.{Bool, true, false}
use native.Mathlib.Omega.{arith}
use lib.ListN.{length}
use Rattle.theory_record.specs.Profiles.{Parameters, Profile, FastChunk, Balanced, CompactWrap, DeepWrap, FirstDefault}
use Rattle.theory_record.specs.Profiles.{Named, No, Yes, default_domain, default_parameters, parameters_of, checked_under, written_under}

-- ---- the change of the default

-- the default has Balanced's k and queries, and the domain of the first default
pub default_k : default_parameters.k ≡ (parameters_of Balanced).k
unfolding default_parameters parameters_of
default_k = refl

pub default_queries : default_parameters.queries ≡ (parameters_of Balanced).queries
unfolding default_parameters parameters_of
default_queries = refl

pub default_domain_lem : default_parameters.domain ≡ (parameters_of FirstDefault).domain
unfolding default_parameters parameters_of
default_domain_lem = refl

-- a seal is checked under what it was written under, if nobody says that it is older
pub written-checked : (x : Named) → checked_under x false ≡ written_under x
unfolding checked_under written_under parameters_of default_parameters
written-checked (Yes p) = refl
written-checked No = refl

-- what a seal was written under before the change
unfoldable pub written_before : Named → Parameters
written_before (Yes p) = parameters_of p
written_before No = record { k = 1; queries = 40; domain = default_domain }

-- a seal that is said to be older is checked under what it was written under then
pub older_checked : (x : Named) → checked_under x true ≡ written_before x
unfolding checked_under written_before parameters_of default_parameters
older_checked (Yes p) = refl
older_checked No = refl

-- ---- the questions

-- 4 of k, and 7 of the base domain
pub record Admitted (p : Parameters) : Type 0 where
  pub k_most : p.k ≤ 4
  pub domain_short : length p.domain ≤ 200

pub default_admitted : Admitted default_parameters
unfolding default_parameters
default_admitted = omega arith

pub profile_admitted : (p : Profile) → Admitted (parameters_of p)
unfolding parameters_of
profile_admitted FastChunk = omega arith
profile_admitted Balanced = omega arith
profile_admitted CompactWrap = omega arith
profile_admitted DeepWrap = omega arith
profile_admitted FirstDefault = omega arith

pub checked_admitted : (x : Named) (older : Bool) → Admitted (checked_under x older)
unfolding checked_under
checked_admitted (Yes p) older = profile_admitted p
checked_admitted No true = profile_admitted FirstDefault
checked_admitted No false = default_admitted
