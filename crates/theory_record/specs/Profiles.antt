-- The parameters (SPECIFICATION 6.9, 6.10): the default, the five profiles, and those that a seal is checked and written under. Rests on nothing.
use Rattle.std.specs.Prelude.{ℕ, ◌-◌, Bool, true, false, List, [], ◌∷◌, ◌++◌, length, replicate}

pub record Parameters : Type 0 where
  pub k : ℕ
  pub queries : ℕ
  pub domain : List ℕ

-- "magnetar/pcs/"
abbrev pub domain_start : List ℕ
domain_start = 109 ∷ 97 ∷ 103 ∷ 110 ∷ 101 ∷ 116 ∷ 97 ∷ 114 ∷ 47 ∷ 112 ∷ 99 ∷ 115 ∷ 47 ∷ []

-- "magnetar/pcs/default"
abbrev pub default_domain : List ℕ
default_domain = domain_start ++ (100 ∷ 101 ∷ 102 ∷ 97 ∷ 117 ∷ 108 ∷ 116 ∷ [])

unfoldable pub default_parameters : Parameters
default_parameters = record { k = 2; queries = 40; domain = default_domain }

pub data Profile : Type 0 where
  FastChunk : Profile
  Balanced : Profile
  CompactWrap : Profile
  DeepWrap : Profile
  FirstDefault : Profile

-- "magnetar/pcs/" and the profile's name in small letters; FirstDefault is what the default was before, under the default's domain
unfoldable pub parameters_of : Profile → Parameters
parameters_of FastChunk = record { k = 1; queries = 40; domain = domain_start ++ (102 ∷ 97 ∷ 115 ∷ 116 ∷ 99 ∷ 104 ∷ 117 ∷ 110 ∷ 107 ∷ []) }
parameters_of Balanced = record { k = 2; queries = 40; domain = domain_start ++ (98 ∷ 97 ∷ 108 ∷ 97 ∷ 110 ∷ 99 ∷ 101 ∷ 100 ∷ []) }
parameters_of CompactWrap =
    record { k = 3; queries = 20; domain = domain_start ++ (99 ∷ 111 ∷ 109 ∷ 112 ∷ 97 ∷ 99 ∷ 116 ∷ 119 ∷ 114 ∷ 97 ∷ 112 ∷ []) }
parameters_of DeepWrap = record { k = 4; queries = 14; domain = domain_start ++ (100 ∷ 101 ∷ 101 ∷ 112 ∷ 119 ∷ 114 ∷ 97 ∷ 112 ∷ []) }
parameters_of FirstDefault = record { k = 1; queries = 40; domain = default_domain }

-- ---- the parameters of a seal

-- the profile that a seal or its writer names, if any
pub data Named : Type 0 where
  No : Named
  Yes : Profile → Named

-- under which parameters a seal is checked: whether it is older than the change of the default counts where it names no profile
unfoldable pub checked_under : Named → Bool → Parameters
checked_under (Yes p) older = parameters_of p
checked_under No true = parameters_of FirstDefault
checked_under No false = default_parameters

-- under which parameters a seal is written
unfoldable pub written_under : Named → Parameters
written_under (Yes p) = parameters_of p
written_under No = default_parameters

-- ---- as they are handed over: a base domain in 24 bytes, zeros after it, and its length

pub record Fields : Type 0 where
  pub k : ℕ
  pub queries : ℕ
  pub domain : List ℕ
  pub size : ℕ

unfoldable pub fields_of : Parameters → Fields
fields_of p =
    record { k = p.k; queries = p.queries; domain = p.domain ++ replicate (24 - length p.domain) 0; size = length p.domain }
