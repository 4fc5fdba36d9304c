-- The domains of four levels in strides of 256 bytes.
use Rattle.std.specs.Prelude.{ℕ, ◌+◌, ◌*◌, ◌≤◌, ◌<◌, ◌≡◌, List, leb, ltb, length}
use Rattle.theory_laws.specs.Lists.{part}
use Rattle.theory_laws.specs.Questions.{pick}
use Rattle.theory_record.specs.Domain.{level_domain}

-- the level of lane k, of four from e on: past the last it is the last again
unfoldable pub level_in : ℕ → ℕ → ℕ → ℕ
level_in e last k = pick (leb (e + k) last) (e + k) last

-- how many bytes the domain of level e has, over a base domain of so many
abbrev pub domain_size : ℕ → ℕ → ℕ
domain_size base e = pick (ltb e 10) (base + 8) (base + 9)

-- the numbers of both levels have as many digits: both one, or both two
abbrev pub OneDigitCount : ℕ → ℕ → Type 0
OneDigitCount e last = ltb e 10 ≡ ltb last 10

-- the numbers of four levels from e on have as many digits, and a buffer of so many bytes has room for their domains
pub record DomainsFit (base : List ℕ) (e last out : ℕ) : Type 0 where
  pub base_short : length base ≤ 200
  pub rising : e ≤ last
  pub low : last < 100
  pub one_count : OneDigitCount e last
  pub room : 1024 ≤ out

-- their domains have this length, and each stands at the front of its stride
pub record DomainsStand (base : List ℕ) (e last size : ℕ) (out : List ℕ) : Type 0 where
  pub short : size ≤ 209
  pub stands : (k : ℕ) → k < 4 → part size (256 * k) out ≡ level_domain base (level_in e last k)
