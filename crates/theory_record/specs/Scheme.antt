-- What a deposit fixes: the digest function of its trees, the set of widths, the base domain, and its sizes n and k. The gammas are no part of
-- it: their digest is BLAKE3's hash mode, always.
use Rattle.std.specs.Prelude.{ℕ, List}
use Rattle.theory_blake3.specs.Modes.{under}
use Rattle.theory_record.specs.Widths.{Widths, widths_of, level_length, level_width, level_depth}
use Rattle.theory_record.specs.declared.Trees.{Trees}
use Rattle.theory_record.specs.Domain.{level_domain}

pub record Scheme : Type 0 where
  pub digest : List ℕ → List ℕ
  pub widths : Widths
  pub base : List ℕ
  pub n : ℕ
  pub k : ℕ

-- the scheme that every entry makes of how its trees are made, base domain, n and k
abbrev pub scheme : Trees → List ℕ → ℕ → ℕ → Scheme
scheme how base n k = record { digest = under how.mode; widths = widths_of how.set; base = base; n = n; k = k }

-- level l of a scheme: its length, its width and the length of its paths, and its domain
module _ (S : Scheme) (l : ℕ) where
  abbrev pub length_at : ℕ
  length_at = level_length S.n S.k l

  abbrev pub width_at : ℕ
  width_at = level_width S.widths S.n S.k l

  abbrev pub depth_at : ℕ
  depth_at = level_depth S.widths S.n S.k l

  abbrev pub domain_at : List ℕ
  domain_at = level_domain S.base l
