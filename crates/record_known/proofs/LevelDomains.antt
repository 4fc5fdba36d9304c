-- The levels of four lanes, and the sizes of their domains.
use Prim.Native.Nat.{ℕ, ◌+◌, ◌≤◌, ◌<◌}
use mathlib.Core.Path.{◌≡◌, refl, sym, ◌∙◌, ap}
use mathlib.Core.Bool.{Bool, true, false}
use mathlib.Core.List.{List}
use native.Mathlib.Omega.{arith}
use native.Mathlib.Decide.{dec_lt}
use borrow.Author.Tests.{leb-true, lt-ltb, le-ltb}
use lib.Dec.{leb, ltb}
use lib.ListN.{length, length-append}
use Rattle.theory_laws.specs.Questions.{pick}
use Rattle.theory_record.specs.Domain.{level_domain}
use Rattle.theory_record.proofs.Domain.{decimal-one, decimal-two}
use Rattle.record_known.specs.helpers.Domains.{level_in, domain_size, OneDigitCount, DomainsFit}

-- the level of a lane is one of those from e to the last
pub record Between (e last l : ℕ) : Type 0 where
  pub least : e ≤ l
  pub most : l ≤ last

pub level-between : (e last k : ℕ) → e ≤ last → Between e last (level_in e last k)
unfolding level_in
level-between e last k h = go (leb (e + k) last) refl
  where
    go : (b : Bool) → leb (e + k) last ≡ b → Between e last (pick b (e + k) last)
    go true z = let g = leb-true (e + k) last z in record { least = omega arith; most = g }
    go false z = record { least = h; most = omega arith }

length-domain : (base : List ℕ) (l : ℕ) → l < 100 → length (level_domain base l) ≡ domain_size (length base) l
unfolding level_domain
length-domain base l h = go (dec_lt l 10)
  where
    go : Dec (l < 10) → length (level_domain base l) ≡ domain_size (length base) l
    go (yes k) = rw (length-append, length-append, decimal-one l k, lt-ltb l 10 k) (omega arith)
    go (no k) = rw (length-append, length-append, decimal-two l (omega arith) h, le-ltb l 10 (omega arith)) (omega arith)

-- the numbers of all levels between two have as many digits as theirs
digits_between : (e last l : ℕ) → OneDigitCount e last → Between e last l → ltb l 10 ≡ ltb e 10
digits_between e last l c b = go (dec_lt l 10)
  where
    go : Dec (l < 10) → ltb l 10 ≡ ltb e 10
    go (yes k) = lt-ltb l 10 k ∙ sym (lt-ltb e 10 (omega (arith, b.least)))
    go (no k) = le-ltb l 10 (omega arith) ∙ sym (c ∙ le-ltb last 10 (omega (arith, b.most)))

-- so their domains are as long as the first
pub one-length : (base : List ℕ) (e last out k : ℕ) → DomainsFit base e last out → length (level_domain base (level_in e last k)) ≡ domain_size (length base) e
one-length base e last out k f =
    let b = level-between e last k f.rising in
    length-domain base (level_in e last k) (omega (arith, b.most, f.low))
    ∙ ap (λ (t : Bool). pick t (length base + 8) (length base + 9)) (digits_between e last (level_in e last k) f.one_count b)

pub size-most : (base e : ℕ) → base ≤ 200 → domain_size base e ≤ 209
size-most base e h = go (ltb e 10)
  where
    go : (b : Bool) → pick b (base + 8) (base + 9) ≤ 209
    go true = omega arith
    go false = omega arith

pub one-digit : (e last : ℕ) → e < 10 → last < 10 → OneDigitCount e last
one-digit e last h g = lt-ltb e 10 h ∙ sym (lt-ltb last 10 g)

pub two_digits : (e last : ℕ) → 10 ≤ e → 10 ≤ last → OneDigitCount e last
two_digits e last h g = le-ltb e 10 h ∙ sym (le-ltb last 10 g)
