-- What the questions, all answered yes, say of sizes and lengths.
use Prim.Native.Nat.{ℕ, suc, ◌+◌, ◌-◌, ◌*◌, ◌/◌, ◌%◌, ◌^◌, ◌<◌, ◌≤◌}
use mathlib.Core.Path.{◌≡◌, sym, ap, ◌∙◌}
use mathlib.Core.Logic.{⊎_elim}
use mathlib.Core.List.{[], ◌∷◌}
use native.Mathlib.Numerals.{add-one}
use native.Mathlib.Omega.{arith}
use lib.Dec.{eqb, leb, ltb}
use borrow.Author.Tests.{leb-true, ltb-true, eqb-true, le-leb, lt-leb, lt-ltb, le-ltb}
use Rattle.theory_laws.specs.Questions.{◌asks◌}
use Rattle.theory_laws.proofs.Numbers.{lt_or_le, pow-two}
use Rattle.theory_laws.proofs.Questions.{all_yes}
use Rattle.theory_code.specs.Questions.{sized, lent}
use Rattle.theory_code.specs.PartQuestions.{block_number, half_number, fold_part_number}
use Rattle.code_codeword.specs.helpers.Sizes.{ShiftSizes, EncodeSizes}
use Rattle.code_codeword.proofs.Lengths.{has_bit, pow-halved}
use Rattle.code_parts.specs.helpers.FoldPart.{PartFits}
use Rattle.code_parts.specs.helpers.Half.{number_within, HalfSizes}

-- ---- a part of a block

-- a part of 2^m words that is not refused
pub record WithinSizes (m n k eps table gammas out : ℕ) : Type 0 where
  pub sizes : EncodeSizes n k table gammas
  pub out= : out ≡ 2 * 2 ^ m
  pub below : eps < 2 ^ k

pub within-sizes : (m n k eps table gammas out number : ℕ) → number ≡ number_within m n k eps table gammas out → number ≡ 0
    → WithinSizes m n k eps table gammas out
unfolding number_within
within-sizes m n k eps table gammas out number e z =
    let y = all_yes (sized n k (lent table (2 ^ n) ∷ lent gammas (k * n) ∷ lent out (2 ^ m) ∷ (11 asks ltb eps (2 ^ k)) ∷ [])) tt (sym e ∙ z) in
    record {
      sizes = record {
        shifts = record { n≤ = leb-true n 20 y.0; k≤ = leb-true k 4 y.1.0; gammas= = eqb-true gammas (2 * (k * n)) y.1.1.1.0 };
        table= = eqb-true table (2 * 2 ^ n) y.1.1.0;
      };
      out= = eqb-true out (2 * 2 ^ m) y.1.1.1.1.0;
      below = ltb-true eps (2 ^ k) y.1.1.1.1.1.0;
    }

-- a block is such a part
pub block-said : (n k eps table gammas out number : ℕ) → number ≡ number_within n n k eps table gammas out
    → number ≡ block_number n k eps table gammas out
unfolding number_within block_number
block-said n k eps table gammas out number e = e

-- ---- half a block

pub twice : (k : ℕ) → 2 ^ (k + 1) ≡ 2 * 2 ^ k
twice k = ap (◌^◌ 2) (add-one k) ∙ pow-two k

pub halved : (n : ℕ) → 1 ≤ n → 2 ^ n ≡ 2 * 2 ^ (n - 1)
halved n h = ap (◌^◌ 2) (let z : n ≡ suc (n - 1) = omega arith in z) ∙ pow-two (n - 1)

half-below : (k half : ℕ) → ltb (half / 2) (2 ^ k) ≡ ltb half (2 ^ (k + 1))
half-below k half =
    ⊎_elim (λ (h : half < 2 ^ (k + 1)). lt-ltb (half / 2) (2 ^ k) (omega (arith, twice k)) ∙ sym (lt-ltb half (2 ^ (k + 1)) h))
    (λ (h : 2 ^ (k + 1) ≤ half). le-ltb (half / 2) (2 ^ k) (omega (arith, twice k)) ∙ sym (le-ltb half (2 ^ (k + 1)) h))
    (lt_or_le half (2 ^ (k + 1)))

-- where n is not 0 it is a part of block half / 2
half-within : (n k half table gammas out : ℕ) → 1 ≤ n
    → number_within (n - 1) n k (half / 2) table gammas out ≡ half_number n k half table gammas out
unfolding number_within half_number
half-within n k half table gammas out h = rw (le-leb 1 n h, half-below k half)

pub half-said : (n k half table gammas out number : ℕ) → 1 ≤ n → number ≡ number_within (n - 1) n k (half / 2) table gammas out
    → number ≡ half_number n k half table gammas out
half-said n k half table gammas out number h e = e ∙ half-within n k half table gammas out h

-- and where n is 0 it is refused
pub no_half : (n k half table gammas out : ℕ) → n < 1 → 4 ≡ half_number n k half table gammas out
unfolding half_number
no_half n k half table gammas out h = rw (lt-leb 1 n h)

-- half a block that is not refused
pub half-sizes : (n k half table gammas out number : ℕ) → number ≡ half_number n k half table gammas out → number ≡ 0
    → ShiftSizes n k gammas × HalfSizes n k half table out
half-sizes n k half table gammas out number e z =
    ⊎_elim (λ (h : n < 1). absurd (omega (arith, e ∙ sym (no_half n k half table gammas out h)))) done (lt_or_le n 1)
  where
    done : 1 ≤ n → ShiftSizes n k gammas × HalfSizes n k half table out
    done h =
        let w = within-sizes (n - 1) n k (half / 2) table gammas out number (e ∙ sym (half-within n k half table gammas out h)) z in (
          w.sizes.shifts,
          record {
            table= = w.sizes.table=;
            some = h;
            out= = w.out=;
            below = ltb-true half (2 ^ (k + 1)) (sym (half-below k half) ∙ lt-ltb (half / 2) (2 ^ k) w.below);
          },
        )

-- ---- a part of a fold

-- a part of a fold that is not refused
pub part-fits : (n k var first src out number : ℕ) → number ≡ fold_part_number n k var first src out → number ≡ 0 → PartFits var first src out
unfolding fold_part_number
part-fits n k var first src out number e z =
    let y = all_yes (sized n k (lent src (2 ^ (n + k)) ∷ (5 asks eqb (out % 2) 0) ∷ (6 asks ltb var n)
    ∷ (11 asks leb (first + out / 2) (2 ^ (n + k) / 2)) ∷ []))
    tt (sym e ∙ z) in
    let h = ltb-true var n y.1.1.1.1.0 in
    let es = eqb-true src (2 * 2 ^ (n + k)) y.1.1.0 in
    let w = leb-true (first + out / 2) (2 ^ (n + k) / 2) y.1.1.1.1.1.0 in
    record {
      paired = has_bit (n + k) var src (omega arith) es;
      whole = eqb-true (out % 2) 0 y.1.1.1.0;
      within = omega (arith, pow-halved (n + k) (omega arith));
    }
