-- Sizes and lengths: what the questions, all answered yes, say of them, and that what is computed of them fits.
use mathlib.Core.Path.{◌≡◌, sym, ap, ◌∙◌}
use mathlib.Core.Bool.{true}
use mathlib.Core.List.{List, [], ◌∷◌}
use Prim.Native.Nat.{ℕ, zero, suc, ◌+◌, ◌*◌, ◌/◌, ◌^◌, ◌≤◌, ◌<◌}
use native.Mathlib.Nat.{mul-le-mul, pow-suc}
use native.Mathlib.Omega.{arith}
use lib.Arith.{digits_lt}
use lib.Dec.{eqb}
use lib.ListN.{length}
use lib.Pow.{pow_mono}
use borrow.Author.Tests.{leb-true, ltb-true, eqb-true, le-leb, eq-eqb}
use Rattle.theory_laws.proofs.Questions.{all_yes}
use Rattle.theory_laws.specs.Questions.{both, on_done}
use Rattle.theory_laws.proofs.Lists.{both_true}
use Rattle.field_runs.specs.Runs.{Paired}
use Rattle.code_codeword.specs.Answers.{Folded}
use Rattle.theory_code.specs.Questions.{
  sized,
  lent,
  encode_number,
  rising,
  shift_questions,
  shift_number,
  fold_questions,
  fold_number,
  earlier_questions,
  earlier_number,
}
use Rattle.theory_code.proofs.Rising.{rising-below}
use Rattle.code_codeword.specs.helpers.Sizes.{ShiftSizes, EncodeSizes, Below}

pub gammas_fit : {n k : ℕ} → n ≤ 20 → k ≤ 4 → k * n ≤ 80
gammas_fit hn hk = mul-le-mul hk hn

-- the places of the gammas (j, i)
pub gamma-fits : (n k j i : ℕ) → i < n → j < k → j * n + i < k * n
gamma-fits n k j i hi hj = digits_lt hj hi

pub power_fits : {e : ℕ} → e ≤ 24 → 2 ^ e ≤ 16777216
power_fits h = pow_mono h

-- a power of two that is not 1
pub pow-halved : (m : ℕ) → 0 < m → 2 ^ m ≡ 2 * (2 ^ m / 2)
pow-halved zero h = absurd (omega arith)
pow-halved (suc m) h = omega (arith, pow-suc 2 m)

-- the places of 2^m words have each bit below m
pub has_bit : (m i halves : ℕ) → i < m → halves ≡ 2 * 2 ^ m → Paired i halves
has_bit zero i halves h e = absurd (omega arith)
has_bit (suc m) i halves h e = record { m = m; has = omega arith; size = e }

-- ---- where no question said no

-- a list that holds what it should: n numbers, each below the original n
pub record ListSizes (n original : ℕ) (coordinates : List ℕ) : Type 0 where
  pub long : length coordinates ≡ n
  pub below : Below original coordinates

list_sizes : (n original : ℕ) (coordinates : List ℕ) → both (eqb (length coordinates) n) (rising 0 original coordinates) ≡ true → ListSizes n original coordinates
list_sizes n original coordinates e =
    let h = both_true (eqb (length coordinates) n) (rising 0 original coordinates) e in
    record { long = eqb-true (length coordinates) n h.0; below = rising-below 0 original coordinates h.1 }

pub shift-sizes : (n k original : ℕ) (coordinates : List ℕ) (gammas out number : ℕ) → number ≡ shift_number n k original coordinates gammas out → number ≡ 0
    → ShiftSizes original k gammas × Below original coordinates × (out ≡ 2 * length coordinates)
unfolding shift_number
shift-sizes n k original coordinates gammas out number e z =
    let y = all_yes (shift_questions n k original coordinates gammas out) tt (sym e ∙ z) in
    let l = list_sizes n original coordinates y.1.1.1.1.1.0 in (
      record { n≤ = leb-true original 20 y.1.1.0; k≤ = leb-true k 4 y.1.0; gammas= = eqb-true gammas (2 * (k * original)) y.1.1.1.0 },
      l.below,
      eqb-true out (2 * n) y.1.1.1.1.0 ∙ ap (λ (m : ℕ). 2 * m) (sym l.long),
    )

-- where the earlier reading is not refused, the list has n entries
pub earlier_long : (n k original : ℕ) (coordinates : List ℕ) (number : ℕ) → number ≡ earlier_number n k original coordinates → number ≡ 0
    → length coordinates ≡ n
unfolding earlier_number
earlier_long n k original coordinates number e z =
    let y = all_yes (earlier_questions n k original coordinates) tt (sym e ∙ z) in
    (list_sizes n original coordinates y.1.1.1.0).long

pub encode-sizes : (n k table gammas out number : ℕ) → number ≡ encode_number n k table gammas out → number ≡ 0
    → EncodeSizes n k table gammas × (out ≡ 2 * 2 ^ (n + k))
unfolding encode_number
encode-sizes n k table gammas out number e z =
    let y = all_yes (sized n k (lent table (2 ^ n) ∷ lent gammas (k * n) ∷ lent out (2 ^ (n + k)) ∷ [])) tt (sym e ∙ z) in (
      record {
        shifts = record { n≤ = leb-true n 20 y.0; k≤ = leb-true k 4 y.1.0; gammas= = eqb-true gammas (2 * (k * n)) y.1.1.1.0 };
        table= = eqb-true table (2 * 2 ^ n) y.1.1.0;
      },
      eqb-true out (2 * 2 ^ (n + k)) y.1.1.1.1.0,
    )

-- what a fold that is not refused has: a variable, with its entry in the list, and a codeword whose places have its bit
pub record FoldSizes (n var : ℕ) (coordinates : List ℕ) (src out : ℕ) : Type 0 where
  pub below : var < n
  pub list_long : length coordinates ≡ n
  pub paired : Paired var src
  pub halved : src ≡ 2 * out

pub fold-sizes : (n k original var : ℕ) (coordinates : List ℕ) (src out number : ℕ) → number ≡ fold_number n k original var coordinates src out → number ≡ 0
    → FoldSizes n var coordinates src out
unfolding fold_number
fold-sizes n k original var coordinates src out number e z =
    let y = all_yes (fold_questions n k original var coordinates src out) tt (sym e ∙ z) in
    let h = ltb-true var n y.1.1.1.1.1.1.0 in
    let p = pow-halved (n + k) (omega arith) in
    let es = eqb-true src (2 * 2 ^ (n + k)) y.1.1.1.0 in
    let eo = eqb-true out (2 * (2 ^ (n + k) / 2)) y.1.1.1.1.0 in
    record {
      below = h;
      list_long = (list_sizes n original coordinates y.1.1.1.1.1.0).long;
      paired = has_bit (n + k) var src (omega arith) es;
      halved = omega arith;
    }

-- the answers of a refused fold
pub refused-same : (p q : ℕ) → p ≡ q → ◌≡◌ {A = Folded} (record { number = p; n = 0 }) (record { number = q; n = 0 })
refused-same p q e = ap (λ (x : ℕ). record { number = x; n = 0 }) e

-- ---- where every length is right

pub encode-accepts : (n k table gammas out : ℕ) → EncodeSizes n k table gammas → out ≡ 2 * 2 ^ (n + k) → encode_number n k table gammas out ≡ 0
unfolding encode_number
encode-accepts n k table gammas out z e =
    rw (
      le-leb n 20 z.shifts.n≤,
      le-leb k 4 z.shifts.k≤,
      eq-eqb table (2 * 2 ^ n) z.table=,
      eq-eqb gammas (2 * (k * n)) z.shifts.gammas=,
      eq-eqb out (2 * 2 ^ (n + k)) e,
    )

-- so that the work is done
pub encode-done : (n k table gammas out number : ℕ) (x y : List ℕ) → number ≡ encode_number n k table gammas out
    → EncodeSizes n k table gammas → out ≡ 2 * 2 ^ (n + k) → on_done number x y ≡ x
encode-done n k table gammas out number x y e z h =
    ap (λ (q : ℕ). on_done q x y) (e ∙ encode-accepts n k table gammas out z h)
