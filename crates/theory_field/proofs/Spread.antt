-- Bits spread apart: the rule of a spread, by a test that computes too, and that nothing else keeps it; a spread cut anywhere; and
-- that a square is a spread, reduced. What code that squares rests on.
use mathlib.Core.Path.{◌≡◌, refl, sym, ap, ap₂, ◌∙◌, subst}
use mathlib.Core.Bool.{Bool, ◌&&◌}
use mathlib.Core.List.{List}
use mathlib.Core.Logic.{⊎_elim}
use Prim.Native.Nat.{ℕ, zero, suc, ◌+◌, ◌*◌, ◌/◌, ◌%◌, ◌^◌, ◌≤◌, ◌<◌}
use native.Mathlib.Nat.{zero-add, suc-add, mul-one, mul_assoc, mul_comm, div-one, zero-div}
use native.Mathlib.Omega.{arith}
use lib.Dec.{T, eqb, ltb, eqb→eq, ltb→lt}
use lib.ListN.{length}
use lib.Pow.{pow-add, pow-lt, shr-shr, high}
use Rattle.theory_laws.specs.Table.{at}
use Rattle.theory_laws.specs.Xor.{◌⊕◌, bit}
use Rattle.theory_laws.proofs.Linear.{ext, all_below, below, and_l, and_r, then_additive}
use Rattle.theory_laws.proofs.Numbers.{lt_or_le}
use Rattle.theory_laws.proofs.Parity.{by-parity, low_bit, low_half, high_half}
use Rattle.theory_laws.proofs.Sum.{bit_past, same_bits}
use Rattle.theory_laws.proofs.Table.{is-tab}
use Rattle.theory_laws.proofs.Xor.{zero-⊕, ⊕-zero, ⊕_assoc, ⊕_comm, ⊕-parts, ⊕-shl}
use Rattle.theory_field.specs.Field.{sq}
use Rattle.theory_field.specs.Spread.{spread, spread_table, SpreadApart, SpreadLaws}
use Rattle.theory_field.proofs.Square.{sq-⊕, spread-⊕}
use Rattle.theory_field.proofs.LongProduct.{long-pow, red, red-⊕, ⊗-red}

-- ---- the rule

-- the lowest bit, and the others above it
spread-parts : (n v : ℕ) → spread (suc n) v ≡ spread n (v / 2) * 2 ^ 2 + v % 2
unfolding spread
spread-parts n v = ⊕_comm (v % 2) (spread n (v / 2) * 2 ^ 2) ∙ ⊕-parts (spread n (v / 2)) 2 (v % 2) (omega arith)

-- bits of a quarter
quarter_bit : (j e : ℕ) → bit (2 + j) e ≡ bit j (e / 2 ^ 2)
quarter_bit j e = ap (λ (x : ℕ). x % 2) (sym (shr-shr e 2 j))

next-apart : (v s : ℕ) → SpreadApart (v / 2) s → SpreadApart v (s * 2 ^ 2 + v % 2)
next-apart v s r = record { even = even; odd = odd }
  where
    e : ℕ
    e = s * 2 ^ 2 + v % 2

    rest : e / 2 ^ 2 ≡ s
    rest = high s 2 (omega arith)

    even : (i : ℕ) → bit (2 * i) e ≡ bit i v
    even zero = omega arith
    even (suc i) =
        let up : 2 * suc i ≡ 2 + 2 * i = omega arith in
        ap (λ (j : ℕ). bit j e) up ∙ quarter_bit (2 * i) e ∙ ap (bit (2 * i)) rest ∙ r.even i ∙ ap (λ (x : ℕ). x % 2) (high_half v i)

    odd : (i : ℕ) → bit (2 * i + 1) e ≡ 0
    odd zero = omega arith
    odd (suc i) =
        let up : 2 * suc i + 1 ≡ 2 + (2 * i + 1) = omega arith in
        ap (λ (j : ℕ). bit j e) up ∙ quarter_bit (2 * i + 1) e ∙ ap (bit (2 * i + 1)) rest ∙ r.odd i

spread_rule : (n v : ℕ) → v < 2 ^ n → SpreadApart v (spread n v)
unfolding spread
spread_rule zero v h =
    record {
      even = λ i. ap (λ (x : ℕ). x % 2) (zero-div (2 ^ (2 * i))) ∙ sym (bit_past 0 i v h (omega arith));
      odd = λ i. ap (λ (x : ℕ). x % 2) (zero-div (2 ^ (2 * i + 1)));
    }
spread_rule (suc n) v h = subst (SpreadApart v) (sym (spread-parts n v)) (next-apart v (spread n (v / 2)) (spread_rule n (v / 2) (omega arith)))

-- the rule settles every bit
apart_no_other : (n v e : ℕ) → v < 2 ^ n → SpreadApart v e → e ≡ spread n v
apart_no_other n v e h r =
    same_bits e (spread n v)
    (by-parity (λ j. bit j e ≡ bit j (spread n v))
    (λ w. let up = mul_comm w 2 in rw up (r.even w ∙ sym ((spread_rule n v h).even w)))
    (λ w. let up = mul_comm w 2 in rw up (r.odd w ∙ sym ((spread_rule n v h).odd w))))

pub spread_laws : SpreadLaws
spread_laws = record { rule = spread_rule; no_other = apart_no_other }

-- ---- the rule as a test that computes

-- of n bits v and of an entry e: e has 2n bits, and each is as the rule says
unfoldable pub spread_test : ℕ → ℕ → ℕ → Bool
spread_test n v e = ltb e (2 ^ (2 * n)) && all_below n (λ i. eqb (bit (2 * i) e) (bit i v) && eqb (bit (2 * i + 1) e) 0)

test_rule : (n v e : ℕ) → v < 2 ^ n → T (spread_test n v e) → SpreadApart v e
unfolding spread_test
test_rule n v e h t = record { even = even; odd = odd }
  where
    right : ℕ → Bool
    right i = eqb (bit (2 * i) e) (bit i v) && eqb (bit (2 * i + 1) e) 0

    short : e < 2 ^ (2 * n)
    short = ltb→lt e (2 ^ (2 * n)) (and_l (ltb e (2 ^ (2 * n))) (all_below n right) t)

    each : (i : ℕ) → i < n → T (right i)
    each = below n right (and_r (ltb e (2 ^ (2 * n))) (all_below n right) t)

    even : (i : ℕ) → bit (2 * i) e ≡ bit i v
    even i =
        ⊎_elim
        (λ (k : i < n). eqb→eq (bit (2 * i) e) (bit i v) (and_l (eqb (bit (2 * i) e) (bit i v)) (eqb (bit (2 * i + 1) e) 0) (each i k)))
        (λ (k : n ≤ i). bit_past (2 * n) (2 * i) e short (omega arith) ∙ sym (bit_past n i v h k)) (lt_or_le i n)

    odd : (i : ℕ) → bit (2 * i + 1) e ≡ 0
    odd i =
        ⊎_elim
        (λ (k : i < n). eqb→eq (bit (2 * i + 1) e) 0 (and_r (eqb (bit (2 * i) e) (bit i v)) (eqb (bit (2 * i + 1) e) 0) (each i k)))
        (λ (k : n ≤ i). bit_past (2 * n) (2 * i + 1) e short (omega arith)) (lt_or_le i n)

-- a table's rule, carried from one test over all entries to each of them
pub tested_rule : (n : ℕ) (t : List ℕ) → T (all_below (2 ^ n) (λ v. spread_test n v (at t v))) → (v : ℕ) → v < 2 ^ n → SpreadApart v (at t v)
tested_rule n t test v h = test_rule n v (at t v) h (below (2 ^ n) (λ v. spread_test n v (at t v)) test v h)

-- what passes the test is the table of spread bytes
pub tested_table : (t : List ℕ) → length t ≡ 256 → T (all_below 256 (λ v. spread_test 8 v (at t v))) → t ≡ spread_table
unfolding spread_table
tested_table t long test = is-tab t 256 (spread 8) long (λ v h. apart_no_other 8 v (at t v) h (tested_rule 8 t test v h))

-- ---- cut anywhere

-- the m low bits, and n above them
pub spread_cut : (m n v : ℕ) → spread (m + n) v ≡ spread m v ⊕ spread n (v / 2 ^ m) * 2 ^ (2 * m)
unfolding spread
spread_cut zero n v =
    ap₂ spread (zero-add n) (sym (div-one v)) ∙ sym (zero-⊕ (spread n (v / 1) * 1) ∙ mul-one (spread n (v / 1)))
spread_cut (suc m) n v =
    let up : 2 * m + 2 ≡ 2 * suc m = omega arith in
    let s = spread n (v / 2 / 2 ^ m) in
    ap (λ (x : ℕ). spread x v) (suc-add m n)
    ∙ ap (λ (x : ℕ). v % 2 ⊕ x * 2 ^ 2) (spread_cut m n (v / 2))
    ∙ ap (λ (x : ℕ). v % 2 ⊕ x)
    (sym (⊕-shl 2 (spread m (v / 2)) (s * 2 ^ (2 * m)))
    ∙ ap (λ (x : ℕ). spread m (v / 2) * 2 ^ 2 ⊕ x)
    (mul_assoc s (2 ^ (2 * m)) (2 ^ 2) ∙ ap (λ (x : ℕ). s * x) (sym (pow-add 2 (2 * m) 2) ∙ ap (λ (x : ℕ). 2 ^ x) up)))
    ∙ sym (⊕_assoc (v % 2) (spread m (v / 2) * 2 ^ 2) (s * 2 ^ (2 * suc m)))
    ∙ ap (λ (x : ℕ). (v % 2 ⊕ spread m (v / 2) * 2 ^ 2) ⊕ spread n x * 2 ^ (2 * suc m)) (high_half v m)

-- one bit more
pub spread-more : (n v : ℕ) → spread (n + 1) v ≡ spread n v ⊕ bit n v * 2 ^ (2 * n)
unfolding spread
spread-more n v = spread_cut n 1 v ∙ ap (λ (x : ℕ). spread n v ⊕ x * 2 ^ (2 * n)) (⊕-zero (bit n v))

-- the bits above do not count
pub spread-low : (n v : ℕ) → spread n (v % 2 ^ n) ≡ spread n v
unfolding spread
spread-low zero v = refl
spread-low (suc n) v =
    ap₂ (λ (x y : ℕ). x ⊕ spread n y * 2 ^ 2) (low_bit v n) (low_half v n) ∙ ap (λ (x : ℕ). v % 2 ⊕ x * 2 ^ 2) (spread-low n (v / 2))

pub spread-lt : (n v : ℕ) → spread n v < 2 ^ (2 * n)
unfolding spread
spread-lt zero v = omega arith
spread-lt (suc n) v =
    let up : 2 * suc n ≡ suc (suc (2 * n)) = omega arith in
    rw (spread-parts n v, up) (omega (arith, spread-lt n (v / 2)))

-- ---- a square

-- x^i spreads to x^(2 i): computed
right : ℕ → Bool
right i = eqb (spread 128 (2 ^ i)) (2 ^ i * 2 ^ i)

basis : T (all_below 128 right)
unfolding right spread ◌⊕◌
basis = tt

pub sq-spread : (v : ℕ) → v < 2 ^ 128 → sq v ≡ red (spread 128 v)
unfolding sq right
sq-spread v h =
    ext 128 sq (λ x. red (spread 128 x)) sq-⊕ (then_additive (spread 128) red (spread-⊕ 128) red-⊕)
    (λ i k.
    let spreads = eqb→eq (spread 128 (2 ^ i)) (2 ^ i * 2 ^ i) (below 128 right basis i k) in
    ⊗-red (2 ^ i) (2 ^ i) (pow-lt k) (pow-lt k) ∙ ap red (long-pow 128 i (2 ^ i) k ∙ sym spreads)) v h
