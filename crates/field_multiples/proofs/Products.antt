-- The product by windows of b bits, and the rows of a table.
use mathlib.Core.Path.{◌≡◌, sym, ap, ap₂, ◌∙◌}
use mathlib.Core.Logic.{⊎_elim}
use mathlib.Core.List.{List}
use Prim.Native.Nat.{ℕ, suc, ◌+◌, ◌-◌, ◌*◌, ◌/◌, ◌%◌, ◌^◌, ◌≤◌, ◌<◌}
use native.Mathlib.Nat.{mul_assoc, mod-lt, mod-eq_of_lt, suc-mul, zero-mul, add-zero, one-mul, mul-one, lt_of_lt_of_le, pow-suc, div-one}
use native.Mathlib.Nat.{div-eq_of_lt, mul-le-mul_right, le-mul_of_pos_right, eq-or-lt_of_le}
use native.Mathlib.Numerals.{add-one}
use native.Mathlib.Omega.{arith}
use native.Mathlib.Decide.{dec_lt}
use lib.Arith.{digits_div, digits_mod}
use lib.Bits.{bit_and, and_mask}
use lib.Pow.{pow_pos, pow-lt, pow-add, split, shr-shr}
use lib.ListN.{length, set}
use lib.Seq.{get_or-set_same, get_or-set_other}
use Rattle.theory_laws.specs.Xor.{◌⊕◌}
use Rattle.theory_laws.specs.Table.{at}
use Rattle.theory_laws.proofs.Xor.{⊕-parts, ⊕-shl, ⊕_comm, ⊕_assoc, zero-⊕, ⊕-zero}
use Rattle.theory_field.specs.Field.{◌⊗◌}
use Rattle.theory_field.specs.Words.{joined}
use Rattle.theory_field.proofs.Product.{⊗-⊕, ⊗_assoc, ⊗-zero, ⊗-one}
use Rattle.field_multiples.specs.helpers.Multiples.{window, Multiples}
use Rattle.field_multiples.specs.helpers.Rows.{Copied, Row}
use Rattle.theory_field.proofs.Powers.{pow-⊗-shl}

window-at : (b j k : ℕ) → k < 2 ^ b → window b (j * 2 ^ b + k) ≡ k * 2 ^ (b * j)
unfolding window
window-at b j k h = ap₂ (λ x y. x * 2 ^ (b * y)) (digits_mod j h) (digits_div j h)

-- ---- a product, its lowest window first
cut : (b e r v : ℕ) → r ⊗ (v * 2 ^ e) ≡ r ⊗ (v % 2 ^ b * 2 ^ e) ⊕ r ⊗ (v / 2 ^ b * 2 ^ (b + e))
cut b e r v =
    ap (λ x. r ⊗ (x * 2 ^ e)) (sym (⊕-parts (v / 2 ^ b) b (v % 2 ^ b) (mod-lt v (pow_pos b)) ∙ split v b) ∙ ⊕_comm (v / 2 ^ b * 2 ^ b) (v % 2 ^ b))
    ∙ ap (◌⊗◌ r) (sym (⊕-shl e (v % 2 ^ b) (v / 2 ^ b * 2 ^ b)))
    ∙ ⊗-⊕ r (v % 2 ^ b * 2 ^ e) (v / 2 ^ b * 2 ^ b * 2 ^ e)
    ∙ ap (λ x. r ⊗ (v % 2 ^ b * 2 ^ e) ⊕ r ⊗ x) (mul_assoc (v / 2 ^ b) (2 ^ b) (2 ^ e) ∙ ap (λ x. v / 2 ^ b * x) (sym (pow-add 2 b e)))

-- a turn of the loop: p with the entry of row j at the low window of x
pub next-window : (b n j r p x q : ℕ) (ws : List ℕ) → Multiples b n r ws → suc j * 2 ^ b ≤ n → p ⊕ r ⊗ (x * 2 ^ (b * j)) ≡ q
    → (p ⊕ at ws (j * 2 ^ b + x % 2 ^ b)) ⊕ r ⊗ (x / 2 ^ b * 2 ^ (b * (j + 1))) ≡ q
next-window b n j r p x q ws m h e =
    ⊕_assoc p _ _
    ∙ ap (λ y. p ⊕ y)
    (ap₂ (λ y z. y ⊕ r ⊗ (x / 2 ^ b * 2 ^ z))
    (m (j * 2 ^ b + x % 2 ^ b) (omega (arith, low, suc-mul j (2 ^ b))) ∙ ap (◌⊗◌ r) (window-at b j (x % 2 ^ b) low)) exponent
    ∙ sym (cut b (b * j) r x))
    ∙ e
  where
    low : x % 2 ^ b < 2 ^ b
    low = mod-lt x (pow_pos b)

    exponent : b * (j + 1) ≡ b + b * j
    exponent = omega arith

-- ---- the windows of half a word, from the first to the last
pub first-window : (b j r h : ℕ) → (h ≡ h / 2 ^ (b * 0)) × (0 ⊕ r ⊗ (h * 2 ^ (b * (j + 0))) ≡ r ⊗ (h * 2 ^ (b * j)))
first-window b j r h = (
  sym (ap (λ e. h / 2 ^ e) zero-places ∙ div-one h),
  zero-⊕ (r ⊗ (h * 2 ^ (b * (j + 0)))) ∙ ap (λ i. r ⊗ (h * 2 ^ (b * i))) (add-zero j),
)
  where
    zero-places : b * 0 ≡ 0
    zero-places = omega arith

pub shifted-window : (b i x h : ℕ) → x ≡ h / 2 ^ (b * i) → x / 2 ^ b ≡ h / 2 ^ (b * (i + 1))
shifted-window b i x h e = ap (λ y. y / 2 ^ b) e ∙ shr-shr h (b * i) b ∙ ap (λ y. h / 2 ^ y) (let z : b * i + b ≡ b * (i + 1) = omega arith in z)

-- past the last window nothing is left
pub last-window : (b n r p x h e q : ℕ) → x ≡ h / 2 ^ (b * n) → b * n ≡ 64 → h < 2 ^ 64 → p ⊕ r ⊗ (x * 2 ^ e) ≡ q → p ≡ q
last-window b n r p x h e q a w l g =
    sym (⊕-zero p) ∙ ap (λ y. p ⊕ y) (sym (⊗-zero r) ∙ ap (◌⊗◌ r) (sym (ap (λ y. y * 2 ^ e) none ∙ zero-mul (2 ^ e)))) ∙ g
  where
    none : x ≡ 0
    none = a ∙ ap (λ y. h / 2 ^ y) w ∙ div-eq_of_lt l

-- the rows of the low half are among those of both
pub fewer : (b n r : ℕ) (ws : List ℕ) → Multiples b ((n + n) * 2 ^ b) r ws → Multiples b ((0 + n) * 2 ^ b) r ws
fewer b n r ws m k h = m k (lt_of_lt_of_le h (mul-le-mul_right (2 ^ b) (omega arith)))

pub halves : (b n r p q hi lo : ℕ) → b * n ≡ 64 → lo < 2 ^ 64 → p ≡ r ⊗ (lo * 2 ^ (b * 0)) → q ≡ r ⊗ (hi * 2 ^ (b * n))
    → p ⊕ q ≡ r ⊗ joined hi lo
halves b n r p q hi lo w l e f =
    ap₂ ◌⊕◌ (e ∙ ap (◌⊗◌ r) low) (f ∙ ap (λ x. r ⊗ (hi * 2 ^ x)) w)
    ∙ sym (⊗-⊕ r lo (hi * 2 ^ 64)) ∙ ap (◌⊗◌ r) (⊕_comm lo (hi * 2 ^ 64) ∙ ⊕-parts hi 64 lo l)
  where
    low : lo * 2 ^ (b * 0) ≡ lo
    low = ap (λ x. lo * 2 ^ x) (let z : b * 0 ≡ 0 = omega arith in z) ∙ mul-one lo

pub rows-within : (b j n i : ℕ) → i < n → suc (j + i) * 2 ^ b ≤ (j + n) * 2 ^ b
rows-within b j n i h = mul-le-mul_right (2 ^ b) (omega arith)

pub row_below : (b j : ℕ) → j < suc j * 2 ^ b
row_below b j = le-mul_of_pos_right (suc j) (pow_pos b)

-- ---- the copies
pub copied_more : (from n m d v : ℕ) (ws vs : List ℕ) → m < n → from + n + m < length vs → v ≡ at vs (from + m) ⊕ d
    → Copied from n m d ws vs → Copied from n (m + 1) d ws (set vs (from + n + m) v)
copied_more from n m d v ws vs h l e copied =
    record {
      before = λ k o. get_or-set_other vs (from + n + m) k v 0 (omega arith) ∙ copied.before k o;
      copies = λ k o. ⊎_elim
          (λ (q : k ≡ m). rw q (get_or-set_same vs (from + n + m) v 0 l ∙ e ∙ ap (λ x. x ⊕ d) (copied.before (from + m) (omega arith))))
          (λ (a : k < m). get_or-set_other vs (from + n + m) (from + n + k) v 0 (omega arith) ∙ copied.copies k a)
          (eq-or-lt_of_le {n = k} {m = m} (omega arith));
    }

-- ---- a row, by doubling
pub row_start : (from w v : ℕ) (ws : List ℕ) → from < length ws → v ≡ 0 → Row 0 from w ws (set ws from v)
row_start from w v ws l e =
    record {
      before = λ k h. get_or-set_other ws from k v 0 (omega arith);
      products = λ k h. let z : k ≡ 0 = omega arith in rw (z, add-zero from) (get_or-set_same ws from v 0 l ∙ e ∙ sym (⊗-zero w));
    }

pub row_more : (from i w : ℕ) (ws us vs : List ℕ) → Row i from w ws us → Copied from (2 ^ i) (2 ^ i) (w ⊗ 2 ^ i) us vs → Row (i + 1) from w ws vs
row_more from i w ws us vs row copied =
    record {
      before = λ k h. copied.before k (omega arith) ∙ row.before k h;
      products = λ k h. pick k h (dec_lt k (2 ^ i));
    }
  where
    pick : (k : ℕ) → k < 2 ^ (i + 1) → Dec (k < 2 ^ i) → at vs (from + k) ≡ w ⊗ k
    pick k h (yes o) = copied.before (from + k) (omega arith) ∙ row.products k o
    pick k h (no o) =
        let m : ℕ = k - 2 ^ i in
        let z : k ≡ 1 * 2 ^ i + m = omega arith in
        let y : from + k ≡ from + 2 ^ i + m = omega arith in
        let s : m < 2 ^ i = omega (arith, pow-suc 2 i, ap (λ e. 2 ^ e) (add-one i)) in
        ap (at vs) y ∙ copied.copies m s ∙ ap (λ x. x ⊕ w ⊗ 2 ^ i) (row.products m s)
        ∙ sym (⊗-⊕ w m (2 ^ i)) ∙ ap (◌⊗◌ w) (⊕_comm m (2 ^ i) ∙ ap (λ x. x ⊕ m) (sym (one-mul (2 ^ i))) ∙ ⊕-parts 1 i m s ∙ sym z)

-- ---- the rows
pub no_rows : (b r : ℕ) (ws : List ℕ) → Multiples b (0 * 2 ^ b) r ws
no_rows b r ws k h = absurd (omega (arith, zero-mul (2 ^ b)))

pub first_power : (b r : ℕ) → r < 2 ^ 128 → r ≡ r ⊗ 2 ^ (b * 0)
first_power b r h = sym (ap (λ e. r ⊗ 2 ^ e) (let z : b * 0 ≡ 0 = omega arith in z) ∙ ⊗-one r h)

pub next_power : (b j r d e : ℕ) → b * (j + 1) < 128 → d ≡ r ⊗ 2 ^ (b * j) → e ≡ d ⊗ 2 ^ b → e ≡ r ⊗ 2 ^ (b * (j + 1))
next_power b j r d e h p q =
    q ∙ ap (λ x. x ⊗ 2 ^ b) p ∙ ⊗_assoc r (2 ^ (b * j)) (2 ^ b)
    ∙ ap (◌⊗◌ r) (pow-⊗-shl (suc b) (b * j) (2 ^ b) (omega arith) (pow-lt (omega arith)) ∙ sym (pow-add 2 b (b * j)) ∙ ap (λ x. 2 ^ x) exponent)
  where
    exponent : b + b * j ≡ b * (j + 1)
    exponent = omega arith

pub next_row : (b j r w : ℕ) (ws vs : List ℕ) → b * (j + 1) ≤ 128 → w ≡ r ⊗ 2 ^ (b * j) → Row b (j * 2 ^ b) w ws vs
    → Multiples b (j * 2 ^ b) r ws → Multiples b ((j + 1) * 2 ^ b) r vs
next_row b j r w ws vs h e row m k l = pick (dec_lt k (j * 2 ^ b))
  where
    old : k < j * 2 ^ b → at vs k ≡ r ⊗ window b k
    old o = row.before k o ∙ m k o

    new : (k < j * 2 ^ b → ⊥) → at vs k ≡ r ⊗ window b k
    new o =
        let i : ℕ = k - j * 2 ^ b in
        let z : k ≡ j * 2 ^ b + i = omega arith in
        let s : i < 2 ^ b = omega (arith, suc-mul j (2 ^ b), ap (λ n. n * 2 ^ b) (add-one j)) in
        ap (at vs) z ∙ row.products i s ∙ ap (λ x. x ⊗ i) e ∙ ⊗_assoc r (2 ^ (b * j)) i
        ∙ ap (◌⊗◌ r) (pow-⊗-shl b (b * j) i (omega arith) s ∙ sym (window-at b j i s) ∙ ap (window b) (sym z))

    pick : Dec (k < j * 2 ^ b) → at vs k ≡ r ⊗ window b k
    pick (yes o) = old o
    pick (no o) = new o

-- ---- places as code computes them

pub row_place : (b j : ℕ) → suc j * 2 ^ b < 2 ^ 64 → j * 2 ^ b % 2 ^ 64 ≡ j * 2 ^ b
row_place b j h = mod-eq_of_lt (omega (arith, suc-mul j (2 ^ b)))

pub power_fits : (b : ℕ) → b < 64 → 1 * 2 ^ b % 2 ^ 64 ≡ 2 ^ b
power_fits b h = mod-eq_of_lt (omega (arith, pow-lt {j = 64} h)) ∙ omega arith

-- the low b bits, by a mask
pub masked : (b x : ℕ) → b < 64 → bit_and x (1 * 2 ^ b % 2 ^ 64 - 1) ≡ x % 2 ^ b
masked b x h = ap (λ y. bit_and x (y - 1)) (power_fits b h) ∙ and_mask x b

pub in_row : (b j x : ℕ) → j * 2 ^ b + x % 2 ^ b < suc j * 2 ^ b
in_row b j x = omega (arith, suc-mul j (2 ^ b), mod-lt x (pow_pos b))
