-- Buckets: what an entry changes that comes into one, nibble by nibble, and that the nibbles of a word are the word.
use mathlib.Core.Path.{◌≡◌, sym, ap, ap₂, ◌∙◌}
use mathlib.Core.List.{List}
use mathlib.Core.Logic.{◌≢◌}
use Prim.Native.Nat.{ℕ, suc, ◌+◌, ◌-◌, ◌*◌, ◌/◌, ◌%◌, ◌^◌, ◌≤◌, ◌<◌}
use native.Mathlib.Nat.{mod-eq_of_lt, mul_assoc, mul-one}
use native.Mathlib.Numerals.{add-one}
use native.Mathlib.Decide.{dec_lt}
use native.Mathlib.Omega.{arith}
use lib.Bits.{shifted_even}
use lib.ListN.{length, set, replicate}
use lib.Pow.{pow-add, shl_lt, shl-shr, shr-shr}
use lib.Seq.{get_or-set_same, get_or-set_other}
use Rattle.theory_laws.specs.Xor.{◌⊕◌, bit, sel}
use Rattle.theory_laws.specs.Sum.{sum}
use Rattle.theory_laws.specs.Table.{at}
use Rattle.theory_laws.proofs.Xor.{⊕-zero, ⊕_comm, ⊕_assoc, ⊕-cancel, ⊕-parts, sel-zero, sel-⊕, sel-bit}
use Rattle.theory_laws.proofs.Linear.{Additive, then_additive, shl_additive}
use Rattle.theory_laws.proofs.Sum.{sum-ext, sum-none, sum_changed, bit_past}
use Rattle.theory_field.specs.Words.{joined, words}
use Rattle.theory_multilinear.specs.Partials.{partial}
use Rattle.ring_partials.specs.helpers.Buckets.{gathered}
use Rattle.theory_laws.proofs.Windows.{sum_more, by_windows}
use Rattle.theory_field.proofs.Words.{at-zeros}

-- ---- bit b of a nibble that stands at place k of a word

below_row : (b k x : ℕ) → b < 4 * k → bit b (x * 2 ^ (4 * k)) ≡ 0
below_row b k x h =
    let e : 4 * k ≡ suc (4 * k - suc b) + b = omega arith in
    ap (λ n. x * 2 ^ n / 2 ^ b % 2) e
    ∙ ap (λ y. y / 2 ^ b % 2) (ap (λ y. x * y) (pow-add 2 (suc (4 * k - suc b)) b) ∙ sym (mul_assoc x (2 ^ suc (4 * k - suc b)) (2 ^ b)))
    ∙ ap (λ y. y % 2) (shl-shr (x * 2 ^ suc (4 * k - suc b)) b)
    ∙ shifted_even x (4 * k - suc b)

above_row : (b k x : ℕ) → x < 16 → 4 * k + 4 ≤ b → bit b (x * 2 ^ (4 * k)) ≡ 0
above_row b k x hx h = bit_past (4 + 4 * k) b (x * 2 ^ (4 * k)) (shl_lt 4 (4 * k) hx) (omega arith)

in_row : (b k x : ℕ) → b / 4 ≡ k → bit b (x * 2 ^ (4 * k)) ≡ bit (b % 4) x
in_row b k x e =
    let z : b ≡ 4 * k + b % 4 = omega arith in
    ap (λ n. x * 2 ^ (4 * k) / 2 ^ n % 2) z
    ∙ ap (λ y. y % 2) (sym (shr-shr (x * 2 ^ (4 * k)) (4 * k) (b % 4)) ∙ ap (λ y. y / 2 ^ (b % 4)) (shl-shr x (4 * k)))

-- ---- an entry e that comes into bucket x of row k

-- e added to bucket p
abbrev added : List ℕ → ℕ → ℕ → List ℕ
added bs p e = set bs p (at bs p ⊕ e)

module _ (bs : List ℕ) (k x e b : ℕ) where
  -- the other rows stay
  other_row : x < 16 → b / 4 ≢ k → gathered (added bs (k * 16 + x) e) b ≡ gathered bs b
  unfolding gathered
  other_row h a =
      sum-ext 16 (λ y l. ap (sel (bit (b % 4) y)) (get_or-set_other bs (k * 16 + x) (b / 4 * 16 + y) (at bs (k * 16 + x) ⊕ e) 0 (λ q. a (omega arith))))

  same_row : k * 16 + x < length bs → x < 16 → b / 4 ≡ k → gathered (added bs (k * 16 + x) e) b ≡ gathered bs b ⊕ sel (bit (b % 4) x) e
  unfolding gathered
  same_row l h q =
      sum_changed 16 x (λ y. sel (bit (b % 4) y) (at bs (b / 4 * 16 + y))) (λ y. sel (bit (b % 4) y) (at (added bs (k * 16 + x) e) (b / 4 * 16 + y))) h
      (λ y a. ap (sel (bit (b % 4) y)) (sym (get_or-set_other bs (k * 16 + x) (b / 4 * 16 + y) (at bs (k * 16 + x) ⊕ e) 0 (λ p. a (omega arith)))))
      ∙ ap (λ s. gathered bs b ⊕ s)
      (sym (sel-⊕ (bit (b % 4) x) (at bs (b / 4 * 16 + x)) (at (added bs (k * 16 + x) e) (b / 4 * 16 + x)))
      ∙ ap (sel (bit (b % 4) x)) (rw q
      (ap (λ y. at bs (k * 16 + x) ⊕ y) (get_or-set_same bs (k * 16 + x) (at bs (k * 16 + x) ⊕ e) 0 l) ∙ ⊕-cancel (at bs (k * 16 + x)) e)))

  -- in all, it is the entry of the word that has the nibble x at place k and zeros else
  gathered-more : k * 16 + x < length bs → x < 16 → gathered (added bs (k * 16 + x) e) b ≡ gathered bs b ⊕ sel (bit b (x * 2 ^ (4 * k))) e
  unfolding sel
  gathered-more l h = go (dec_lt b (4 * k)) (dec_lt b (4 * k + 4))
    where
      outside : b / 4 ≢ k → bit b (x * 2 ^ (4 * k)) ≡ 0 → gathered (added bs (k * 16 + x) e) b ≡ gathered bs b ⊕ sel (bit b (x * 2 ^ (4 * k))) e
      outside a z = other_row h a ∙ sym (ap (λ y. gathered bs b ⊕ sel y e) z ∙ ⊕-zero (gathered bs b))

      go : Dec (b < 4 * k) → Dec (b < 4 * k + 4) → gathered (added bs (k * 16 + x) e) b ≡ gathered bs b ⊕ sel (bit b (x * 2 ^ (4 * k))) e
      go (yes u) w = outside (λ q. omega arith) (below_row b k x u)
      go (no u) (no w) = outside (λ q. omega arith) (above_row b k x h (omega arith))
      go (no u) (yes w) =
          let q : b / 4 ≡ k = omega arith in
          same_row l h q ∙ ap (λ y. gathered bs b ⊕ sel y e) (sym (in_row b k x q))

-- ---- the nibbles of a half, the lowest at place `from` of a word, are the half there

-- what nibble j of the half gives to bit b
abbrev pub share : ℕ → ℕ → ℕ → ℕ → ℕ → ℕ
share half from e b j = sel (bit b (half / 2 ^ (4 * j) % 16 * 2 ^ (4 * (from + j)))) e

chosen_additive : (b e from : ℕ) → Additive (λ w. sel (bit b (w * 2 ^ (4 * from))) e)
chosen_additive b e from = then_additive (λ w. w * 2 ^ (4 * from)) (λ w. sel (bit b w) e) (shl_additive (4 * from)) (λ u w. sel-bit b u w e)

pub half_nibbles : (half from e b : ℕ) → half < 2 ^ 64 → sum 16 (share half from e b) ≡ sel (bit b (half * 2 ^ (4 * from))) e
half_nibbles half from e b h =
    sum-ext 16 (λ i l. ap (λ w. sel (bit b w) e) (moved (half / 2 ^ (4 * i) % 16) i))
    ∙ by_windows (λ w. sel (bit b (w * 2 ^ (4 * from))) e) (chosen_additive b e from) 4 16 half
    ∙ ap (λ w. sel (bit b (w * 2 ^ (4 * from))) e) (mod-eq_of_lt h)
  where
    moved : (x i : ℕ) → x * 2 ^ (4 * (from + i)) ≡ x * 2 ^ (4 * i) * 2 ^ (4 * from)
    moved x i =
        let z : 4 * (from + i) ≡ 4 * i + 4 * from = omega arith in
        ap (λ n. x * 2 ^ n) z ∙ ap (λ y. x * y) (pow-add 2 (4 * i) (4 * from)) ∙ sym (mul_assoc x (2 ^ (4 * i)) (2 ^ (4 * from)))

-- a turn of the loop over the nibbles of a half: the bucket of nibble i gets the sum s
pub nibble_more : (half from e i x s base b : ℕ) (bs vs : List ℕ) → vs ≡ set bs ((from + i) * 16 + x) s → s ≡ at bs ((from + i) * 16 + x) ⊕ e
    → (from + i) * 16 + x < length bs → x ≡ half / 2 ^ (4 * i) % 16
    → gathered bs b ≡ base ⊕ sum i (share half from e b)
    → gathered vs b ≡ base ⊕ sum (i + 1) (share half from e b)
unfolding sum
nibble_more half from e i x s base b bs vs p q l h g =
    ap (λ m. gathered m b) (p ∙ ap (set bs ((from + i) * 16 + x)) q)
    ∙ gathered-more bs (from + i) x e b l (omega arith)
    ∙ ap₂ (λ y n. y ⊕ sel (bit b (n * 2 ^ (4 * (from + i)))) e) g h
    ∙ ⊕_assoc base (sum i (share half from e b)) (share half from e b i)
    ∙ rw add-one

-- two halves are a word
pub halves-more : (h l e base b : ℕ) → l < 2 ^ 64
    → (base ⊕ sel (bit b (l * 2 ^ (4 * 0))) e) ⊕ sel (bit b (h * 2 ^ (4 * 16))) e ≡ base ⊕ sel (bit b (joined h l)) e
halves-more h l e base b k =
    ⊕_assoc base (sel (bit b (l * 1)) e) (sel (bit b (h * 2 ^ 64)) e)
    ∙ ap (λ y. base ⊕ y)
    (sym (sel-bit b (l * 1) (h * 2 ^ 64) e)
    ∙ ap (λ w. sel (bit b w) e) (⊕_comm (l * 1) (h * 2 ^ 64) ∙ ap (λ y. h * 2 ^ 64 ⊕ y) (mul-one l) ∙ ⊕-parts h 64 l k))

-- no word yet
pub gathered_none : (n b : ℕ) → gathered (words (replicate n 0)) b ≡ 0
unfolding gathered
gathered_none n b =
    sum-none 16 (λ x. sel (bit (b % 4) x) (at (words (replicate n 0)) (b / 4 * 16 + x)))
    (λ x l. ap (sel (bit (b % 4) x)) (at-zeros n (b / 4 * 16 + x)) ∙ sel-zero (bit (b % 4) x))

-- a word more came in
pub partial-more : (ws es : ℕ → ℕ) (v b : ℕ) {w e now next : ℕ} → w ≡ ws v → e ≡ es v → next ≡ now ⊕ sel (bit b w) e → now ≡ partial v ws es b
    → next ≡ partial (v + 1) ws es b
unfolding partial
partial-more ws es v b p q g h = sum_more (λ u. sel (bit b (ws u)) (es u)) v _ _ _ g (ap₂ (λ x y. sel (bit b x) y) p q) h
