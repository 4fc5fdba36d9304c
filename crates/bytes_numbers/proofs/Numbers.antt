-- The library's bytes of a number are the definition's, and a number put byte after byte.
use Prim.Native.Nat.{ℕ, zero, suc, ◌+◌, ◌-◌, ◌/◌, ◌%◌, ◌^◌, ◌≤◌, ◌<◌}
use mathlib.Core.Path.{◌≡◌, refl, sym, ◌∙◌, ap, ap₂}
use mathlib.Core.List.{List, [], ◌∷◌, ◌++◌}
use native.Mathlib.Omega.{arith}
use native.Mathlib.Nat.{div-div-eq-div-mul, pow-suc, div-one}
use native.Mathlib.Numerals.{add-one}
use lib.ListN.{length, set, take, drop, replicate, length-append, length-drop}
use lib.Seq.{get_or-drop}
use Rattle.std.specs.Int.{w32, w64, byte_at, bytes_low_first, to_le_bytes, from_le_bytes}
use Rattle.std.proofs.lemmas.Nat.{le_bytes_4, le_bytes_8}
use Rattle.theory_laws.specs.Table.{at}
use Rattle.theory_laws.specs.Lists.{part, stored, le_bytes, le_value}
use Rattle.theory_laws.proofs.Table.{zeros-at}
use Rattle.theory_laws.proofs.Lists.{Bytes, stored-nil, stored-cons, stored-all, length-le_bytes, le_value-le_bytes, lent-part, length_part, length-part-le}
use Rattle.theory_laws.proofs.Bytes.{le_value-lt, le_value-append, below-part, below-append}

-- k bytes from byte i on are those of the number without its i lowest bytes
low_first : (k i x : ℕ) → bytes_low_first i k x ≡ le_bytes k (x / 256 ^ i)
unfolding le_bytes
low_first zero i x = refl
low_first (suc k) i x =
    ap₂ (λ (b : ℕ) (r : List ℕ). b ∷ r) (first i)
    (low_first k (suc i) x ∙ ap (le_bytes k) (ap (λ (m : ℕ). x / m) (pow-suc 256 i) ∙ sym (div-div-eq-div-mul x (256 ^ i) 256)))
  where
    first : (i : ℕ) → byte_at i x ≡ x / 256 ^ i % 256
    first zero = ap (λ (y : ℕ). y % 256) (sym (div-one x))
    first (suc i) = refl

pub to_le_8 : (x : ℕ) → to_le_bytes w64 x ≡ le_bytes 8 x
to_le_8 x = low_first 8 0 x ∙ ap (le_bytes 8) (div-one x)

pub to_le_4 : (x : ℕ) → to_le_bytes w32 x ≡ le_bytes 4 x
to_le_4 x = low_first 4 0 x ∙ ap (le_bytes 4) (div-one x)

-- ---- a number put byte after byte: what is left to store, from byte i on

pub left-begin : (items : List ℕ) (size x : ℕ) → length items ≡ size → stored items 0 (le_bytes (size - 0) x) ≡ le_bytes size x
left-begin items size x e =
    let z : size - 0 ≡ size = omega arith in
    rw z (stored-all items (le_bytes size x) (length-le_bytes size x ∙ sym e))

module _ (items : List ℕ) (i size x : ℕ) (r : List ℕ) (e : stored items i (le_bytes (size - i) x) ≡ r) where
  pub left-step : i < size → stored (set items i (x % 256)) (i + 1) (le_bytes (size - (i + 1)) (x / 256)) ≡ r
  unfolding le_bytes
  left-step h =
      let m : size - i ≡ suc (size - suc i) = omega arith in
      rw add-one (rw (m, stored-cons) at e)

  pub left-none : size ≤ i → items ≡ r
  unfolding le_bytes
  left-none h = let m : size - i ≡ 0 = omega arith in rw (m, stored-nil) at e

-- ---- read

zeros-left : (n i k : ℕ) → at (drop i (replicate {A = ℕ} n 0)) k ≡ 0
zeros-left n i k = get_or-drop i (replicate {A = ℕ} n 0) k 0 ∙ zeros-at n (i + k)

le_value-zeros : (l : List ℕ) → ((k : ℕ) → at l k ≡ 0) → le_value l ≡ 0
unfolding le_value
le_value-zeros [] h = refl
le_value-zeros (x ∷ l) h = omega (arith, le_value-zeros l (λ k. h (suc k)), h 0)

-- the library reads the number that eight bytes hold
from_le_8 : (l : List ℕ) (x : ℕ) → length l ≡ 8 → Bytes l → x < 256 ^ 8 → x ≡ from_le_bytes w64 l → x ≡ le_value l
from_le_8 l x e b h f = sym (le_value-le_bytes 8 x h) ∙ ap le_value (sym (to_le_8 x) ∙ le_bytes_8 l x e b f)

-- and the number that four bytes hold
pub from_le_4 : (l : List ℕ) (x : ℕ) → length l ≡ 4 → Bytes l → x < 256 ^ 4 → x ≡ from_le_bytes w32 l → x ≡ le_value l
from_le_4 l x e b h f = sym (le_value-le_bytes 4 x h) ∙ ap le_value (sym (to_le_4 x) ∙ le_bytes_4 l x e b f)

-- so many bytes, at most 8, hold a number below 256 to that power
pub number_read : (size from : ℕ) (s bs : List ℕ) (x : ℕ) → size ≤ 8 → from + size ≤ length s → Bytes s
    → bs ≡ take (from + size - from) (drop from s) ++ drop size (replicate 8 0) → x < 256 ^ 8 → x ≡ from_le_bytes w64 bs
    → (x ≡ le_value (part size from s)) × (x < 256 ^ size)
number_read size from s bs x h k b e l f = (value, rw value below)
  where
    zeros : List ℕ
    zeros = drop size (replicate 8 0)

    is : bs ≡ part size from s ++ zeros
    is = e ∙ ap (λ (p : List ℕ). p ++ zeros) (lent-part size from s)

    long : length bs ≡ 8
    long = ap length is ∙ length-append (part size from s) zeros ∙ omega (arith, length_part size from s k, length-drop size (replicate {A = ℕ} 8 0))

    bytes : Bytes bs
    bytes j = rw is (below-append 256 (part size from s) zeros (below-part 256 size from s (omega arith) b) (λ i. rw (zeros-left 8 size i) (omega arith)) j)

    value : x ≡ le_value (part size from s)
    value =
        from_le_8 bs x long bytes l f ∙ ap le_value is ∙ le_value-append (part size from s) zeros
        ∙ (let z = le_value-zeros zeros (zeros-left 8 size) in rw z (omega arith))

    below : le_value (part size from s) < 256 ^ size
    below = le_value-lt size (part size from s) (length-part-le size from s) (below-part 256 size from s (omega arith) b)
