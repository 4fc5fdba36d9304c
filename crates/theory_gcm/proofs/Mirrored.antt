-- Bytes with their bits in the other order: a block in bytes is its word's little-endian bytes, each of them mirrored.
use mathlib.Core.Path.{◌≡◌, refl, sym, ap, ap₂, ◌∙◌}
use mathlib.Core.Bool.{Bool}
use mathlib.Core.List.{List, [], ◌∷◌, map, map-append}
use Prim.Native.Nat.{ℕ, zero, suc, ◌+◌, ◌-◌, ◌*◌, ◌/◌, ◌%◌, ◌^◌, ◌<◌}
use native.Mathlib.Nat.{mod-lt, zero-lt-suc}
use native.Mathlib.Omega.{arith}
use lib.Dec.{T, eqb, eqb→eq, lit<}
use lib.ListN.{length, length-map}
use lib.Pow.{shr-shr}
use Rattle.theory_laws.specs.Xor.{bit}
use Rattle.theory_laws.specs.Table.{tab, at}
use Rattle.theory_laws.specs.Lists.{le_bytes, le_value}
use Rattle.theory_laws.proofs.Xor.{⊕_self, ⊕-bit, ⊕-mod, ⊕-shr, ⊕-block}
use Rattle.theory_laws.proofs.Table.{length-tab, tab-ext, tab-add, at-tab-lt}
use Rattle.theory_laws.proofs.Linear.{Additive, ext, all_below, below, then_additive}
use Rattle.theory_laws.proofs.Lists.{Bytes, length-le_bytes, le_value-le_bytes}
use Rattle.theory_laws.proofs.Bytes.{le_bytes-le_value, le_value-append, le_bytes-joined}
use Rattle.theory_field.specs.Words.{joined}
use Rattle.theory_gcm.specs.Strings.{number_of, bits_of}
use Rattle.theory_gcm.specs.Blocks.{string_of, bytes_of, imported, exported}
use Rattle.theory_gcm.specs.helpers.Mirrored.{mirrored, turned}
use Rattle.theory_gcm.proofs.Strings.{at-bits_of, bit-mod, number_of-lt, number_of-append, number_of-⊕}

pub bit-lt : (i w : ℕ) → bit i w < 2
bit-lt i w = mod-lt (w / 2 ^ i) (zero-lt-suc 1)

-- ---- a byte

pub mirrored-⊕ : Additive mirrored
unfolding mirrored
mirrored-⊕ a b =
    ap number_of (tab-ext 8 (λ i h. ⊕-bit a b (7 - i)))
    ∙ number_of-⊕ 8 (λ i. bit (7 - i) a) (λ i. bit (7 - i) b) (λ i. bit-lt (7 - i) a) (λ i. bit-lt (7 - i) b)

pub mirrored-lt : (b : ℕ) → mirrored b < 256
unfolding mirrored
mirrored-lt b =
    let f : ℕ → ℕ = λ i. bit (7 - i) b in
    number_of-lt 8 (tab 8 f) (length-tab 8 f) (at-tab-lt 1 8 f (λ i. bit-lt (7 - i) b))

-- on 2^i, computed
right : ℕ → Bool
right i = eqb (mirrored (mirrored (2 ^ i))) (2 ^ i)

basis : T (all_below 8 right)
unfolding right mirrored number_of tab
basis = tt

pub mirrored-twice : (b : ℕ) → b < 256 → mirrored (mirrored b) ≡ b
unfolding right
mirrored-twice b h =
    ext 8 (λ x. mirrored (mirrored x)) (λ x. x) (then_additive mirrored mirrored mirrored-⊕ mirrored-⊕) (λ a b. refl)
    (λ i k. eqb→eq (mirrored (mirrored (2 ^ i))) (2 ^ i) (below 8 right basis i k)) b h

-- ---- bytes

pub mirrored-bytes : (l : List ℕ) → Bytes (map mirrored l)
mirrored-bytes [] k = lit< tt
mirrored-bytes (b ∷ l) zero = mirrored-lt b
mirrored-bytes (b ∷ l) (suc k) = mirrored-bytes l k

pub all-twice : (l : List ℕ) → Bytes l → map mirrored (map mirrored l) ≡ l
all-twice [] h = refl
all-twice (b ∷ l) h = ap₂ (λ (x : ℕ) (r : List ℕ). x ∷ r) (mirrored-twice b (h 0)) (all-twice l (λ k. h (suc k)))

pub le_bytes-bytes : (n x : ℕ) → Bytes (le_bytes n x)
unfolding le_bytes
le_bytes-bytes zero x k = lit< tt
le_bytes-bytes (suc n) x zero = mod-lt x (zero-lt-suc 255)
le_bytes-bytes (suc n) x (suc k) = le_bytes-bytes n (x / 256) k

length-mirrored : (n x : ℕ) → length (map mirrored (le_bytes n x)) ≡ n
length-mirrored n x = length-map (le_bytes n x) mirrored ∙ length-le_bytes n x

-- ---- a block

tab-cons : (n : ℕ) (f : ℕ → ℕ) → tab (suc n) f ≡ f 0 ∷ tab n (λ k. f (suc k))
unfolding tab
tab-cons n f = refl

-- bit i of a string of bytes
abbrev bit_at : List ℕ → ℕ → ℕ
bit_at l i = bit (7 - i % 8) (at l (i / 8))

first_byte : (b : ℕ) (l : List ℕ) (i : ℕ) → i < 8 → bit_at (b ∷ l) i ≡ bit (7 - i) b
first_byte b l i h =
    let r : i % 8 ≡ i = omega arith in
    let q : i / 8 ≡ 0 = omega arith in
    ap₂ (λ (x y : ℕ). bit (7 - x) (at (b ∷ l) y)) r q

next-bytes : (b : ℕ) (l : List ℕ) (i : ℕ) → bit_at (b ∷ l) (8 + i) ≡ bit_at l i
next-bytes b l i =
    let r : (8 + i) % 8 ≡ i % 8 = omega arith in
    let q : (8 + i) / 8 ≡ suc (i / 8) = omega arith in
    ap₂ (λ (x y : ℕ). bit (7 - x) (at (b ∷ l) y)) r q

string_number : (l : List ℕ) → number_of (tab (length l * 8) (bit_at l)) ≡ le_value (map mirrored l)
unfolding le_value
string_number [] = unfold tab number_of in refl
string_number (b ∷ l) =
    let e : suc (length l) * 8 ≡ 8 + length l * 8 = omega arith in
    let head : List ℕ = tab 8 (bit_at (b ∷ l)) in
    let rest : List ℕ = tab (length l * 8) (λ i. bit_at (b ∷ l) (8 + i)) in
    let low : number_of head ≡ mirrored b = unfold mirrored in ap number_of (tab-ext 8 (first_byte b l)) in
    let high : number_of rest ≡ le_value (map mirrored l) =
    ap number_of (tab-ext (length l * 8) (λ i h. next-bytes b l i)) ∙ string_number l in
    ap (λ (n : ℕ). number_of (tab n (bit_at (b ∷ l)))) e ∙ ap number_of (tab-add 8 (length l * 8) (bit_at (b ∷ l))) ∙ number_of-append head rest
    ∙ ap (λ (n : ℕ). number_of rest * 2 ^ n + number_of head) (length-tab 8 (bit_at (b ∷ l)))
    ∙ ap₂ (λ (x y : ℕ). x * 256 + y) high low

-- the word of 16 bytes
pub imported-mirrored : (l : List ℕ) → length l ≡ 16 → imported l ≡ le_value (map mirrored l)
unfolding imported string_of
imported-mirrored l h = let e : 128 ≡ length l * 8 = omega arith in ap (λ (n : ℕ). number_of (tab n (bit_at l))) e ∙ string_number l

-- the n bytes whose bits, each byte's in the other order, are those of a number
string_bytes : (n w : ℕ) → tab n (λ j. number_of (tab 8 (λ i. bit (8 * j + (7 - i)) w))) ≡ map mirrored (le_bytes n w)
unfolding le_bytes
string_bytes zero w = unfold tab in refl
string_bytes (suc n) w =
    tab-cons n (λ j. number_of (tab 8 (λ i. bit (8 * j + (7 - i)) w)))
    ∙ ap₂ (λ (x : ℕ) (r : List ℕ). x ∷ r) (unfold mirrored in ap number_of (tab-ext 8 (λ i h. low i)))
    (tab-ext n (λ j h. ap number_of (tab-ext 8 (λ i k. above j (7 - i)))) ∙ string_bytes n (w / 256))
  where
    low : (i : ℕ) → bit (8 * 0 + (7 - i)) w ≡ bit (7 - i) (w % 256)
    low i =
        let e : 8 * 0 + (7 - i) ≡ 7 - i = omega arith in
        ap (λ (k : ℕ). bit k w) e ∙ sym (bit-mod 8 w (7 - i) (omega arith))

    above : (j k : ℕ) → bit (8 * suc j + k) w ≡ bit (8 * j + k) (w / 256)
    above j k =
        let e : 8 * suc j + k ≡ 8 + (8 * j + k) = omega arith in
        ap (λ (m : ℕ). bit m w) e ∙ ap (λ (x : ℕ). x % 2) (sym (shr-shr w 8 (8 * j + k)))

-- the 16 bytes of a word
pub exported-mirrored : (w : ℕ) → exported w ≡ map mirrored (le_bytes 16 w)
unfolding exported bytes_of
exported-mirrored w = tab-ext 16 (λ j h. ap number_of (tab-ext 8 (λ i k. at-bits_of 128 w (8 * j + (7 - i)) (omega arith)))) ∙ string_bytes 16 w

pub length_exported : (w : ℕ) → length (exported w) ≡ 16
length_exported w = ap length (exported-mirrored w) ∙ length-mirrored 16 w

-- export after import gives back the block
pub exported-imported : (l : List ℕ) → length l ≡ 16 → Bytes l → exported (imported l) ≡ l
exported-imported l e h =
    exported-mirrored (imported l) ∙ ap (λ (w : ℕ). map mirrored (le_bytes 16 w)) (imported-mirrored l e)
    ∙ ap (map mirrored) (le_bytes-le_value 16 (map mirrored l) (length-map l mirrored ∙ e) (mirrored-bytes l)) ∙ all-twice l h

-- and import after export the word
pub imported-exported : (w : ℕ) → w < 2 ^ 128 → imported (exported w) ≡ w
imported-exported w h =
    imported-mirrored (exported w) (length_exported w) ∙ ap (λ (l : List ℕ). le_value (map mirrored l)) (exported-mirrored w)
    ∙ ap le_value (all-twice (le_bytes 16 w) (le_bytes-bytes 16 w)) ∙ le_value-le_bytes 16 w h

-- ---- a number of n bytes, each mirrored, as code turns it

pub turned-⊕ : (n : ℕ) → Additive (turned n)
unfolding turned le_bytes le_value
turned-⊕ zero a b = sym (⊕_self 0)
turned-⊕ (suc n) a b =
    ap₂ (λ (x y : ℕ). x * 256 + y) (ap (turned n) (⊕-shr a b 8) ∙ turned-⊕ n (a / 256) (b / 256))
    (ap mirrored (⊕-mod a b 8) ∙ mirrored-⊕ (a % 256) (b % 256))
    ∙ sym (⊕-block 8 (turned n (a / 256)) (turned n (b / 256)) (mirrored (a % 256)) (mirrored (b % 256)) (mirrored-lt (a % 256)) (mirrored-lt (b % 256)))

-- by halves
pub turned-joined : (h l : ℕ) → l < 2 ^ 64 → turned 16 (joined h l) ≡ joined (turned 8 h) (turned 8 l)
unfolding turned
turned-joined h l b =
    ap (λ (r : List ℕ). le_value (map mirrored r)) (le_bytes-joined 8 8 h l b)
    ∙ ap le_value (map-append mirrored (le_bytes 8 l) (le_bytes 8 h))
    ∙ le_value-append (map mirrored (le_bytes 8 l)) (map mirrored (le_bytes 8 h))
    ∙ ap (λ (n : ℕ). le_value (map mirrored (le_bytes 8 h)) * 256 ^ n + le_value (map mirrored (le_bytes 8 l))) (length-mirrored 8 l)

-- import and export by it
pub imported-turned : (l : List ℕ) → length l ≡ 16 → Bytes l → imported l ≡ turned 16 (le_value l)
unfolding turned
imported-turned l e h = imported-mirrored l e ∙ ap (λ (r : List ℕ). le_value (map mirrored r)) (sym (le_bytes-le_value 16 l e h))

pub exported-turned : (w : ℕ) → exported w ≡ le_bytes 16 (turned 16 w)
unfolding turned
exported-turned w =
    exported-mirrored w ∙ sym (le_bytes-le_value 16 (map mirrored (le_bytes 16 w)) (length-mirrored 16 w) (mirrored-bytes (le_bytes 16 w)))
