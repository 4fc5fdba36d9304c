-- Bits spread apart as code does it: 32 of them by shifts and masks, or by their bytes; a half of two such parts; and a word's square of
-- its halves.
use mathlib.Core.Path.{◌≡◌, refl, sym, ap, ap₂, ◌∙◌}
use mathlib.Core.Bool.{Bool}
use Prim.Native.Nat.{ℕ, ◌+◌, ◌*◌, ◌/◌, ◌%◌, ◌^◌, ◌≤◌, ◌<◌}
use native.Mathlib.Omega.{arith}
use lib.Bits.{bit_and}
use lib.Dec.{T, eqb, eqb→eq}
use lib.Pow.{shl_exact, shr-shr, high, low}
use Rattle.theory_laws.specs.Xor.{◌⊕◌}
use Rattle.theory_laws.proofs.Xor.{⊕_comm, ⊕-parts}
use Rattle.theory_laws.proofs.Linear.{Additive, ext, all_below, below, sum_additive, then_additive, mask_additive, shl-mod_additive}
use Rattle.theory_field.specs.Field.{sq}
use Rattle.theory_field.specs.Spread.{spread}
use Rattle.theory_field.specs.Words.{joined}
use Rattle.theory_field.proofs.LongProduct.{red}
use Rattle.theory_field.proofs.Square.{spread-⊕}
use Rattle.theory_field.proofs.Spread.{spread_cut, spread-low, spread-lt, sq-spread}
use Rattle.field_gf128.specs.declared.Word.{Word}
use Rattle.field_gf128.specs.Word.{word, wide}
use Rattle.field_gf128.proofs.Halves.{joined-lt}

-- each group of bits parted in two, k places between them
abbrev parted : ℕ → ℕ → ℕ → ℕ
parted k m x = bit_and (x ⊕ x * 2 ^ k % 2 ^ 64) m

parted-⊕ : (k m : ℕ) → Additive (parted k m)
parted-⊕ k m = then_additive (λ x. x ⊕ x * 2 ^ k % 2 ^ 64) (λ x. bit_and x m) (sum_additive (λ x. x) _ (λ a b. refl) (shl-mod_additive k 64)) (mask_additive m)

unfoldable pub by_masks : ℕ → ℕ
by_masks x =
    parted 1 0x5555_5555_5555_5555
    (parted 2 0x3333_3333_3333_3333
    (parted 4 0x0f0f_0f0f_0f0f_0f0f
    (parted 8 0x00ff_00ff_00ff_00ff
    (parted 16 0x0000_ffff_0000_ffff x))))

by_masks_⊕ : Additive by_masks
unfolding by_masks
by_masks_⊕ =
    then_additive _ (parted 1 0x5555_5555_5555_5555)
    (then_additive _ (parted 2 0x3333_3333_3333_3333)
    (then_additive _ (parted 4 0x0f0f_0f0f_0f0f_0f0f)
    (then_additive (parted 16 0x0000_ffff_0000_ffff) (parted 8 0x00ff_00ff_00ff_00ff) (parted-⊕ 16 0x0000_ffff_0000_ffff) (parted-⊕ 8 0x00ff_00ff_00ff_00ff))
    (parted-⊕ 4 0x0f0f_0f0f_0f0f_0f0f))
    (parted-⊕ 2 0x3333_3333_3333_3333))
    (parted-⊕ 1 0x5555_5555_5555_5555)

-- on x^i, computed
right : ℕ → Bool
right i = eqb (by_masks (2 ^ i)) (spread 32 (2 ^ i))

basis : T (all_below 32 right)
unfolding right by_masks spread ◌⊕◌
basis = tt

pub by_masks_spread : (x : ℕ) → x < 2 ^ 32 → by_masks x ≡ spread 32 x
unfolding right
by_masks_spread x h =
    ext 32 by_masks (spread 32) by_masks_⊕ (spread-⊕ 32) (λ i k. eqb→eq (by_masks (2 ^ i)) (spread 32 (2 ^ i)) (below 32 right basis i k)) x h

-- ---- put together

-- as many bits again above m of them: b is put above a, and nothing is shifted out
pub twice_as_many : (m x a b : ℕ) → 2 * m + 2 * m ≤ 64 → a ≡ spread m x → b ≡ spread m (x / 2 ^ m)
    → a ⊕ b * 2 ^ (2 * m) % 2 ^ 64 ≡ spread (m + m) x
twice_as_many m x a b h ea eb =
    ap₂ (λ (u v : ℕ). u ⊕ v * 2 ^ (2 * m) % 2 ^ 64) ea eb
    ∙ ap (λ (u : ℕ). spread m x ⊕ u) (shl_exact (2 * m) (2 * m) 64 (spread-lt m (x / 2 ^ m)) h) ∙ sym (spread_cut m m x)

-- four bytes a, b, c, d of a number, the lowest first
pub four_bytes : (x a b c d : ℕ) → a ≡ spread 8 x → b ≡ spread 8 (x / 2 ^ 8) → c ≡ spread 8 (x / 2 ^ 16) → d ≡ spread 8 (x / 2 ^ 24)
    → (a ⊕ b * 2 ^ 16 % 2 ^ 64) ⊕ (c ⊕ d * 2 ^ 16 % 2 ^ 64) * 2 ^ 32 % 2 ^ 64 ≡ spread 32 x
four_bytes x a b c d ea eb ec ed =
    twice_as_many 16 x _ _ (omega arith) (twice_as_many 8 x a b (omega arith) ea eb)
    (twice_as_many 8 (x / 2 ^ 16) c d (omega arith) ec (ed ∙ ap (spread 8) (sym (shr-shr x 16 8))))

-- a half x spreads to a word; p and q are its parts, the lower first
pub half-parts : (x p q : ℕ) → p ≡ spread 32 x → q ≡ spread 32 (x / 2 ^ 32) → joined q p ≡ spread 64 x
half-parts x p q ep eq =
    ap₂ joined eq ep
    ∙ sym
    (spread_cut 32 32 x ∙ ⊕_comm (spread 32 x) (spread 32 (x / 2 ^ 32) * 2 ^ 64)
    ∙ ⊕-parts (spread 32 (x / 2 ^ 32)) 64 (spread 32 x) (spread-lt 32 x))

-- a word's halves spread to two words, and its square is these reduced
pub word_squared : (a p q : Word) → a.hi < 2 ^ 64 → a.lo < 2 ^ 64 → word p ≡ spread 64 a.lo → word q ≡ spread 64 a.hi
    → red (wide (record { lo = p; hi = q })) ≡ sq (word a)
unfolding word wide
word_squared a p q hh hl ep eq =
    ap₂ (λ (u v : ℕ). red (u * 2 ^ 128 + v)) eq ep ∙ ap red (sym cut) ∙ sym (sq-spread (joined h l) (joined-lt h l hh hl))
  where
    h : ℕ
    h = a.hi

    l : ℕ
    l = a.lo

    cut : spread 128 (joined h l) ≡ spread 64 h * 2 ^ 128 + spread 64 l
    cut =
        spread_cut 64 64 (joined h l)
        ∙ ap₂ (λ (u v : ℕ). u ⊕ spread 64 v * 2 ^ 128) (sym (spread-low 64 (joined h l)) ∙ ap (spread 64) (low h 64 hl)) (high h 64 hl)
        ∙ ⊕_comm (spread 64 l) (spread 64 h * 2 ^ 128) ∙ ⊕-parts (spread 64 h) 128 (spread 64 l) (spread-lt 64 l)
