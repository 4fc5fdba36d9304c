-- The bits of each byte of a u64 in the other order, as code does it by shifts and masks: an additive map, known by its values on the powers of two.
use mathlib.Core.Path.{◌≡◌}
use mathlib.Core.Bool.{Bool}
use Prim.Native.Nat.{ℕ, ◌*◌, ◌/◌, ◌%◌, ◌^◌, ◌<◌}
use lib.Bits.{bit_and}
use lib.Dec.{T, eqb, eqb→eq}
use Rattle.theory_laws.specs.Xor.{◌⊕◌}
use Rattle.theory_laws.specs.Table.{tab}
use Rattle.theory_laws.specs.Lists.{le_bytes, le_value}
use Rattle.theory_laws.proofs.Linear.{Additive, ext, all_below, below, sum_additive, then_additive, mask_additive, shr_additive, shl-mod_additive}
use Rattle.theory_gcm.specs.Strings.{number_of}
use Rattle.theory_gcm.specs.helpers.Mirrored.{mirrored, turned}
use Rattle.theory_gcm.proofs.Mirrored.{turned-⊕}

-- groups of k bits change places with their neighbours; the mask has the lower of each two
abbrev swapped : ℕ → ℕ → ℕ → ℕ
swapped k m x = bit_and (x / 2 ^ k) m ⊕ bit_and x m * 2 ^ k % 2 ^ 64

swapped-⊕ : (k m : ℕ) → Additive (swapped k m)
swapped-⊕ k m =
    sum_additive (λ x. bit_and (x / 2 ^ k) m) (λ x. bit_and x m * 2 ^ k % 2 ^ 64)
    (then_additive (λ x. x / 2 ^ k) (λ x. bit_and x m) (shr_additive k) (mask_additive m))
    (then_additive (λ x. bit_and x m) (λ x. x * 2 ^ k % 2 ^ 64) (mask_additive m) (shl-mod_additive k 64))

unfoldable pub by_masks : ℕ → ℕ
by_masks x = swapped 1 0x5555_5555_5555_5555 (swapped 2 0x3333_3333_3333_3333 (swapped 4 0x0f0f_0f0f_0f0f_0f0f x))

by_masks_⊕ : Additive by_masks
unfolding by_masks
by_masks_⊕ =
    then_additive _ (swapped 1 0x5555_5555_5555_5555)
    (then_additive _ (swapped 2 0x3333_3333_3333_3333) (swapped-⊕ 4 0x0f0f_0f0f_0f0f_0f0f) (swapped-⊕ 2 0x3333_3333_3333_3333))
    (swapped-⊕ 1 0x5555_5555_5555_5555)

-- on 2^i, computed
right : ℕ → Bool
right i = eqb (by_masks (2 ^ i)) (turned 8 (2 ^ i))

basis : T (all_below 64 right)
unfolding right by_masks turned mirrored number_of tab le_bytes le_value ◌⊕◌
basis = tt

pub by_masks_turned : (x : ℕ) → x < 2 ^ 64 → by_masks x ≡ turned 8 x
unfolding right
by_masks_turned x h =
    ext 64 by_masks (turned 8) by_masks_⊕ (turned-⊕ 8) (λ i k. eqb→eq (by_masks (2 ^ i)) (turned 8 (2 ^ i)) (below 64 right basis i k)) x h
