-- Nibbles of a word by its halves, a value chosen by a bit, and phi by tables of nibbles. Rests on the windows of an additive
-- map (theory_laws, Windows) and on phi's laws in theory_multilinear.
use mathlib.Core.Path.{◌≡◌, refl, sym, ap, ap₂, ◌∙◌}
use mathlib.Core.List.{List}
use Prim.Native.Nat.{ℕ, zero, suc, ◌+◌, ◌-◌, ◌*◌, ◌/◌, ◌%◌, ◌^◌, ◌≤◌, ◌<◌}
use native.Mathlib.Nat.{mod-lt, mod-eq_of_lt, zero-lt-suc, zero-add}
use native.Mathlib.Omega.{arith}
use lib.Arith.{digits_div, digits_mod}
use lib.Bits.{bit_and, and_mask}
use lib.Pow.{field, shr-shr, high, low, mod-mod-pow}
use Rattle.theory_laws.specs.Sum.{sum}
use Rattle.theory_laws.specs.Table.{at}
use Rattle.theory_laws.specs.Xor.{◌⊕◌, bit, sel}
use Rattle.theory_laws.proofs.Sum.{sum-ext, sum-split}
use Rattle.theory_laws.proofs.Table.{at-tab}
use Rattle.theory_field.specs.Words.{joined}
use Rattle.theory_multilinear.specs.Phi.{phi}
use Rattle.theory_multilinear.proofs.Phi.{phi-add, phi_power}
use Rattle.field_pack.specs.Phi.{phi_tab, chosen}
use Rattle.theory_laws.proofs.Windows.{window-bits, by_windows}

-- ---- k bits from place b on, by the half that has them

low_bits : (h l n : ℕ) → n ≤ 64 → l < 2 ^ 64 → joined h l % 2 ^ n ≡ l % 2 ^ n
low_bits h l n hn hl =
    let e : 64 - n + n ≡ 64 = omega arith in
    sym (mod-mod-pow (joined h l) (64 - n) n)
    ∙ ap (λ (m : ℕ). joined h l % 2 ^ m % 2 ^ n) e ∙ ap (λ (x : ℕ). x % 2 ^ n) (low h 64 hl)

pub low-window : (h l b k : ℕ) → k + b ≤ 64 → l < 2 ^ 64 → joined h l / 2 ^ b % 2 ^ k ≡ l / 2 ^ b % 2 ^ k
low-window h l b k hb hl = sym (field (joined h l) k b) ∙ ap (λ (x : ℕ). x / 2 ^ b) (low_bits h l (k + b) hb hl) ∙ field l k b

pub high-window : (h l b k : ℕ) → l < 2 ^ 64 → joined h l / 2 ^ (64 + b) % 2 ^ k ≡ h / 2 ^ b % 2 ^ k
high-window h l b k hl = ap (λ (x : ℕ). x % 2 ^ k) (sym (shr-shr (joined h l) 64 b) ∙ ap (λ (x : ℕ). x / 2 ^ b) (high h 64 hl))

-- bit i of a number below 2^64 that code shifts down
pub bit_of_number : (k i : ℕ) → bit_and (k / 2 ^ i) 1 ≡ bit i k
bit_of_number k i = and_mask (k / 2 ^ i) 1

-- ---- a value chosen by a bit, as code tests it

pub unset : (b x : ℕ) → b ≡ 0 → 0 ≡ sel b x
unfolding sel
unset b x e = rw e

pub set-bit : (b x : ℕ) → (b ≡ 0 → ⊥) → x ≡ sel b x
unfolding sel
set-bit zero x h = absurd (h refl)
set-bit (suc b) x h = refl

-- ---- phi by tables

-- an entry of a table is phi of what it stands for
pub entry-phi : (c : ℕ → ℕ) (k : ℕ) → k < 512 → sum 4 (λ i. sel (bit i k) (c (4 * (k / 16) + i))) ≡ phi c (k % 16 * 2 ^ (4 * (k / 16)))
entry-phi c k h =
    sum-ext 4 (λ i l. ap (sel (bit i k)) (sym (phi_power c (4 * (k / 16) + i) (omega arith))))
    ∙ window-bits (phi c) (phi-add c) 4 (4 * (k / 16)) k

-- the nibbles of a word by its halves
pub halves-chosen : (t : List ℕ) (h l : ℕ) → l < 2 ^ 64
    → sum 16 (λ i. at t ((0 + i) * 16 + l / 2 ^ (4 * i) % 16)) ⊕ sum 16 (λ i. at t ((16 + i) * 16 + h / 2 ^ (4 * i) % 16)) ≡ chosen t (joined h l)
unfolding chosen
halves-chosen t h l hl =
    sym
    (sum-split 16 16 (λ j. at t (j * 16 + joined h l / 2 ^ (4 * j) % 16))
    ∙ ap₂ ◌⊕◌
    (sum-ext 16 (λ i k. ap₂ (λ (x y : ℕ). at t (x * 16 + y)) (sym (zero-add i)) (low-window h l (4 * i) 4 (omega arith) hl)))
    (sum-ext 16 (λ i k. ap (λ (x : ℕ). at t ((16 + i) * 16 + x)) (ap (λ (n : ℕ). joined h l / 2 ^ n % 16) (place i) ∙ high-window h l (4 * i) 4 hl))))
  where
    place : (i : ℕ) → 4 * (16 + i) ≡ 64 + 4 * i
    place i = omega arith

-- `PhiTab::apply` equals `phi_c`
pub chosen-phi : (c : ℕ → ℕ) (w : ℕ) → w < 2 ^ 128 → chosen (phi_tab c) w ≡ phi c w
unfolding chosen phi_tab
chosen-phi c w h =
    sum-ext 32
    (λ j k. at-tab 512 _ (j * 16 + w / 2 ^ (4 * j) % 16) (place j (w / 2 ^ (4 * j)) k)
    ∙ entry j (w / 2 ^ (4 * j) % 16) (mod-lt (w / 2 ^ (4 * j)) (zero-lt-suc 15)))
    ∙ by_windows (phi c) (phi-add c) 4 32 w ∙ ap (phi c) (mod-eq_of_lt h)
  where
    place : (j x : ℕ) → j < 32 → j * 16 + x % 16 < 512
    place j x k = omega arith

    entry : (j n : ℕ) → n < 16 → phi c ((j * 16 + n) % 16 * 2 ^ (4 * ((j * 16 + n) / 16))) ≡ phi c (n * 2 ^ (4 * j))
    entry j n k = ap₂ (λ (x y : ℕ). phi c (x * 2 ^ (4 * y))) (digits_mod j k) (digits_div j k)
