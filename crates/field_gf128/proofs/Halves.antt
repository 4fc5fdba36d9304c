-- What code does to the two halves of a word, said of the word.
use mathlib.Core.Path.{◌≡◌, sym, ap, ap₂, ◌∙◌, subst}
use Prim.Native.Nat.{ℕ, ◌+◌, ◌*◌, ◌/◌, ◌%◌, ◌^◌, ◌<◌}
use native.Mathlib.Nat.{mul_comm, zero-add, add-mul-div_right, add-mul-mod_self_right}
use native.Mathlib.Omega.{arith}
use lib.Arith.{digits_lt}
use lib.Pow.{pow_pos, pow-add, shr-shr, high, mod-pow-add}
use lib.Bits.{bit_xor}
use lib.Dec.{lit<}
use Rattle.theory_laws.specs.Xor.{◌⊕◌, bit, sel}
use Rattle.theory_laws.proofs.Xor.{⊕-block, ⊕-parts, zero-⊕, sel-times, sel-lt}
use Rattle.theory_field.specs.Field.{reduction, xtime}
use Rattle.theory_field.specs.Words.{joined}
use Rattle.theory_field.proofs.Words.{same-joined}
use Rattle.field_gf128.specs.declared.Word.{Word}
use Rattle.field_gf128.specs.Word.{word}

pub joined-lt : (h l : ℕ) → h < 2 ^ 64 → l < 2 ^ 64 → joined h l < 2 ^ 128
joined-lt h l hh hl = subst (λ (x : ℕ). joined h l < x) (sym (pow-add 2 64 64)) (digits_lt hh hl)

-- a word of the code is below 2^128
pub word_lt : (w : Word) → w.hi < 2 ^ 64 → w.lo < 2 ^ 64 → word w < 2 ^ 128
unfolding word
word_lt w hh hl = joined-lt w.hi w.lo hh hl

-- two words of the code with one number are one
pub word_settles : (v w : Word) → v.lo < 2 ^ 64 → w.lo < 2 ^ 64 → word v ≡ word w → v ≡ w
unfolding word
word_settles v w hv hw e =
    let halves = same-joined v.hi v.lo w.hi w.lo hv hw e in
    ap₂ (λ (h l : ℕ). record { lo = l; hi = h }) halves.0 halves.1

pub add-halves : (ah al bh bl : ℕ) → al < 2 ^ 64 → bl < 2 ^ 64
    → joined (bit_xor ah bh) (bit_xor al bl) ≡ joined ah al ⊕ joined bh bl
unfolding ◌⊕◌
add-halves ah al bh bl ha hb = sym (⊕-block 64 ah bh al bl ha hb)

-- a sum into the low half alone
pub low-⊕ : (r h l : ℕ) → r < 2 ^ 64 → l < 2 ^ 64 → r ⊕ joined h l ≡ joined h (r ⊕ l)
low-⊕ r h l hr hl =
    ap (λ (x : ℕ). x ⊕ joined h l) (sym (zero-add r))
    ∙ ⊕-block 64 0 h r l hr hl ∙ ap (λ (x : ℕ). joined x (r ⊕ l)) (zero-⊕ h)

carry_in : (h l : ℕ) → h < 2 ^ 64 → l < 2 ^ 64 → h * 2 % 2 ^ 64 ⊕ l / 2 ^ 63 ≡ h * 2 % 2 ^ 64 + l / 2 ^ 63
carry_in h l hh hl = rw e (⊕-parts (h % 2 ^ 63) 1 (l / 2 ^ 63) (omega arith))
  where
    e : h * 2 % 2 ^ 64 ≡ h % 2 ^ 63 * 2
    e = omega arith

top : (h l : ℕ) → h < 2 ^ 64 → l < 2 ^ 64 → bit 127 (joined h l) ≡ h / 2 ^ 63
top h l hh hl = ap (λ (x : ℕ). x % 2) (sym (shr-shr (joined h l) 64 63) ∙ ap (λ (x : ℕ). x / 2 ^ 63) (high h 64 hl)) ∙ (omega arith)

shifted : (h l : ℕ) → h < 2 ^ 64 → l < 2 ^ 64 → 2 * joined h l % 2 ^ 128 ≡ joined (h * 2 % 2 ^ 64 + l / 2 ^ 63) (l * 2 % 2 ^ 64)
shifted h l hh hl =
    mod-pow-add (2 * joined h l) 64 64
    ∙ ap₂ (λ (x y : ℕ). joined x y) (ap (λ (x : ℕ). x % 2 ^ 64) hi ∙ hi2) lo
  where
    e : 2 * l / 2 ^ 64 ≡ l / 2 ^ 63
    e = omega arith

    carry : (h c : ℕ) → c < 2 → (c + 2 * h) % 2 ^ 64 ≡ h * 2 % 2 ^ 64 + c
    carry h c k = omega arith

    regroup : 2 * (h * 2 ^ 64 + l) ≡ 2 * l + 2 * h * 2 ^ 64
    regroup = omega arith

    hi : 2 * (h * 2 ^ 64 + l) / 2 ^ 64 ≡ 2 * l / 2 ^ 64 + 2 * h
    hi = ap (λ (x : ℕ). x / 2 ^ 64) regroup ∙ add-mul-div_right (2 * l) (2 * h) (pow_pos 64)

    hi2 : (2 * l / 2 ^ 64 + 2 * h) % 2 ^ 64 ≡ h * 2 % 2 ^ 64 + l / 2 ^ 63
    hi2 = ap (λ (x : ℕ). (x + 2 * h) % 2 ^ 64) e ∙ carry h (l / 2 ^ 63) (omega arith)

    lo : 2 * (h * 2 ^ 64 + l) % 2 ^ 64 ≡ l * 2 % 2 ^ 64
    lo = ap (λ (x : ℕ). x % 2 ^ 64) regroup ∙ add-mul-mod_self_right (2 * l) (2 * h) (2 ^ 64) ∙ ap (λ (x : ℕ). x % 2 ^ 64) (mul_comm 2 l)

pub double-halves : (c h l : ℕ) → c ≡ reduction → h < 2 ^ 64 → l < 2 ^ 64
    → joined (bit_xor (h * 2 % 2 ^ 64) (l / 2 ^ 63)) (bit_xor (h / 2 ^ 63 * c) (l * 2 % 2 ^ 64)) ≡ xtime (joined h l)
unfolding xtime ◌⊕◌
double-halves c h l e hh hl =
    ap₂ (λ (x y : ℕ). joined x (y ⊕ l * 2 % 2 ^ 64)) (carry_in h l hh hl) term
    ∙ sym (low-⊕ (sel (bit 127 (joined h l)) reduction) (h * 2 % 2 ^ 64 + l / 2 ^ 63) (l * 2 % 2 ^ 64)
    (sel-lt (bit 127 (joined h l)) 64 reduction small) (omega arith))
    ∙ ap (λ (x : ℕ). sel (bit 127 (joined h l)) reduction ⊕ x) (sym (shifted h l hh hl))
  where
    small : reduction < 2 ^ 64
    small = unfold reduction in lit< tt

    term : h / 2 ^ 63 * c ≡ sel (bit 127 (joined h l)) reduction
    term = sym (ap (λ (x : ℕ). sel x reduction) (top h l hh hl) ∙ sel-times (h / 2 ^ 63) reduction (omega arith) ∙ ap (λ (x : ℕ). h / 2 ^ 63 * x) (sym e))
