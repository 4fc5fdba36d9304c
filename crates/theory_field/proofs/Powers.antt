-- Products with powers of x: x^e times a number of few bits is a shift, and doubling raises the power.
use mathlib.Core.Path.{◌≡◌, sym, ap, ◌∙◌}
use Prim.Native.Nat.{ℕ, suc, ◌+◌, ◌*◌, ◌%◌, ◌^◌, ◌≤◌, ◌<◌}
use native.Mathlib.Nat.{mul_comm, mod-lt}
use native.Mathlib.Omega.{arith}
use lib.Pow.{pow_pos, pow-lt, pow-add}
use Rattle.theory_laws.proofs.Linear.{ext, shl_additive}
use Rattle.theory_field.specs.Field.{xtime, ◌⊗◌}
use Rattle.theory_field.proofs.Product.{times, times-xtime, times-times, times-one, ⊗-⊕, ⊗-pow, pow-⊗, mod-⊗}

-- x^e times a number of c bits is a shift, where nothing is shifted out
pub pow-⊗-shl : (c e k : ℕ) → c + e ≤ 128 → k < 2 ^ c → 2 ^ e ⊗ k ≡ k * 2 ^ e
pow-⊗-shl c e k h l = ext c (◌⊗◌ (2 ^ e)) (λ x. x * 2 ^ e) (⊗-⊕ (2 ^ e)) (shl_additive e) powers k l
  where
    powers : (i : ℕ) → i < c → 2 ^ e ⊗ 2 ^ i ≡ 2 ^ i * 2 ^ e
    powers i m =
        pow-⊗ e (2 ^ i) (omega arith) (pow-lt {j = 128} (omega arith))
        ∙ ap (times e) (sym (times-one i (omega arith))) ∙ times-times e i 1 ∙ times-one (e + i) (omega arith)
        ∙ pow-add 2 e i ∙ mul_comm (2 ^ e) (2 ^ i)

-- a product with x^i, doubled
pub xtime-pow : (i a : ℕ) → suc i < 128 → xtime (a ⊗ 2 ^ i) ≡ a ⊗ 2 ^ suc i
xtime-pow i a h =
    ap xtime (sym (mod-⊗ a (2 ^ i)) ∙ ⊗-pow i (a % 2 ^ 128) (omega arith) (mod-lt a (pow_pos 128)))
    ∙ sym (times-xtime i (a % 2 ^ 128)) ∙ sym (⊗-pow (suc i) (a % 2 ^ 128) h (mod-lt a (pow_pos 128))) ∙ mod-⊗ a (2 ^ suc i)
