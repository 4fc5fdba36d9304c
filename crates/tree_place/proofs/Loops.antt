-- Powers of two found one by one, and logarithms as the machine counts them: by the bits that stand before a number's highest one.
use Prim.Native.Nat.{ℕ, zero, suc, ◌+◌, ◌-◌, ◌/◌, ◌^◌, ◌≤◌, ◌<◌}
use mathlib.Core.Path.{◌≡◌, refl, sym, ◌∙◌, ap}
use mathlib.Core.Bool.{Bool, true, false}
use native.Mathlib.Omega.{arith}
use lib.Count.{count_leading_zeros}
use Rattle.std.proofs.lemmas.Nat.{leading_top}
use Rattle.theory_merkle.specs.Tree.{log2}
use Rattle.theory_merkle.specs.Questions.{is_pow}
use Rattle.theory_merkle.proofs.Sizes.{is_pow_yes, is_pow_holds, log2-step, log2_end}

-- no power up to 2^m is x
pub power_none : (m x : ℕ) → ((k : ℕ) → k < m + 1 → x ≡ 2 ^ k → ⊥) → false ≡ is_pow m x
power_none m x h = go (is_pow m x) refl
  where
    go : (b : Bool) → is_pow m x ≡ b → false ≡ b
    go true e = let p = is_pow_yes m x e in absurd (h p.exponent (omega (arith, p.within)) p.is)
    go false e = refl

pub power_found : (m x k : ℕ) → k < m + 1 → x ≡ 2 ^ k → true ≡ is_pow m x
power_found m x k h e = sym (is_pow_holds m x (record { exponent = k; within = omega arith; is = e }))

-- a number between one power of two and the next
between : (j x : ℕ) → 2 ^ j ≤ x → x < 2 ^ suc j → log2 x ≡ j
between zero x h k = log2_end x (omega arith)
between (suc j) x h k = log2-step x (omega arith) ∙ ap suc (between j (x / 2) (omega arith) (omega arith))

pub log2-counted : (x : ℕ) → 0 < x → x < 2 ^ 64 → 63 - count_leading_zeros 64 x ≡ log2 x
log2-counted x h k =
    let t = leading_top 64 x h k in
    let e : 63 - count_leading_zeros 64 x ≡ t.0 = (let f : count_leading_zeros 64 x + suc t.0 ≡ 64 = t.1 in omega arith) in
    e ∙ sym (between t.0 x t.2 t.3)
