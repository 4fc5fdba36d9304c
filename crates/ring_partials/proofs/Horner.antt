-- Horner's rule for the sum over j of x^j times f j: from the highest j down, what stands there times x, and one term more.
use mathlib.Core.Path.{◌≡◌, sym, ap, ap₂, ◌∙◌}
use Prim.Native.Nat.{ℕ, suc, ◌+◌, ◌^◌, ◌<◌}
use native.Mathlib.Nat.{add-zero}
use native.Mathlib.Omega.{arith}
use Rattle.theory_laws.specs.Xor.{◌⊕◌}
use Rattle.theory_laws.specs.Sum.{sum}
use Rattle.theory_laws.proofs.Xor.{⊕_comm, zero-⊕}
use Rattle.theory_laws.proofs.Sum.{sum-ext, sum-map, sum-split}
use Rattle.theory_field.specs.Field.{xtime, ◌⊗◌}
use Rattle.theory_field.proofs.Product.{xtime-⊕, one-⊗, ⊗_comm}
use Rattle.theory_field.proofs.Powers.{xtime-pow}

-- a turn: m terms, from place p + 1 on, become m + 1 from place p on
pub horner_more : (f : ℕ → ℕ) (p m acc x next : ℕ) → m < 128 → x < 2 ^ 128 → next ≡ xtime acc ⊕ x → x ≡ f p
    → acc ≡ sum m (λ i. 2 ^ i ⊗ f (suc p + i)) → next ≡ sum (suc m) (λ i. 2 ^ i ⊗ f (p + i))
unfolding sum
horner_more f p m acc x next h hx e q g =
    e
    ∙ ⊕_comm (xtime acc) x
    ∙ ap₂ ◌⊕◌ (sym (one-⊗ x hx) ∙ ap (λ y. 1 ⊗ y) (q ∙ ap f (sym (add-zero p))) ∙ sym (zero-⊕ (1 ⊗ f (p + 0))))
    (ap xtime g ∙ sum-map xtime xtime-⊕ m (λ i. 2 ^ i ⊗ f (suc p + i))
    ∙ sum-ext m raised)
    ∙ sym (sum-split 1 m (λ i. 2 ^ i ⊗ f (p + i)))
    ∙ ap (λ k. sum k (λ i. 2 ^ i ⊗ f (p + i))) (let z : 1 + m ≡ suc m = omega arith in z)
  where
    raised : (i : ℕ) → i < m → xtime (2 ^ i ⊗ f (suc p + i)) ≡ 2 ^ (1 + i) ⊗ f (p + (1 + i))
    raised i l =
        let e : suc i ≡ 1 + i = omega arith in
        let z : suc p + i ≡ p + (1 + i) = omega arith in
        ap xtime (⊗_comm (2 ^ i) (f (suc p + i))) ∙ xtime-pow i (f (suc p + i)) (omega arith)
        ∙ ⊗_comm (f (suc p + i)) (2 ^ suc i) ∙ ap₂ (λ k j. 2 ^ k ⊗ f j) e z
