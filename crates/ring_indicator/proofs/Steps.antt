-- The tensor's steps as the code takes them: the products with powers of x, a step on 128 words in place, and the steps in order.
use mathlib.Core.Path.{◌≡◌, refl, sym, ap, ap₂, ◌∙◌, fun_ext}
use mathlib.Core.List.{List, ◌∷◌}
use Prim.Native.Nat.{ℕ, zero, suc, ◌+◌, ◌^◌, ◌≤◌, ◌<◌}
use native.Mathlib.Numerals.{add-one}
use native.Mathlib.Decide.{dec_lt}
use native.Mathlib.Omega.{arith}
use lib.ListN.{length, drop, replicate, drop_of_length-le, get_or-eq_default}
use lib.Seq.{drop-cons}
use Rattle.theory_laws.specs.Xor.{◌⊕◌, bit, sel}
use Rattle.theory_laws.specs.Table.{tab, at}
use Rattle.theory_laws.proofs.Xor.{⊕_self}
use Rattle.theory_laws.proofs.Sum.{sum-ext, sum-none, bit_past}
use Rattle.theory_laws.proofs.Table.{length-tab, at-tab, tab-ext}
use Rattle.theory_field.specs.Field.{xtime, ◌⊗◌}
use Rattle.theory_field.specs.Words.{words}
use Rattle.theory_field.proofs.Product.{times, times-xtime, pow-⊗, zero-⊗, ⊗-lt}
use Rattle.theory_multilinear.specs.Partials.{partial}
use Rattle.theory_multilinear.proofs.Tensor.{tensor_step, tensor_run, unit}
use Rattle.ring_indicator.specs.helpers.Steps.{join_parts}
use Rattle.theory_field.proofs.Words.{at-zeros}

-- ---- the products with powers of x

pub next-times : (j a p next : ℕ) → p ≡ times j a → next ≡ xtime p → next ≡ times (j + 1) a
next-times j a p next h e = e ∙ ap xtime h ∙ sym (times-xtime j a) ∙ ap (λ i. times i a) (sym (add-one j))

pub times-tab : (a : ℕ) → a < 2 ^ 128 → tab 128 (λ j. times j a) ≡ tab 128 (λ j. 2 ^ j ⊗ a)
times-tab a h = tab-ext 128 (λ j k. sym (pow-⊗ j a k h))

-- ---- a step of 128 words

-- the mixed words of the products with powers of x are the horizontal part
pub joined_step : (z q : ℕ) (rows mixed : List ℕ) (t : ℕ → ℕ) → rows ≡ tab 128 (λ j. 2 ^ j ⊗ q) → mixed ≡ tab 128 (partial 128 (at rows) t)
    → tab 128 (λ k. join_parts z (at mixed) k (t k)) ≡ tab 128 (tensor_step z q t)
unfolding tensor_step partial
joined_step z q rows mixed t r m =
    tab-ext 128 (λ k h.
    ap (λ x. (t k ⊕ t k ⊗ z) ⊕ x)
    (ap (λ w. at w k) m ∙ at-tab 128 (partial 128 (at rows) t) k h
    ∙ sum-ext 128 (λ j i. ap (λ w. sel (bit k w) (t j)) (ap (λ w. at w j) r ∙ at-tab 128 (λ j. 2 ^ j ⊗ q) j i))))

-- past 128 words a step leaves nothing, so that its words are its table
step_past : (z q : ℕ) (t : ℕ → ℕ) (k : ℕ) → 128 ≤ k → t k ≡ 0 → tensor_step z q t k ≡ 0
unfolding tensor_step sel
step_past z q t k h e =
    ap₂ ◌⊕◌ (ap (λ x. x ⊕ x ⊗ z) e ∙ ap (λ x. 0 ⊕ x) (zero-⊗ z) ∙ ⊕_self 0)
    (sum-none 128 (λ j. sel (bit k (2 ^ j ⊗ q)) (t j))
    (λ j i. ap (λ x. sel x (t j)) (bit_past 128 k (2 ^ j ⊗ q) (⊗-lt (2 ^ j) q) h)))
    ∙ ⊕_self 0

pub step_words : (z q : ℕ) (us ts : List ℕ) → length ts ≡ 128 → us ≡ tab 128 (tensor_step z q (at ts)) → at us ≡ tensor_step z q (at ts)
step_words z q us ts p e = ap at e ∙ fun_ext (λ k. go k (dec_lt k 128))
  where
    go : (k : ℕ) → Dec (k < 128) → at (tab 128 (tensor_step z q (at ts))) k ≡ tensor_step z q (at ts) k
    go k (yes h) = at-tab 128 (tensor_step z q (at ts)) k h
    go k (no h) =
        get_or-eq_default (tab 128 (tensor_step z q (at ts))) 0 (omega (arith, length-tab 128 (tensor_step z q (at ts))))
        ∙ sym (step_past z q (at ts) k (omega arith) (get_or-eq_default ts 0 (omega arith)))

-- ---- the steps in order: what is left of them gives the final words

pub run_begin : (n : ℕ) → at (words (1 ∷ 0 ∷ replicate n 0)) ≡ unit
unfolding unit words
run_begin n = fun_ext go
  where
    go : (k : ℕ) → at (words (1 ∷ 0 ∷ replicate n 0)) k ≡ unit k
    go zero = refl
    go (suc k) = at-zeros n k

module _ (zs qs : List ℕ) (i : ℕ) where
  pub run_step : (t u r : ℕ → ℕ) → i < length zs → i < length qs → u ≡ tensor_step (at zs i) (at qs i) t
      → tensor_run (drop i zs) (drop i qs) t ≡ r → tensor_run (drop (i + 1) zs) (drop (i + 1) qs) u ≡ r
  unfolding tensor_run
  run_step t u r h k e g = ap (tensor_run (drop (i + 1) zs) (drop (i + 1) qs)) e ∙ rw (add-one i) (rw (drop-cons zs i 0, drop-cons qs i 0) at g)

  pub run_end : (t r : ℕ → ℕ) → length zs ≤ i → tensor_run (drop i zs) (drop i qs) t ≡ r → t ≡ r
  unfolding tensor_run
  run_end t r h g = rw (drop_of_length-le zs) at g
