-- How `eval_at` is computed with no table of 2^n entries, by 128 words and one step for each coordinate: the steps, for the contracts
-- of its helpers, and that the words' fold is the indicator at the point.
use mathlib.Core.Path.{◌≡◌, refl, sym, ap, ap₂, ◌∙◌, fun_ext}
use mathlib.Core.Logic.{◌≢◌}
use mathlib.Core.List.{List, [], ◌∷◌}
use Prim.Native.Nat.{ℕ, zero, suc, ◌^◌, ◌<◌}
use native.Mathlib.Omega.{arith}
use lib.Dec.{lit<}
use lib.ListN.{length}
use Rattle.theory_laws.specs.Xor.{◌⊕◌, bit, sel}
use Rattle.theory_laws.specs.Sum.{sum}
use Rattle.theory_laws.specs.Table.{at}
use Rattle.theory_laws.proofs.Xor.{⊕-lt, sel-lt}
use Rattle.theory_laws.proofs.Sum.{sum-⊕, sum-map, sum_swap, sum-at, sum_lt}
use Rattle.theory_field.specs.Field.{◌⊗◌}
use Rattle.theory_field.proofs.Product.{ring, ⊗-⊕, ⊗_comm, ⊗_assoc, ⊗-zero, ⊗-sel, one-⊗, ⊗-one, ⊗-lt}
use Rattle.theory_multilinear.specs.Equality.{eq_at}
use Rattle.theory_multilinear.specs.Multilinear.{mle}
use Rattle.theory_multilinear.specs.Fold.{line}
use Rattle.theory_multilinear.specs.Phi.{phi}
use Rattle.theory_multilinear.specs.Partials.{fold_partials, materialize, indicator}
use Rattle.theory_multilinear.proofs.Equality.{eq-nil, eq_even, eq-odd, eq-lt}
use Rattle.theory_multilinear.proofs.Fold.{fold_at-zero}
use Rattle.theory_multilinear.proofs.Multilinear.{mle-ext, mle-nil, mle-cons}
use Rattle.theory_multilinear.proofs.Phi.{phi-add, phi-zero, phi-one, phi-sum, phi-sel, phi-lt, word-times}
use Rattle.theory_multilinear.proofs.Partials.{fold_partials-phi, materialize-at}

-- the step at coordinate z of the equality point and q of the point: t_k + t_k × z, plus the t_j for which 2^j × q has bit k
unfoldable pub tensor_step : ℕ → ℕ → (ℕ → ℕ) → ℕ → ℕ
tensor_step z q t k = (t k ⊕ t k ⊗ z) ⊕ sum 128 (λ j. sel (bit k (2 ^ j ⊗ q)) (t j))

-- the steps in order
unfoldable pub tensor_run : List ℕ → List ℕ → (ℕ → ℕ) → ℕ → ℕ
tensor_run [] qs t = t
tensor_run (z ∷ zs) [] t = t
tensor_run (z ∷ zs) (q ∷ qs) t = tensor_run zs qs (tensor_step z q t)

-- where the steps begin: 1, and 127 times 0
unfoldable pub unit : ℕ → ℕ
unit zero = 1
unit (suc j) = 0

step-lt : (z q : ℕ) (t : ℕ → ℕ) → ((j : ℕ) → t j < 2 ^ 128) → (k : ℕ) → tensor_step z q t k < 2 ^ 128
unfolding tensor_step
step-lt z q t ht k =
    ⊕-lt 128 (t k ⊕ t k ⊗ z) (sum 128 (λ j. sel (bit k (2 ^ j ⊗ q)) (t j))) (⊕-lt 128 (t k) (t k ⊗ z) (ht k) (⊗-lt (t k) z))
    (sum_lt 128 128 (λ j. sel (bit k (2 ^ j ⊗ q)) (t j)) (λ j. sel-lt (bit k (2 ^ j ⊗ q)) 128 (t j) (ht j)))

unit-lt : (j : ℕ) → unit j < 2 ^ 128
unfolding unit
unit-lt zero = lit< tt
unit-lt (suc j) = lit< tt

unit-other : (j : ℕ) → j ≢ 0 → unit j ≡ 0
unfolding unit
unit-other zero a = absurd (a refl)
unit-other (suc j) a = refl

-- ---- what the steps keep

module _ (rb : ℕ → ℕ) where
  -- for an equality entry e and the words t. After the steps, with e = 1, it is the fold of the words; before them, over the entries
  -- e of the equality table, it is the indicator's table
  unfoldable kept : ℕ → (ℕ → ℕ) → ℕ
  kept e t = sum 128 (λ j. 2 ^ j ⊗ phi rb (e ⊗ t j))

  kept-ext : (e f : ℕ) (t u : ℕ → ℕ) → ((j : ℕ) → e ⊗ t j ≡ f ⊗ u j) → kept e t ≡ kept f u
  unfolding kept
  kept-ext e f t u h = ap (sum 128) (fun_ext (λ j. ap (λ x. 2 ^ j ⊗ phi rb x) (h j)))

  -- it is additive in e × t
  kept-sum : (e f g : ℕ) (t u w : ℕ → ℕ) → ((j : ℕ) → e ⊗ t j ≡ f ⊗ u j ⊕ g ⊗ w j) → kept e t ≡ kept f u ⊕ kept g w
  unfolding kept
  kept-sum e f g t u w h =
      ap (sum 128) (fun_ext (λ j.
      ap (λ x. 2 ^ j ⊗ phi rb x) (h j) ∙ ap (λ x. 2 ^ j ⊗ x) (phi-add rb (f ⊗ u j) (g ⊗ w j)) ∙ ⊗-⊕ (2 ^ j) (phi rb (f ⊗ u j)) (phi rb (g ⊗ w j))))
      ∙ sum-⊕ 128 (λ j. 2 ^ j ⊗ phi rb (f ⊗ u j)) (λ j. 2 ^ j ⊗ phi rb (g ⊗ w j))

  -- the words mixed by q, as the bits of the products 2^j × q say, give q times as much
  kept_mixed : (e q : ℕ) (t : ℕ → ℕ) → kept e (λ k. sum 128 (λ j. sel (bit k (2 ^ j ⊗ q)) (t j))) ≡ q ⊗ kept e t
  unfolding kept
  kept_mixed e q t =
      ap (sum 128) (fun_ext (λ k.
      ap (λ x. 2 ^ k ⊗ phi rb x) (sum-map (◌⊗◌ e) (⊗-⊕ e) 128 (λ j. sel (bit k (2 ^ j ⊗ q)) (t j)))
      ∙ ap (λ x. 2 ^ k ⊗ x) (phi-sum rb 128 (λ j. e ⊗ sel (bit k (2 ^ j ⊗ q)) (t j)))
      ∙ sum-map (◌⊗◌ (2 ^ k)) (⊗-⊕ (2 ^ k)) 128 (λ j. phi rb (e ⊗ sel (bit k (2 ^ j ⊗ q)) (t j)))
      ∙ ap (sum 128) (fun_ext (λ j.
      ap (λ x. 2 ^ k ⊗ phi rb x) (⊗-sel (bit k (2 ^ j ⊗ q)) e (t j))
      ∙ ap (λ x. 2 ^ k ⊗ x) (phi-sel rb (bit k (2 ^ j ⊗ q)) (e ⊗ t j))
      ∙ ⊗-sel (bit k (2 ^ j ⊗ q)) (2 ^ k) (phi rb (e ⊗ t j))))))
      ∙ sum_swap 128 128 (λ k j. sel (bit k (2 ^ j ⊗ q)) (2 ^ k ⊗ phi rb (e ⊗ t j)))
      ∙ ap (sum 128) (fun_ext (λ j.
      sym (word-times (2 ^ j ⊗ q) (phi rb (e ⊗ t j)))
      ∙ ap (λ x. x ⊗ phi rb (e ⊗ t j)) (⊗_comm (2 ^ j) q) ∙ ⊗_assoc q (2 ^ j) (phi rb (e ⊗ t j))))
      ∙ sym (sum-map (◌⊗◌ q) (⊗-⊕ q) 128 (λ j. 2 ^ j ⊗ phi rb (e ⊗ t j)))

  -- a step is the line, at q, through the entries with the coordinate's two factors
  kept_step : (e z q : ℕ) (t : ℕ → ℕ) → kept e (tensor_step z q t) ≡ line q (kept ((1 ⊕ z) ⊗ e) t) (kept (z ⊗ e) t)
  unfolding tensor_step line
  kept_step e z q t =
      kept-sum e e e (tensor_step z q t) (λ k. t k ⊕ t k ⊗ z) (λ k. sum 128 (λ j. sel (bit k (2 ^ j ⊗ q)) (t j)))
      (λ j. ⊗-⊕ e (t j ⊕ t j ⊗ z) (sum 128 (λ i. sel (bit j (2 ^ i ⊗ q)) (t i))))
      ∙ ap₂ ◌⊕◌ (kept-ext e ((1 ⊕ z) ⊗ e) (λ k. t k ⊕ t k ⊗ z) t (λ j. simp ring))
      (kept_mixed e q t ∙ ap (λ x. q ⊗ x) (kept-sum e ((1 ⊕ z) ⊗ e) (z ⊗ e) t t t (λ j. simp ring)))

  kept-lt : (e : ℕ) (t : ℕ → ℕ) → kept e t < 2 ^ 128
  unfolding kept
  kept-lt e t = sum_lt 128 128 (λ j. 2 ^ j ⊗ phi rb (e ⊗ t j)) (λ j. ⊗-lt (2 ^ j) (phi rb (e ⊗ t j)))

  -- the steps in order
  kept_run : (zs qs : List ℕ) (t : ℕ → ℕ) → ((j : ℕ) → t j < 2 ^ 128) → length zs ≡ length qs
      → sum 128 (λ j. 2 ^ j ⊗ phi rb (tensor_run zs qs t j)) ≡ mle (λ v. kept (eq_at zs v) t) qs
  unfolding tensor_run kept
  kept_run [] [] t ht h =
      ap (sum 128) (fun_ext (λ j. ap (λ x. 2 ^ j ⊗ phi rb x) (sym (ap (λ e. e ⊗ t j) (eq-nil 0) ∙ one-⊗ (t j) (ht j)))))
      ∙ sym (mle-nil (λ v. kept (eq_at [] v) t) (kept-lt (eq_at [] 0) t))
  kept_run [] (q ∷ qs) t ht h = absurd (omega arith)
  kept_run (z ∷ zs) [] t ht h = absurd (omega arith)
  kept_run (z ∷ zs) (q ∷ qs) t ht h =
      kept_run zs qs (tensor_step z q t) (step-lt z q t ht) (omega arith)
      ∙ ap (λ f. mle f qs) (fun_ext (λ w.
      kept_step (eq_at zs w) z q t
      ∙ sym (fold_at-zero q (λ v. kept (eq_at (z ∷ zs) v) t) w ∙ ap₂ (λ a b. line q (kept a t) (kept b t)) (eq_even z zs w) (eq-odd z zs w))))
      ∙ sym (mle-cons (λ v. kept (eq_at (z ∷ zs) v) t) q qs)

  module _ (hr : (i : ℕ) → rb i < 2 ^ 128) where
    kept-unit : (e : ℕ) → e < 2 ^ 128 → kept e unit ≡ phi rb e
    unfolding kept unit
    kept-unit e h =
        sum-at 128 0 (λ j. 2 ^ j ⊗ phi rb (e ⊗ unit j)) (lit< tt) (λ j a.
        ap (λ x. 2 ^ j ⊗ phi rb (e ⊗ x)) (unit-other j a) ∙ ap (λ x. 2 ^ j ⊗ phi rb x) (⊗-zero e) ∙ ap (λ x. 2 ^ j ⊗ x) (phi-zero rb) ∙ ⊗-zero (2 ^ j))
        ∙ ap (λ x. 1 ⊗ phi rb x) (⊗-one e h) ∙ one-⊗ (phi rb e) (phi-lt rb hr e)

    -- the tensor evaluation is the multilinear extension of `materialize`
    pub tensor_eval : (zs qs : List ℕ) → length zs ≡ length qs → fold_partials (tensor_run zs qs unit) rb ≡ indicator rb zs qs
    unfolding indicator
    tensor_eval zs qs h =
        fold_partials-phi (tensor_run zs qs unit) rb ∙ kept_run zs qs unit unit-lt h
        ∙ mle-ext qs (λ v k. kept-unit (eq_at zs v) (eq-lt zs v) ∙ sym (materialize-at rb zs v (rw h k)))

  -- of empty points it is rb[0]
  pub indicator-nil : rb 0 < 2 ^ 128 → indicator rb [] [] ≡ rb 0
  unfolding indicator
  indicator-nil h = mle-nil (at (materialize rb [])) (rw entry h) ∙ entry
    where
      entry : at (materialize rb []) 0 ≡ rb 0
      entry = materialize-at rb [] 0 (lit< tt) ∙ ap (phi rb) (eq-nil 0) ∙ phi-one rb
