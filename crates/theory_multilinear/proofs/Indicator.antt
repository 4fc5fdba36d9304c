-- The tensor evaluation with no bound on the row coefficients: neither side sees more of them than their 128 low bits.
use mathlib.Core.Path.{◌≡◌, sym, ap, ◌∙◌}
use mathlib.Core.List.{List}
use Prim.Native.Nat.{ℕ, ◌%◌, ◌^◌}
use native.Mathlib.Nat.{mod-lt}
use lib.ListN.{length}
use lib.Pow.{pow_pos}
use Rattle.theory_laws.specs.Xor.{bit, sel}
use Rattle.theory_laws.proofs.Linear.{mod_additive}
use Rattle.theory_laws.proofs.Sum.{sum-ext, sum-map}
use Rattle.theory_field.specs.Field.{◌⊗◌}
use Rattle.theory_field.proofs.Product.{mod-⊗}
use Rattle.theory_multilinear.specs.Equality.{eq_at}
use Rattle.theory_multilinear.specs.Multilinear.{mle}
use Rattle.theory_multilinear.specs.Phi.{phi}
use Rattle.theory_multilinear.specs.Partials.{word_of, fold_partials, indicator}
use Rattle.theory_multilinear.proofs.Partials.{materialize-at}
use Rattle.theory_multilinear.proofs.Tensor.{tensor_run, unit, tensor_eval}
use Rattle.theory_laws.proofs.Windows.{additive_sel}

module _ (rb : ℕ → ℕ) where
  -- the coefficients as words
  abbrev low : ℕ → ℕ
  low i = rb i % 2 ^ 128

  phi-low : (w : ℕ) → phi low w ≡ phi rb w % 2 ^ 128
  unfolding phi
  phi-low w =
      sym
      (sum-map (λ x. x % 2 ^ 128) (mod_additive 128) 128 (λ b. sel (bit b w) (rb b))
      ∙ sum-ext 128 (λ b h. additive_sel (λ x. x % 2 ^ 128) (mod_additive 128) (bit b w) (rb b)))

  fold-low : (s : ℕ → ℕ) → fold_partials s low ≡ fold_partials s rb
  unfolding fold_partials
  fold-low s = sum-ext 128 (λ i h. mod-⊗ (rb i) (word_of (λ j. bit i (s j))))

  indicator-low : (zs qs : List ℕ) → length zs ≡ length qs → indicator low zs qs ≡ indicator rb zs qs
  unfolding indicator mle
  indicator-low zs qs h =
      sum-ext (2 ^ length qs) (λ v k.
      ap (λ x. x ⊗ eq_at qs v) (materialize-at low zs v (rw h k) ∙ phi-low (eq_at zs v))
      ∙ mod-⊗ (phi rb (eq_at zs v)) (eq_at qs v)
      ∙ ap (λ x. x ⊗ eq_at qs v) (sym (materialize-at rb zs v (rw h k))))

  pub tensor_indicator : (zs qs : List ℕ) → length zs ≡ length qs → fold_partials (tensor_run zs qs unit) rb ≡ indicator rb zs qs
  tensor_indicator zs qs h =
      sym (fold-low (tensor_run zs qs unit)) ∙ tensor_eval low (λ i. mod-lt (rb i) (pow_pos 128)) zs qs h ∙ indicator-low zs qs h
