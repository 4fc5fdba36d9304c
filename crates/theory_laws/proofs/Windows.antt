-- Sums, a term a turn; and an additive map by windows of b bits: of a window it is the sum over the window's set bits, and of a
-- number the sum over its windows.
use mathlib.Core.Path.{◌≡◌, refl, sym, ap, ap₂, ◌∙◌}
use Prim.Native.Nat.{ℕ, zero, suc, ◌+◌, ◌*◌, ◌/◌, ◌%◌, ◌^◌, ◌≤◌}
use native.Mathlib.Nat.{mod-one, mod-lt}
use native.Mathlib.Numerals.{add-one}
use native.Mathlib.Omega.{arith}
use lib.Pow.{pow_pos, pow-add, mod-pow-add}
use Rattle.theory_laws.specs.Sum.{sum}
use Rattle.theory_laws.specs.Xor.{◌⊕◌, bit, sel}
use Rattle.theory_laws.proofs.Linear.{Additive, at_zero, shl_additive}
use Rattle.theory_laws.proofs.Sum.{sum-ext, sum-map, sum-bits}
use Rattle.theory_laws.proofs.Xor.{⊕_comm, ⊕-parts}

-- one term more: a turn of a loop that adds up
pub sum_more : (f : ℕ → ℕ) (m acc x next : ℕ) → next ≡ acc ⊕ x → x ≡ f m → acc ≡ sum m f → next ≡ sum (m + 1) f
unfolding sum
sum_more f m acc x next e g h = rw add-one (e ∙ ap₂ ◌⊕◌ h g)

-- after the last turn
pub sum-all : (f : ℕ → ℕ) (m n acc : ℕ) → m ≤ n → n ≤ m → acc ≡ sum n f → acc ≡ sum m f
sum-all f m n acc h k e = let z : n ≡ m = omega arith in rw z at e

-- the value that a bit chooses, moved up
pub sel-shl : (x b k : ℕ) → sel x (2 ^ b) * 2 ^ k ≡ sel x (2 ^ (k + b))
unfolding sel
sel-shl zero b k = omega arith
sel-shl (suc x) b k = sym (pow-add 2 b k) ∙ ap (λ (n : ℕ). 2 ^ n) (omega arith)

module _ (f : ℕ → ℕ) (h : Additive f) where
  pub additive_sel : (b x : ℕ) → f (sel b x) ≡ sel b (f x)
  unfolding sel
  additive_sel zero x = at_zero f h
  additive_sel (suc b) x = refl

  -- of b bits at place m
  pub window-bits : (b m v : ℕ) → sum b (λ i. sel (bit i v) (f (2 ^ (m + i)))) ≡ f (v % 2 ^ b * 2 ^ m)
  window-bits b m v =
      sym
      (ap (λ (x : ℕ). f (x * 2 ^ m)) (sym (sum-bits b v))
      ∙ ap f (sum-map (λ x. x * 2 ^ m) (shl_additive m) b (λ i. sel (bit i v) (2 ^ i)))
      ∙ sum-map f h b (λ i. sel (bit i v) (2 ^ i) * 2 ^ m)
      ∙ sum-ext b (λ i k. ap f (sel-shl (bit i v) i m) ∙ additive_sel (bit i v) (2 ^ (m + i))))

  -- of m windows of b bits
  pub by_windows : (b m w : ℕ) → sum m (λ j. f (w / 2 ^ (b * j) % 2 ^ b * 2 ^ (b * j))) ≡ f (w % 2 ^ (b * m))
  unfolding sum
  by_windows b zero w =
      let e : b * 0 ≡ 0 = omega arith in
      rw (e, mod-one w) (sym (at_zero f h))
  by_windows b (suc m) w =
      let e : b + b * m ≡ b * suc m = omega arith in
      ap (λ (x : ℕ). x ⊕ f (w / 2 ^ (b * m) % 2 ^ b * 2 ^ (b * m))) (by_windows b m w)
      ∙ sym (h (w % 2 ^ (b * m)) (w / 2 ^ (b * m) % 2 ^ b * 2 ^ (b * m)))
      ∙ ap f
      (⊕_comm (w % 2 ^ (b * m)) (w / 2 ^ (b * m) % 2 ^ b * 2 ^ (b * m))
      ∙ ⊕-parts (w / 2 ^ (b * m) % 2 ^ b) (b * m) (w % 2 ^ (b * m)) (mod-lt w (pow_pos (b * m)))
      ∙ sym (mod-pow-add w b (b * m)) ∙ ap (λ (n : ℕ). w % 2 ^ n) e)
