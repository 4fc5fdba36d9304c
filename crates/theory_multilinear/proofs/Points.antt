-- Points: a vertex by its lowest bit, and sums of points.
use mathlib.Core.Path.{◌≡◌, refl, sym, ap, ap₂, fun_ext}
use mathlib.Core.List.{List, [], ◌∷◌}
use Prim.Native.Nat.{ℕ, zero, suc, ◌/◌, ◌%◌}
use native.Mathlib.Nat.{div-one}
use lib.ListN.{length, replicate}
use Rattle.theory_laws.specs.Xor.{◌⊕◌, bit}
use Rattle.theory_laws.specs.Table.{tab}
use Rattle.theory_laws.proofs.Xor.{⊕-zero}
use Rattle.theory_laws.proofs.Parity.{high_half}
use Rattle.theory_laws.proofs.Table.{length-tab}
use Rattle.theory_multilinear.specs.Points.{vertex, add_point}

pub vertex-cons : (n v : ℕ) → vertex (suc n) v ≡ v % 2 ∷ vertex n (v / 2)
unfolding vertex tab
vertex-cons n v =
    ap₂ (λ (x : ℕ) (l : List ℕ). x % 2 ∷ l) (div-one v) (ap (tab n) (fun_ext (λ i. ap (λ x. x % 2) (sym (high_half v i)))))

pub length-vertex : (n v : ℕ) → length (vertex n v) ≡ n
unfolding vertex
length-vertex n v = length-tab n (λ i. bit i v)

pub add_point-zero : (z : List ℕ) → add_point z (replicate (length z) 0) ≡ z
unfolding add_point
add_point-zero [] = refl
add_point-zero (x ∷ z) = ap₂ (λ (a : ℕ) (l : List ℕ). a ∷ l) (⊕-zero x) (add_point-zero z)

pub add_point-tab : (n : ℕ) (f g : ℕ → ℕ) → add_point (tab n f) (tab n g) ≡ tab n (λ i. f i ⊕ g i)
unfolding add_point tab
add_point-tab zero f g = refl
add_point-tab (suc n) f g = ap (λ (l : List ℕ). (f 0 ⊕ g 0) ∷ l) (add_point-tab n (λ i. f (suc i)) (λ i. g (suc i)))
