-- The multilinear extension is affine in each coordinate and is the table on the cube, and it is the only function of points
-- that is both.
use mathlib.Core.Path.{◌≡◌, refl, sym, ap, ap₂, ◌∙◌}
use mathlib.Core.List.{List, [], ◌∷◌}
use Prim.Native.Nat.{ℕ, zero, suc, ◌+◌, ◌*◌, ◌/◌, ◌%◌, ◌^◌, ◌<◌, suc-le-suc}
use native.Mathlib.Nat.{zero-lt-suc, lt_of_lt_of_le, mod-lt, mod-eq_of_lt}
use native.Mathlib.Omega.{arith}
use lib.Arith.{digits_div, digits_mod}
use lib.ListN.{length, set}
use lib.Pow.{pow_pos, pow-lt, pow_mono}
use Rattle.theory_laws.specs.Xor.{◌⊕◌, bit}
use Rattle.theory_laws.specs.Table.{tab, at}
use Rattle.theory_laws.proofs.Xor.{⊕-zero}
use Rattle.theory_laws.proofs.Table.{at-tab-lt}
use Rattle.theory_field.specs.Field.{◌⊗◌}
use Rattle.theory_field.proofs.Product.{ring}
use Rattle.theory_multilinear.specs.Multilinear.{mle}
use Rattle.theory_multilinear.specs.Fold.{line, fold_at}
use Rattle.theory_multilinear.specs.Points.{vertex}
use Rattle.theory_multilinear.specs.Extension.{Point, Affine, AgreesOnCube, Extension}
use Rattle.theory_multilinear.proofs.Points.{vertex-cons, length-vertex}
use Rattle.theory_multilinear.proofs.Multilinear.{mle-ext, mle-cons, mle_affine, mle-vertex}

-- ---- affine in each coordinate

-- whatever is c + x × d, for some c and d, is on the line through its values at 0 and at 1
pub line_of : (f : ℕ → ℕ) (c d : ℕ) → ((x : ℕ) → x < 2 ^ 128 → f x ≡ c ⊕ x ⊗ d) → (x : ℕ) → x < 2 ^ 128 → f x ≡ line x (f 0) (f 1)
line_of f c d h x l = h x l ∙ through c d x ∙ sym (ap₂ (line x) (h 0 (pow_pos 128)) (h 1 (pow-lt {i = 0} {j = 128} (omega arith))))
  where
    through : (c d x : ℕ) → c ⊕ x ⊗ d ≡ line x (c ⊕ 0 ⊗ d) (c ⊕ 1 ⊗ d)
    through c d x = unfold line in simp ring

-- of any numbers, words or not
pub mle_affine_in : (t : ℕ → ℕ) (z : List ℕ) (i x : ℕ) → i < length z → mle t (set z i x) ≡ line x (mle t (set z i 0)) (mle t (set z i 1))
mle_affine_in t [] i x h = absurd (omega arith)
mle_affine_in t (z ∷ zs) zero x h =
    ap (λ (y : ℕ). mle t (y ∷ zs)) (sym (⊕-zero x)) ∙ mle_affine t 0 x zs
    ∙ ap (λ (y : ℕ). line x (mle t (0 ∷ zs)) (mle t (y ∷ zs))) (⊕-zero 1)
mle_affine_in t (z ∷ zs) (suc i) x h =
    mle-cons t z (set zs i x) ∙ mle_affine_in (fold_at 0 z t) zs i x (omega arith)
    ∙ sym (ap₂ (line x) (mle-cons t z (set zs i 0)) (mle-cons t z (set zs i 1)))

pub mle_affine_each : (n : ℕ) (t : ℕ → ℕ) → Affine n (mle t)
mle_affine_each n t i k z x p l = mle_affine_in t z i x (omega (arith, p.coordinates))

-- ---- the table on the cube

bit-lt : (b : ℕ) → b < 2 → b < 2 ^ 128
bit-lt b h = lt_of_lt_of_le h (pow_mono {i = 1} {j = 128} (omega arith))

-- the vertices are among the points
pub vertex_point : (n v : ℕ) → Point n (vertex n v)
unfolding vertex
vertex_point n v = record {
  coordinates = length-vertex n v;
  words = at-tab-lt 128 n (λ i. bit i v) (λ i. bit-lt (bit i v) (mod-lt (v / 2 ^ i) (zero-lt-suc 1)));
}

-- the entries of 2^n places are words; the others do not count
pub mle_on_cube : (n : ℕ) (t : ℕ → ℕ) → ((v : ℕ) → v < 2 ^ n → t v < 2 ^ 128) → AgreesOnCube n t (mle t)
mle_on_cube n t h v k =
    mle-ext (vertex n v) (λ w l. same w (rw (length-vertex n v) at l))
    ∙ mle-vertex n v (λ w. t w % 2 ^ 128) (λ w. mod-lt (t w) (pow_pos 128)) k ∙ sym (same v k)
  where
    same : (w : ℕ) → w < 2 ^ n → t w ≡ t w % 2 ^ 128
    same w l = sym (mod-eq_of_lt (h w l))

-- so it is an extension
pub mle_extension : (n : ℕ) (t : ℕ → ℕ) → ((v : ℕ) → v < 2 ^ n → t v < 2 ^ 128) → Extension n t (mle t)
mle_extension n t h = record { affine = mle_affine_each n t; agrees = mle_on_cube n t h }

-- ---- and no other

point_cons : (n b : ℕ) (z : List ℕ) → b < 2 ^ 128 → Point n z → Point (suc n) (b ∷ z)
point_cons n b z h p = record { coordinates = ap suc p.coordinates; words = words }
  where
    words : (i : ℕ) → at (b ∷ z) i < 2 ^ 128
    words zero = h
    words (suc i) = p.words i

point_tail : (n x : ℕ) (z : List ℕ) → Point (suc n) (x ∷ z) → Point n z
point_tail n x z p = record { coordinates = omega (arith, p.coordinates); words = λ i. p.words (suc i) }

-- with the first coordinate fixed at a bit
affine_face : (n b : ℕ) (f : List ℕ → ℕ) → b < 2 → Affine (suc n) f → Affine n (λ z. f (b ∷ z))
affine_face n b f h a i k z x p = a (suc i) (suc-le-suc k) (b ∷ z) x (point_cons n b z (bit-lt b h) p)

vertex-nil : (v : ℕ) → vertex 0 v ≡ []
unfolding vertex tab
vertex-nil v = refl

vertex-face : (n b v : ℕ) → b < 2 → vertex (suc n) (v * 2 + b) ≡ b ∷ vertex n v
vertex-face n b v h = vertex-cons n (v * 2 + b) ∙ ap₂ (λ (x w : ℕ). x ∷ vertex n w) (digits_mod v h) (digits_div v h)

-- two functions that are affine in each coordinate and agree on the cube agree at every point
pub affine_unique : (n : ℕ) (f g : List ℕ → ℕ) → Affine n f → Affine n g → ((v : ℕ) → v < 2 ^ n → f (vertex n v) ≡ g (vertex n v))
    → (z : List ℕ) → Point n z → f z ≡ g z
affine_unique zero f g hf hg h [] p = ap f (sym (vertex-nil 0)) ∙ h 0 (pow_pos 0) ∙ ap g (vertex-nil 0)
affine_unique zero f g hf hg h (x ∷ z) p = absurd (omega (arith, p.coordinates))
affine_unique (suc n) f g hf hg h [] p = absurd (omega (arith, p.coordinates))
affine_unique (suc n) f g hf hg h (x ∷ z) p =
    let face : (b : ℕ) → b < 2 → f (b ∷ z) ≡ g (b ∷ z) =
    λ b l. affine_unique n (λ y. f (b ∷ y)) (λ y. g (b ∷ y)) (affine_face n b f l hf) (affine_face n b g l hg)
    (λ v k. rw (vertex-face n b v l) at (h (v * 2 + b) (omega arith))) z (point_tail n x z p) in
    hf 0 (zero-lt-suc n) (x ∷ z) x p (p.words 0) ∙ ap₂ (line x) (face 0 (omega arith)) (face 1 (omega arith))
    ∙ sym (hg 0 (zero-lt-suc n) (x ∷ z) x p (p.words 0))

-- so every multilinear extension of a table of words is `mle`
pub mle_unique : (n : ℕ) (t : ℕ → ℕ) (f : List ℕ → ℕ) → ((v : ℕ) → v < 2 ^ n → t v < 2 ^ 128) → Extension n t f
    → (z : List ℕ) → Point n z → f z ≡ mle t z
mle_unique n t f h e = affine_unique n f (mle t) e.affine (mle_affine_each n t) (λ v k. e.agrees v k ∙ sym (mle_on_cube n t h v k))
