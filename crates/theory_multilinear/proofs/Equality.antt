-- The equality table: by the first coordinate, by parts of a point, and doubled by one more coordinate.
use mathlib.Core.Path.{◌≡◌, refl, sym, ap, ap₂, ◌∙◌, fun_ext}
use mathlib.Core.List.{List, [], ◌∷◌, ◌++◌, map}
use Prim.Native.Nat.{ℕ, zero, suc, ◌+◌, ◌*◌, ◌/◌, ◌%◌, ◌^◌, ◌<◌}
use native.Mathlib.Nat.{div-one}
use native.Mathlib.Numerals.{add-one}
use native.Mathlib.Omega.{arith}
use lib.Arith.{digits_div, digits_mod}
use lib.Dec.{lit<}
use lib.ListN.{length, length-append}
use Rattle.theory_laws.specs.Xor.{◌⊕◌, bit}
use Rattle.theory_laws.specs.Table.{tab, at}
use Rattle.theory_laws.proofs.Parity.{parity, low_bit, low_half, high_half}
use Rattle.theory_laws.proofs.Table.{at-tab, tab-ext, tab-add, map-tab}
use Rattle.theory_field.specs.Field.{◌⊗◌}
use Rattle.theory_field.proofs.Product.{ring, ⊗-lt, ⊗_comm, ⊗_assoc, one-⊗, ⊗-⊗-one}
use Rattle.theory_multilinear.specs.Equality.{prod, factor, eq_at, eq_table}

prod-cons : (m : ℕ) (f : ℕ → ℕ) → prod (suc m) f ≡ f 0 ⊗ prod m (λ j. f (suc j))
unfolding prod
prod-cons zero f = ⊗_comm 1 (f 0)
prod-cons (suc m) f = ap (λ x. x ⊗ f (suc m)) (prod-cons m f) ∙ ⊗_assoc (f 0) (prod m (λ j. f (suc j))) (f (suc m))

pub eq-nil : (v : ℕ) → eq_at [] v ≡ 1
unfolding eq_at prod
eq-nil v = refl

-- the first coordinate goes with the lowest bit
pub eq-cons : (z : ℕ) (zs : List ℕ) (v : ℕ) → eq_at (z ∷ zs) v ≡ factor z (v % 2) ⊗ eq_at zs (v / 2)
unfolding eq_at
eq-cons z zs v =
    prod-cons (length zs) (λ j. factor (at (z ∷ zs) j) (bit j v))
    ∙ ap₂ (λ x y. factor z (x % 2) ⊗ y) (div-one v) (ap (prod (length zs)) (fun_ext (λ j. ap (λ x. factor (at zs j) (x % 2)) (sym (high_half v j)))))

pub eq_even : (z : ℕ) (zs : List ℕ) (w : ℕ) → eq_at (z ∷ zs) (w * 2) ≡ (1 ⊕ z) ⊗ eq_at zs w
unfolding factor
eq_even z zs w = eq-cons z zs (w * 2) ∙ simp parity

pub eq-odd : (z : ℕ) (zs : List ℕ) (w : ℕ) → eq_at (z ∷ zs) (w * 2 + 1) ≡ z ⊗ eq_at zs w
unfolding factor
eq-odd z zs w = eq-cons z zs (w * 2 + 1) ∙ simp parity

-- an entry is a word
pub eq-lt : (z : List ℕ) (v : ℕ) → eq_at z v < 2 ^ 128
eq-lt [] v = rw (eq-nil v) (lit< tt)
eq-lt (z ∷ zs) v = rw (eq-cons z zs v) (⊗-lt (factor z (v % 2)) (eq_at zs (v / 2)))

pub eq_table-at : (z : List ℕ) (v : ℕ) → v < 2 ^ length z → at (eq_table z) v ≡ eq_at z v
unfolding eq_table
eq_table-at z v h = at-tab (2 ^ length z) (eq_at z) v h

-- a point in two parts: the low bits go with the first
pub eq-append : (xs ys : List ℕ) (v : ℕ) → eq_at (xs ++ ys) v ≡ eq_at xs (v % 2 ^ length xs) ⊗ eq_at ys (v / 2 ^ length xs)
eq-append [] ys v = rw (eq-nil (v % 1), div-one v) (sym (one-⊗ (eq_at ys v) (eq-lt ys v)))
eq-append (x ∷ xs) ys v =
    let n = length xs in
    rw (eq-cons x (xs ++ ys) v, eq-cons x xs (v % 2 ^ suc n), low_bit v n, low_half v n, ← high_half v n, eq-append xs ys (v / 2))
    (sym (⊗_assoc (factor x (v % 2)) (eq_at xs (v / 2 % 2 ^ length xs)) (eq_at ys (v / 2 / 2 ^ length xs))))

-- one more coordinate: place v of the half b
eq_snoc : (zs : List ℕ) (z b v : ℕ) → v < 2 ^ length zs → eq_at (zs ++ (z ∷ [])) (b * 2 ^ length zs + v) ≡ eq_at zs v ⊗ factor z (b % 2)
eq_snoc zs z b v h =
    rw (eq-append zs (z ∷ []) (b * 2 ^ length zs + v), digits_div b h, digits_mod b h, eq-cons z [] b, eq-nil (b / 2)) (⊗-⊗-one (eq_at zs v) (factor z (b % 2)))

-- the doubling, coordinate by coordinate, in one buffer
pub eq-double : (zs : List ℕ) (z : ℕ) → eq_table (zs ++ (z ∷ [])) ≡ map (λ e. e ⊗ (1 ⊕ z)) (eq_table zs) ++ map (λ e. e ⊗ z) (eq_table zs)
unfolding eq_table factor
eq-double zs z =
    ap (λ m. tab m (eq_at (zs ++ (z ∷ [])))) size
    ∙ tab-add (2 ^ length zs) (2 ^ length zs) (eq_at (zs ++ (z ∷ [])))
    ∙ ap₂ ◌++◌ (half 0 (λ v. omega arith)) (half 1 (λ v. omega arith))
  where
    size : 2 ^ length (zs ++ (z ∷ [])) ≡ 2 ^ length zs + 2 ^ length zs
    size = rw (length-append zs (z ∷ []), add-one) (omega arith)

    half : (b : ℕ) {g : ℕ → ℕ} → ((v : ℕ) → g v ≡ b * 2 ^ length zs + v)
        → tab (2 ^ length zs) (λ v. eq_at (zs ++ (z ∷ [])) (g v)) ≡ map (λ e. e ⊗ factor z (b % 2)) (tab (2 ^ length zs) (eq_at zs))
    half b p =
        tab-ext (2 ^ length zs) (λ v h. ap (eq_at (zs ++ (z ∷ []))) (p v) ∙ eq_snoc zs z b v h)
        ∙ sym (map-tab (λ e. e ⊗ factor z (b % 2)) (2 ^ length zs) (eq_at zs))

-- its lower half with the upper half's product
pub eq-low : (e z : ℕ) → e < 2 ^ 128 → e ⊗ (1 ⊕ z) ≡ e ⊕ e ⊗ z
eq-low e z h = simp (ring, one-⊗)

-- the low half of a table of one coordinate more, as code computes it
pub low-entries : (zs : List ℕ) (z : ℕ) → map (λ e. e ⊕ e ⊗ z) (eq_table zs) ≡ map (λ e. e ⊗ (1 ⊕ z)) (eq_table zs)
unfolding eq_table
low-entries zs z =
    map-tab (λ e. e ⊕ e ⊗ z) (2 ^ length zs) (eq_at zs)
    ∙ tab-ext (2 ^ length zs) (λ v h. sym (eq-low (eq_at zs v) z (eq-lt zs v)))
    ∙ sym (map-tab (λ e. e ⊗ (1 ⊕ z)) (2 ^ length zs) (eq_at zs))
