-- A level made in two steps: the leaves over the first groups and those over the rest, the parents of the first digests and of the rest.
use Prim.Native.Nat.{ℕ, zero, suc, ◌+◌, ◌*◌, ◌<◌}
use mathlib.Core.Path.{◌≡◌, refl, ◌∙◌, ap, ap₂}
use mathlib.Core.List.{List, [], ◌∷◌, ◌++◌}
use native.Mathlib.Omega.{arith}
use lib.ListN.{length, get_or, drop, length-append}
use Rattle.theory_laws.specs.Lists.{part, runs, flat}
use Rattle.theory_laws.proofs.Lists.{length_runs, get_d_runs, runs-add}
use Rattle.theory_merkle.specs.Digests.{DigestsLong}
use Rattle.theory_merkle.specs.Message.{leaf_message}
use Rattle.theory_merkle.specs.Tree.{leaf_digest, leaves_from, node_digest, parents}
use Rattle.theory_merkle.proofs.Levels.{parents-at}
use Rattle.tree_four_messages.specs.helpers.Strides.{four}
use Rattle.tree_four_messages.proofs.Whole.{four-ext}

-- four items, by their places
pub runs-four : (n : ℕ) (l : List ℕ) → runs n 4 l ≡ four (λ k. part n (n * k) l)
unfolding runs
runs-four n l = four-ext (λ k. get_or (runs n 4 l) k []) (λ k. part n (n * k) l) (λ k h. get_d_runs n 4 k l h)

module _ (H : List ℕ → List ℕ) (domain : List ℕ) where
  pub leaves_from-append : (count width g : ℕ) (xs ys : List (List ℕ))
      → leaves_from H domain count width g (xs ++ ys) ≡ leaves_from H domain count width g xs ++ leaves_from H domain count width (g + length xs) ys
  unfolding leaves_from
  leaves_from-append count width g [] ys = ap (λ i. leaves_from H domain count width i ys) (let e : g ≡ g + 0 = omega arith in e)
  leaves_from-append count width g (x ∷ xs) ys =
      ap (λ (r : List (List ℕ)). leaf_digest H domain count width g x ∷ r)
      (leaves_from-append count width (suc g) xs ys
      ∙ ap (λ i. leaves_from H domain count width (suc g) xs ++ leaves_from H domain count width i ys)
      (let e : suc g + length xs ≡ g + suc (length xs) = omega arith in e))

  pub length-flat-leaves : (sized : DigestsLong H) (count width g : ℕ) (xs : List (List ℕ))
      → length (flat (leaves_from H domain count width g xs)) ≡ 32 * length xs
  unfolding leaves_from leaf_digest flat
  length-flat-leaves sized count width g [] = omega arith
  length-flat-leaves sized count width g (x ∷ xs) =
      length-append (H (leaf_message domain count width g x)) (flat (leaves_from H domain count width (suc g) xs))
      ∙ omega (arith, sized (leaf_message domain count width g x), length-flat-leaves sized count width (suc g) xs)

  pub parents-append : (level n : ℕ) (xs ys : List (List ℕ)) → length xs ≡ 2 * n
      → parents H domain level (xs ++ ys) ≡ parents H domain level xs ++ parents H domain level ys
  unfolding parents
  parents-append level n [] ys e = refl
  parents-append level n (x ∷ []) ys e = absurd (omega arith)
  parents-append level zero (x ∷ y ∷ xs) ys e = absurd (omega arith)
  parents-append level (suc n) (x ∷ y ∷ xs) ys e = ap (λ (r : List (List ℕ)). node_digest H domain level x y ∷ r) (parents-append level n xs ys (omega arith))

  -- the leaves over the first a groups, and over b more
  pub leaves-split : (count width g a b : ℕ) (l : List ℕ)
      → leaves_from H domain count width g (runs width (a + b) l)
      ≡ leaves_from H domain count width g (runs width a l) ++ leaves_from H domain count width (g + a) (runs width b (drop (width * a) l))
  leaves-split count width g a b l =
      ap (leaves_from H domain count width g) (runs-add width a b l)
      ∙ leaves_from-append count width g (runs width a l) (runs width b (drop (width * a) l))
      ∙ ap (λ i. leaves_from H domain count width g (runs width a l) ++ leaves_from H domain count width (g + i) (runs width b (drop (width * a) l)))
      (length_runs width a l)

  -- the first a parents, and b more
  pub parents-split : (level n a b : ℕ) (l : List ℕ)
      → parents H domain level (runs n (2 * (a + b)) l)
      ≡ parents H domain level (runs n (2 * a) l) ++ parents H domain level (runs n (2 * b) (drop (n * (2 * a)) l))
  parents-split level n a b l =
      ap (λ i. parents H domain level (runs n i l)) (let e : 2 * (a + b) ≡ 2 * a + 2 * b = omega arith in e)
      ∙ ap (parents H domain level) (runs-add n (2 * a) (2 * b) l)
      ∙ parents-append level a (runs n (2 * a) l) (runs n (2 * b) (drop (n * (2 * a)) l)) (length_runs n (2 * a) l)

  -- four leaves, and four parents
  pub four-leaves : (count width g : ℕ) (l : List ℕ)
      → leaves_from H domain count width g (runs width 4 l) ≡ four (λ k. leaf_digest H domain count width (g + k) (part width (width * k) l))
  unfolding leaves_from
  four-leaves count width g l =
      ap (leaves_from H domain count width g) (runs-four width l)
      ∙ four-ext (λ k. get_or (leaves_from H domain count width g (four (λ i. part width (width * i) l))) k [])
      (λ k. leaf_digest H domain count width (g + k) (part width (width * k) l)) each
    where
      each : (k : ℕ) → k < 4 → get_or (leaves_from H domain count width g (four (λ i. part width (width * i) l))) k []
          ≡ leaf_digest H domain count width (g + k) (part width (width * k) l)
      each zero h = ap (λ i. leaf_digest H domain count width i (part width (width * 0) l)) (let e : g ≡ g + 0 = omega arith in e)
      each (suc zero) h = ap (λ i. leaf_digest H domain count width i (part width (width * 1) l)) (let e : suc g ≡ g + 1 = omega arith in e)
      each (suc (suc zero)) h = ap (λ i. leaf_digest H domain count width i (part width (width * 2) l)) (let e : suc (suc g) ≡ g + 2 = omega arith in e)
      each (suc (suc (suc zero))) h = ap (λ i. leaf_digest H domain count width i (part width (width * 3) l))
          (let e : suc (suc (suc g)) ≡ g + 3 = omega arith in e)
      each (suc (suc (suc (suc k)))) h = absurd (omega arith)

  pub four-parents : (level n : ℕ) (l : List ℕ) → parents H domain level (runs n 8 l)
      ≡ four (λ k. node_digest H domain level (part n (n * (2 * k)) l) (part n (n * (2 * k + 1)) l))
  unfolding runs parents
  four-parents level n l =
      four-ext (λ k. get_or (parents H domain level (runs n 8 l)) k []) (λ k. node_digest H domain level (part n (n * (2 * k)) l) (part n (n * (2 * k + 1)) l))
      (λ k h. parents-at H domain level (runs n 8 l) k (rw (length_runs n 8 l) (omega arith))
      ∙ ap₂ (λ (a b : List ℕ). node_digest H domain level a b) (get_d_runs n 8 (2 * k) l (omega arith)) (get_d_runs n 8 (2 * k + 1) l (omega arith)))
