-- The levels of a tree, each over the one below: their sizes, the path that leads to the root, and the levels end to end.
use Prim.Native.Nat.{ℕ, zero, suc, ◌+◌, ◌*◌, ◌-◌, ◌/◌, ◌%◌, ◌^◌, ◌≤◌, ◌<◌}
use mathlib.Core.Path.{◌≡◌, refl, sym, ◌∙◌, ap, ap₂}
use mathlib.Core.Bool.{Bool, true, false}
use mathlib.Core.List.{List, [], ◌∷◌, append-nil}
use native.Mathlib.Nat.{div-one}
use native.Mathlib.Omega.{arith}
use borrow.Author.Tests.{eqb-true, eqb-false}
use lib.Dec.{eqb}
use lib.Pow.{pow_pos, pow_mono}
use lib.ListN.{length, get_or, drop, length-append, length-drop}
use lib.Seq.{take_at, drop_at, get_or-take, get_or-drop}
use Rattle.theory_laws.specs.Questions.{pick}
use Rattle.theory_laws.specs.Places.{flip}
use Rattle.theory_laws.proofs.Lists.{AllLong, get_d_long, append-long, drop-long}
use Rattle.theory_laws.proofs.Parity.{high_half}
use Rattle.theory_merkle.specs.Digests.{DigestsLong}
use Rattle.theory_merkle.specs.Message.{node_message}
use Rattle.theory_merkle.specs.Tree.{root, sibling, path, end_to_end, levels_of, left, right, node_digest, parents, levels_from, climb}

-- ---- a sibling

pub sibling-even : (g : ℕ) → g % 2 ≡ 0 → sibling g ≡ g + 1
unfolding flip
sibling-even g h = omega arith

pub sibling-odd : (g : ℕ) → (g % 2 ≡ 0 → ⊥) → sibling g ≡ g - 1
unfolding flip
sibling-odd g h = omega arith

pub sibling-lt : (h g : ℕ) → g < 2 ^ suc h → sibling g < 2 ^ suc h
unfolding flip
sibling-lt h g k = omega arith

-- ---- a lent tree

pub length-path : (h : ℕ) (t : List (List ℕ)) (g : ℕ) → length (path h (levels_of h t) g) ≡ h
unfolding path levels_of
length-path zero t g = refl
length-path (suc h) t g = ap suc (length-path h (drop (2 ^ suc h) t) (g / 2))

-- a path holds digests of the tree
pub path-long : (n h : ℕ) (t : List (List ℕ)) (g : ℕ) → AllLong n t → suc (length t) ≡ 2 ^ suc h → g < 2 ^ h → AllLong n (path h (levels_of h t) g)
unfolding path levels_of
path-long n zero t g a e k = tt
path-long n (suc h) t g a e k =
    let s = sibling-lt h g k in
    let p : 1 ≤ 2 ^ h = pow_pos h in (
      ap length (get_or-take (2 ^ suc h) t (sibling g) [] s) ∙ get_d_long n (sibling g) t a (omega arith),
      path-long n h (drop (2 ^ suc h) t) (g / 2) (drop-long n (2 ^ suc h) t a) (simp length-drop (omega arith)) (omega arith),
    )

-- where level i starts, of h + 1 levels end to end: behind 2^h, 2^(h - 1), .. digests
abbrev pub level_start : ℕ → ℕ → ℕ
level_start h i = 2 ^ suc h - 2 ^ (suc h - i)

pub level_start-zero : (h : ℕ) → level_start h 0 ≡ 0
level_start-zero h = let e : suc h - 0 ≡ suc h = omega arith in rw e (omega arith)

pub level_start-next : (h i : ℕ) → level_start (suc h) (suc i) ≡ 2 ^ suc h + level_start h i
level_start-next h i =
    let e : suc (suc h) - suc i ≡ suc h - i = omega arith in
    rw e (omega (arith, pow_mono {i = suc h - i} {j = suc h} (omega arith)))

-- digest g of level i
pub level-at : (h i : ℕ) (t : List (List ℕ)) (g : ℕ) → i ≤ h → g < 2 ^ (h - i) → get_or (get_or (levels_of h t) i []) g [] ≡ get_or t (level_start h i + g) []
unfolding levels_of
level-at zero zero t g k l = ap (λ j. get_or t j []) (let z : g ≡ 0 + g = omega arith in z)
level-at zero (suc i) t g k l = absurd (omega arith)
level-at (suc h) zero t g k l =
    let z : level_start (suc h) 0 + g ≡ g = omega (arith, level_start-zero (suc h)) in
    let e : suc h - 0 ≡ suc h = omega arith in
    get_or-take (2 ^ suc h) t g [] (rw e at l) ∙ ap (λ j. get_or t j []) (sym z)
level-at (suc h) (suc i) t g k l =
    let e : suc h - suc i ≡ h - i = omega arith in
    let z : 2 ^ suc h + (level_start h i + g) ≡ level_start (suc h) (suc i) + g = omega (arith, level_start-next h i) in
    level-at h i (drop (2 ^ suc h) t) g (omega arith) (rw e at l) ∙ get_or-drop (2 ^ suc h) t (level_start h i + g) [] ∙ ap (λ j. get_or t j []) z

-- the root is the last digest
pub root-last : (h : ℕ) (t : List (List ℕ)) → root h (levels_of h t) ≡ get_or t (2 ^ suc h - 2) []
unfolding root
root-last h t =
    let e : suc h - h ≡ 1 = omega arith in
    let z : level_start h h + 0 ≡ 2 ^ suc h - 2 = rw e (omega arith) in
    level-at h h t 0 (omega arith) (pow_pos (h - h)) ∙ ap (λ j. get_or t j []) z

-- digest i of a path: in level i, the sibling of the number, halved i times
pub path-at : (h i : ℕ) (t : List (List ℕ)) (g : ℕ) → i < h → g < 2 ^ h → get_or (path h (levels_of h t) g) i [] ≡ get_or t (level_start h i + sibling (g / 2 ^ i)) []
unfolding path levels_of
path-at zero i t g k l = absurd (omega arith)
path-at (suc h) zero t g k l =
    let z : level_start (suc h) 0 + sibling g ≡ sibling g = omega (arith, level_start-zero (suc h)) in
    get_or-take (2 ^ suc h) t (sibling g) [] (sibling-lt h g l)
    ∙ ap (λ j. get_or t j []) (sym z) ∙ ap (λ j. get_or t (level_start (suc h) 0 + sibling j) []) (sym (div-one g))
path-at (suc h) (suc i) t g k l =
    let j = sibling (g / 2 / 2 ^ i) in
    let z : 2 ^ suc h + (level_start h i + j) ≡ level_start (suc h) (suc i) + j = omega (arith, level_start-next h i) in
    path-at h i (drop (2 ^ suc h) t) (g / 2) (omega arith) (omega arith)
    ∙ get_or-drop (2 ^ suc h) t (level_start h i + j) []
    ∙ ap (λ j. get_or t j []) z
    ∙ ap (λ j. get_or t (level_start (suc h) (suc i) + sibling j) []) (high_half g i)

-- ---- a tree that is built
module _ (H : List ℕ → List ℕ) (domain : List ℕ) where
  pub length-parents : (l n : ℕ) (ds : List (List ℕ)) → length ds ≡ 2 * n → length (parents H domain l ds) ≡ n
  unfolding parents
  length-parents l n [] e = omega arith
  length-parents l n (d ∷ []) e = absurd (omega arith)
  length-parents l zero (d ∷ d' ∷ ds) e = absurd (omega arith)
  length-parents l (suc n) (d ∷ d' ∷ ds) e = ap suc (length-parents l n ds (omega arith))

  pub parents-at : (l : ℕ) (ds : List (List ℕ)) (q : ℕ) → 2 * q + 1 < length ds
      → get_or (parents H domain l ds) q [] ≡ node_digest H domain l (get_or ds (2 * q) []) (get_or ds (2 * q + 1) [])
  unfolding parents
  parents-at l [] q h = absurd (omega arith)
  parents-at l (d ∷ []) q h = absurd (omega arith)
  parents-at l (d ∷ d' ∷ ds) zero h = refl
  parents-at l (d ∷ d' ∷ ds) (suc q) h =
      let x : 2 * suc q ≡ suc (suc (2 * q)) = omega arith in
      let y : 2 * suc q + 1 ≡ suc (suc (2 * q + 1)) = omega arith in
      rw (y, x) (parents-at l ds q (omega arith))

  -- a digest and its sibling give the parent
  step-up : (l : ℕ) (ds : List (List ℕ)) (g : ℕ) → 2 * (g / 2) + 1 < length ds
      → node_digest H domain l (left g (get_or ds g []) (get_or ds (sibling g) [])) (right g (get_or ds g []) (get_or ds (sibling g) []))
      ≡ get_or (parents H domain l ds) (g / 2) []
  step-up l ds g h = go (eqb (g % 2) 0) refl
    where
      go : (b : Bool) → eqb (g % 2) 0 ≡ b
          → node_digest H domain l (pick b (get_or ds g []) (get_or ds (sibling g) [])) (pick b (get_or ds (sibling g) []) (get_or ds g []))
          ≡ get_or (parents H domain l ds) (g / 2) []
      go true e =
          let m = eqb-true (g % 2) 0 e in
          let x : g ≡ 2 * (g / 2) = omega arith in
          let y : sibling g ≡ 2 * (g / 2) + 1 = sibling-even g m ∙ omega arith in
          ap₂ (λ (i j : ℕ). node_digest H domain l (get_or ds i []) (get_or ds j [])) x y ∙ sym (parents-at l ds (g / 2) h)
      go false e =
          let m = eqb-false (g % 2) 0 e in
          let x : g ≡ 2 * (g / 2) + 1 = omega arith in
          let y : sibling g ≡ 2 * (g / 2) = sibling-odd g m ∙ omega arith in
          ap₂ (λ (i j : ℕ). node_digest H domain l (get_or ds i []) (get_or ds j [])) y x ∙ sym (parents-at l ds (g / 2) h)

  -- the path of a leaf leads to the root
  pub path_leads_to-root : (h l : ℕ) (ds : List (List ℕ)) (g : ℕ) → length ds ≡ 2 ^ h → g < 2 ^ h
      → climb H domain l g (get_or ds g []) (path h (levels_from H domain h l ds) g) ≡ root h (levels_from H domain h l ds)
  unfolding climb path levels_from root
  path_leads_to-root zero l ds g n k = ap (λ i. get_or ds i []) (let z : g ≡ 0 = omega arith in z)
  path_leads_to-root (suc h) l ds g n k =
      let above = path h (levels_from H domain h (suc l) (parents H domain l ds)) (g / 2) in
      ap (λ (d : List ℕ). climb H domain (suc l) (g / 2) d above) (step-up l ds g (omega arith))
      ∙ path_leads_to-root h (suc l) (parents H domain l ds) (g / 2) (length-parents l (2 ^ h) ds (omega arith)) (omega arith)

  -- ---- end to end

  -- 2 × groups − 1 digests
  pub length-end_to_end : (h l : ℕ) (ds : List (List ℕ)) → length ds ≡ 2 ^ h → suc (length (end_to_end (levels_from H domain h l ds))) ≡ 2 ^ suc h
  unfolding end_to_end levels_from
  length-end_to_end zero l ds n = rw (append-nil ds) (omega arith)
  length-end_to_end (suc h) l ds n =
      let i = length-end_to_end h (suc l) (parents H domain l ds) (length-parents l (2 ^ h) ds (omega arith)) in
      rw (length-append, n) (omega arith)

  -- a lent tree has the levels of which it was made
  pub levels_of-end_to_end : (h l : ℕ) (ds : List (List ℕ)) → length ds ≡ 2 ^ h → levels_of h (end_to_end (levels_from H domain h l ds)) ≡ levels_from H domain h l ds
  unfolding end_to_end levels_from levels_of
  levels_of-end_to_end zero l ds n = ap (λ (t : List (List ℕ)). t ∷ []) (append-nil ds)
  levels_of-end_to_end (suc h) l ds n =
      let rest : List (List ℕ) = end_to_end (levels_from H domain h (suc l) (parents H domain l ds)) in
      rw (take_at ds rest (2 ^ suc h) n, drop_at ds rest (2 ^ suc h) n)
      (ap (λ (ls : List (List (List ℕ))). ds ∷ ls) (levels_of-end_to_end h (suc l) (parents H domain l ds) (length-parents l (2 ^ h) ds (omega arith))))

  module _ (sized : DigestsLong H) where
    pub parents-long : (l : ℕ) (ds : List (List ℕ)) → AllLong 32 (parents H domain l ds)
    unfolding parents node_digest
    parents-long l [] = tt
    parents-long l (d ∷ []) = tt
    parents-long l (d ∷ d' ∷ ds) = (sized (node_message domain l d d'), parents-long l ds)

    pub end_to_end-long : (h l : ℕ) (ds : List (List ℕ)) → AllLong 32 ds → AllLong 32 (end_to_end (levels_from H domain h l ds))
    unfolding end_to_end levels_from
    end_to_end-long zero l ds a = append-long 32 ds [] a tt
    end_to_end-long (suc h) l ds a =
        let ps = parents H domain l ds in
        append-long 32 ds (end_to_end (levels_from H domain h (suc l) ps)) a (end_to_end-long h (suc l) ps (parents-long l ds))
