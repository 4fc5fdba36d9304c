-- Two chains looked through from their ends: the last messages that differ are those of the last place, or else those before it.
use Prim.Native.Nat.{ℕ, zero, suc, ◌+◌, ◌-◌, ◌*◌, ◌≤◌, ◌<◌}
use mathlib.Core.Path.{◌≡◌, refl, sym, ◌∙◌, ap, ap₂}
use mathlib.Core.List.{List, [], ◌∷◌, ◌++◌}
use Rattle.std.specs.Prelude.{Option, Some, None}
use native.Mathlib.Omega.{arith}
use native.Mathlib.Nat.{mul-le-mul_left, mul-suc}
use lib.ListN.{length, take, drop}
use lib.Seq.{drop-drop}
use Rattle.theory_laws.specs.Lists.{part, runs}
use Rattle.theory_laws.proofs.Lists.{length_runs}
use Rattle.theory_merkle.specs.Binding.{Found, none, pair, or_else, differing, last_differing}
use Rattle.compare_pick.specs.helpers.Chains.{chain_of, Picked}
use Rattle.compare_pick.proofs.Picked.{picked_first, picked_none}

or_else_assoc : (f g h : Found) → or_else (or_else f g) h ≡ or_else f (or_else g h)
or_else_assoc none g h = refl
or_else_assoc (pair m m') g h = refl

last_of : (xs ys : List (List ℕ)) (x y : List ℕ) → length xs ≡ length ys
    → last_differing (xs ++ (x ∷ [])) (ys ++ (y ∷ [])) ≡ or_else (differing x y) (last_differing xs ys)
unfolding last_differing
last_of [] [] x y e = or_else-none (differing x y)
  where
    or_else-none : (f : Found) → f ≡ or_else f none
    or_else-none none = refl
    or_else-none (pair m m') = refl
last_of [] (y' ∷ ys) x y e = absurd (omega arith)
last_of (x' ∷ xs) [] x y e = absurd (omega arith)
last_of (x' ∷ xs) (y' ∷ ys) x y e =
    ap (λ (f : Found). or_else f (differing x' y')) (last_of xs ys x y (omega arith)) ∙ or_else_assoc (differing x y) (last_differing xs ys) (differing x' y')

runs_last : (n c : ℕ) (l : List ℕ) → runs n (suc c) l ≡ runs n c l ++ (part n (n * c) l ∷ [])
unfolding runs part
runs_last n zero l = let z : n * 0 ≡ 0 = omega arith in rw z
runs_last n (suc c) l =
    let z : n + n * c ≡ n * suc c = omega (arith, mul-suc n c) in
    ap (λ (r : List (List ℕ)). take n l ∷ r)
    (runs_last n c (drop n l) ∙ ap (λ (r : List ℕ). runs n c (drop n l) ++ (take n r ∷ [])) (drop-drop (n * c) n l ∙ ap (λ (i : ℕ). drop i l) z))

length_chain : (leaf node depth : ℕ) (a : List ℕ) → length (chain_of leaf node depth a) ≡ suc depth
unfolding chain_of
length_chain leaf node depth a = ap suc (length_runs node depth (drop leaf a))

chain_last : (leaf node i : ℕ) (a : List ℕ) → chain_of leaf node (suc i) a ≡ chain_of leaf node i a ++ (part node (leaf + node * i) a ∷ [])
unfolding chain_of part
chain_last leaf node i a =
    ap (λ (r : List (List ℕ)). take leaf a ∷ r)
    (runs_last node i (drop leaf a) ∙ ap (λ (r : List ℕ). runs node i (drop leaf a) ++ (take node r ∷ [])) (drop-drop (node * i) leaf a))

-- what is found below the last i messages of two chains
unfoldable pub found_below : ℕ → ℕ → ℕ → List ℕ → List ℕ → Found
found_below leaf node i a b = last_differing (chain_of leaf node i a) (chain_of leaf node i b)

pub below_all : (leaf node depth : ℕ) (a b : List ℕ) → found_below leaf node depth a b ≡ last_differing (chain_of leaf node depth a) (chain_of leaf node depth b)
unfolding found_below
below_all leaf node depth a b = refl

below_last : (leaf node i : ℕ) (a b : List ℕ) → 0 < i
    → found_below leaf node i a b
    ≡ or_else (differing (part node (leaf + node * (i - 1)) a) (part node (leaf + node * (i - 1)) b)) (found_below leaf node (i - 1) a b)
unfolding found_below
below_last leaf node i a b h =
    let j : ℕ = i - 1 in
    let z : i ≡ suc j = omega arith in
    ap (λ (x : ℕ). last_differing (chain_of leaf node x a) (chain_of leaf node x b)) z
    ∙ ap₂ last_differing (chain_last leaf node j a) (chain_last leaf node j b)
    ∙ last_of (chain_of leaf node j a) (chain_of leaf node j b) _ _ (length_chain leaf node j a ∙ sym (length_chain leaf node j b))

-- the loop: nothing was found at place i or above, so that the buffers are as they were
module _ (leaf node i : ℕ) (a b : List ℕ) (F : Found) (e : found_below leaf node i a b ≡ F) (old old' mid mid' new new' : List ℕ) (same : mid ≡ old)
    (same' : mid' ≡ old') (from : ℕ) (h : 0 < i) (f : from ≡ leaf + node * (i - 1)) where
  found_here : found_below leaf node i a b ≡ or_else (differing (part node from a) (part node from b)) (found_below leaf node (i - 1) a b)
  found_here = rw f (below_last leaf node i a b h)

  pub below_stop : (m : ℕ) → Picked (differing (part node from a) (part node from b)) mid mid' new new' (Some m) → Picked F old old' new new' (Some m)
  below_stop m p = rw (← same, ← same', sym e ∙ found_here) (picked_first _ (found_below leaf node (i - 1) a b) mid mid' new new' m p)

  pub below_step : Picked (differing (part node from a) (part node from b)) mid mid' new new' None
      → (new ≡ old) × (new' ≡ old') × (found_below leaf node (i - 1) a b ≡ F)
  below_step p =
      let u = picked_none _ mid mid' new new' p in (
        u.first_same ∙ same,
        u.second_same ∙ same',
        ap (λ (x : Found). or_else x (found_below leaf node (i - 1) a b)) (sym u.found_none) ∙ sym found_here ∙ e,
      )

-- the leaf messages are all that is left
pub below_end : (leaf node i : ℕ) (a b : List ℕ) (F : Found) → found_below leaf node i a b ≡ F → i ≤ 0 → (old old' mid mid' new new' : List ℕ) → mid ≡ old → mid' ≡ old'
    → (r : Option ℕ) → Picked (differing (part leaf 0 a) (part leaf 0 b)) mid mid' new new' r → Picked F old old' new new' r
unfolding found_below chain_of last_differing runs
below_end leaf node i a b F e h old old' mid mid' new new' same same' r p =
    let z : i ≡ 0 = omega arith in
    rw (← same, ← same', ← (rw z at e)) p

-- a node message ends within its chain
pub node_room : (node depth j : ℕ) → j < depth → node * j + node ≤ node * depth
node_room node depth j h = omega (arith, mul-suc node j, mul-le-mul_left {m = suc j} {n = depth} node h)
