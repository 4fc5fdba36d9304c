-- The way from a leaf to the root along the digests of a path.
use Prim.Native.Nat.{ℕ, suc, ◌+◌, ◌-◌, ◌*◌, ◌/◌, ◌<◌, ◌≤◌}
use mathlib.Core.Path.{◌≡◌, ◌∙◌, ap, ap₂}
use mathlib.Core.List.{List}
use native.Mathlib.Omega.{arith}
use native.Mathlib.Numerals.{add-one}
use lib.ListN.{drop}
use lib.Seq.{drop-drop}
use Rattle.theory_laws.specs.Lists.{part, runs}
use Rattle.theory_merkle.specs.Tree.{group_of, left, right, leaf_digest, node_digest, climb, leaf_of, root_of_path}

-- what is left of the way, at digest l of the path
unfoldable pub climb_from : (H : List ℕ → List ℕ) → List ℕ → List ℕ → ℕ → ℕ → ℕ → ℕ → List ℕ → List ℕ
climb_from H domain s from depth l g d = climb H domain l g d (runs 32 (depth - l) (drop (from + 32 * l) s))

pub climb_begin : (H : List ℕ → List ℕ) (domain s : List ℕ) (from depth g : ℕ) (d : List ℕ)
    → climb_from H domain s from depth 0 g d ≡ climb H domain 0 g d (runs 32 depth (drop from s))
unfolding climb_from
climb_begin H domain s from depth g d =
    ap₂ (λ (c i : ℕ). climb H domain 0 g d (runs 32 c (drop i s))) {x = depth - 0} {y = depth} {u = from + 32 * 0} {v = from} (omega arith) (omega arith)

-- the node over two children
pub parent_is : (H : List ℕ → List ℕ) (domain : List ℕ) (level : ℕ) (p l r : List ℕ) {x y : List ℕ} → p ≡ node_digest H domain level l r → l ≡ x → r ≡ y
    → p ≡ node_digest H domain level x y
parent_is H domain level p l r e el er = e ∙ ap₂ (node_digest H domain level) el er

pub climb-step : (H : List ℕ → List ℕ) (domain s : List ℕ) (from depth l g h : ℕ) (d e p r : List ℕ) → climb_from H domain s from depth l g d ≡ r
    → p ≡ node_digest H domain l (left g d e) (right g d e) → e ≡ part 32 (from + 32 * l) s → l < depth → h ≡ g / 2
    → climb_from H domain s from depth (l + 1) h p ≡ r
unfolding climb_from climb runs part
climb-step H domain s from depth l g h d e p r f ep ee lt eh =
    let z : depth - l ≡ suc (depth - suc l) = omega arith in
    let y : from + 32 * l + 32 ≡ from + 32 * suc l = omega arith in
    let x : drop 32 (drop (from + 32 * l) s) ≡ drop (from + 32 * suc l) s = drop-drop 32 (from + 32 * l) s ∙ ap (λ (i : ℕ). drop i s) y in
    rw (add-one, ep, eh) (rw (z, x, ← ee) at f)

pub climb_end : (H : List ℕ → List ℕ) (domain s : List ℕ) (from depth l g : ℕ) (d r : List ℕ) → climb_from H domain s from depth l g d ≡ r → depth ≤ l → d ≡ r
unfolding climb_from climb runs
climb_end H domain s from depth l g d r f h =
    let z : depth - l ≡ 0 = omega arith in
    rw z at f

-- from the group of a place
pub root_by_path : (H : List ℕ → List ℕ) (domain : List ℕ) (count width place g : ℕ) (values leaf : List ℕ) (ss : List (List ℕ)) (r : List ℕ)
    → g ≡ group_of place width → leaf ≡ leaf_digest H domain count width g values
    → r ≡ climb H domain 0 g leaf ss → r ≡ root_of_path H domain count width place values ss
unfolding root_of_path leaf_of
root_by_path H domain count width place g values leaf ss r e f h =
    h ∙ ap (λ (d : List ℕ). climb H domain 0 g d ss) f ∙ ap (λ (x : ℕ). climb H domain 0 x (leaf_digest H domain count width x values) ss) e
