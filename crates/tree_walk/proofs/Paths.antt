-- A path read off a lent tree, digest after digest.
use Prim.Native.Nat.{ℕ, suc, ◌+◌, ◌-◌, ◌*◌, ◌/◌, ◌^◌, ◌≤◌, ◌<◌}
use mathlib.Core.Path.{◌≡◌, sym, ◌∙◌, ap, ap₂}
use mathlib.Core.List.{List, [], ◌++◌}
use native.Mathlib.Omega.{arith}
use lib.Pow.{pow_pos}
use lib.ListN.{length, get_or, take, drop, length-drop}
use lib.Seq.{drop-drop, get_or-take}
use Rattle.theory_laws.specs.Lists.{part, runs, flat, stored}
use Rattle.theory_laws.proofs.Lists.{AllLong, length_runs, get_d_runs, length-flat, stored-nil, stored-append, runs-long, drop-runs}
use Rattle.theory_merkle.specs.Tree.{sibling, path, levels_of}
use Rattle.theory_merkle.proofs.Sizes.{power_begin, next_power, half-even}
use Rattle.theory_merkle.proofs.Levels.{sibling-lt, length-path, path-long}
use Rattle.bytes_numbers.specs.helpers.Put.{Put}
use Rattle.tree_walk.specs.helpers.Paths.{path_from}

-- m digests are left at this level, of 2^depth leaves
pub record Level (depth level m g : ℕ) : Type 0 where
  pub power : m ≡ 2 ^ (depth - level)
  pub below : g < m

pub level-first : (depth m g : ℕ) → m ≡ 2 ^ depth → g < m → Level depth 0 m g
level-first depth m g e h = record { power = power_begin m depth e; below = h }

module _ (depth level m g : ℕ) (z : Level depth level m g) (lt : level < depth) where
  one_less : depth - level ≡ suc (depth - (level + 1))
  one_less = omega arith

  power_is : m ≡ 2 ^ suc (depth - (level + 1))
  power_is = z.power ∙ ap (λ i. 2 ^ i) one_less

  pub level-even : 2 * (m / 2) ≡ m
  level-even = half-even depth level m lt z.power

  pub level-next : (h : ℕ) → h ≡ g / 2 → Level depth (level + 1) (m / 2) h
  level-next h e = record { power = next_power depth level m lt z.power; below = omega (arith, level-even, z.below) }

  -- the sibling is in the level too
  pub sibling_in : sibling g < m
  sibling_in = rw power_is (sibling-lt (depth - (level + 1)) g (rw power_is at z.below))

-- what is left to store of a path
unfoldable pub path_left : List ℕ → ℕ → ℕ → ℕ → List ℕ → ℕ → ℕ → ℕ → List ℕ
path_left out to depth level trees from m g = stored out to (flat (path_from (depth - level) trees from m g))

pub path_begin : (out : List ℕ) (to depth : ℕ) (trees : List ℕ) (from m g : ℕ)
    → path_left out to depth 0 trees from m g ≡ stored out to (flat (path_from depth trees from m g))
unfolding path_left
path_begin out to depth trees from m g = let e : depth - 0 ≡ depth = omega arith in rw e

pub path-step : (out : List ℕ) (to depth level : ℕ) (trees : List ℕ) (from m g : ℕ) (r : List ℕ) (out' d : List ℕ) (s h k : ℕ)
    → path_left out to depth level trees from m g ≡ r → Level depth level m g → level < depth
    → s ≡ sibling g → d ≡ part 32 (from + 32 * s) trees → Put out to (length d) d out' k → h ≡ g / 2
    → path_left out' k depth (level + 1) trees (from + 32 * m) (m / 2) h ≡ r
unfolding path_left path_from path levels_of flat part
path-step out to depth level trees from m g r out' d s h k c z lt es ed p eh =
    let j : ℕ = depth - (level + 1) in
    let u : depth - level ≡ suc j = one_less depth level m g z lt in
    let w : m ≡ 2 ^ suc j = power_is depth level m g z lt in
    let pos : 1 ≤ 2 ^ j = pow_pos j in
    let inside = sibling_in depth level m g z lt in
    let T : List (List ℕ) = runs 32 (2 * m - 1) (drop from trees) in
    let x : get_or (take m T) (sibling g) [] ≡ d =
    get_or-take m T (sibling g) [] inside ∙ get_d_runs 32 (2 * m - 1) (sibling g) (drop from trees) (omega arith)
    ∙ ap (take 32) (drop-drop (32 * sibling g) from trees) ∙ sym (ed ∙ ap (λ i. take 32 (drop (from + 32 * i) trees)) es) in
    let n : 2 * m - 1 - m ≡ 2 * (m / 2) - 1 = omega arith in
    let y : drop m T ≡ runs 32 (2 * (m / 2) - 1) (drop (from + 32 * m) trees) =
    drop-runs 32 (2 * m - 1) m (drop from trees) (omega arith) ∙ ap₂ (λ (i : ℕ) (l : List ℕ). runs 32 i l) n (drop-drop (32 * m) from trees) in
    let rest : List ℕ = flat (path_from j trees (from + 32 * m) (m / 2) (g / 2)) in
    let q : stored out' k rest ≡ stored out to (d ++ rest) =
    ap₂ (λ (t : List ℕ) (i : ℕ). stored t i rest) p.bytes p.end ∙ sym (stored-append out to d rest) in
    let v : flat (path_from (suc j) trees from m g) ≡ d ++ rest =
    ap (λ i. get_or (take i T) (sibling g) [] ++ flat (path j (levels_of j (drop i T)) (g / 2))) (sym w)
    ∙ ap₂ (λ (a : List ℕ) (ls : List (List ℕ)). a ++ flat (path j (levels_of j ls) (g / 2))) x y in
    rw eh (q ∙ ap (λ (l : List ℕ). stored out to l) (sym v) ∙ (rw u at c))

-- its length
length_from : (depth : ℕ) (trees : List ℕ) (from m g : ℕ) → m ≡ 2 ^ depth → g < m → from + 64 * m ≤ length trees + 32
    → length (flat (path_from depth trees from m g)) ≡ 32 * depth
unfolding path_from
length_from depth trees from m g e h n =
    let pos : 1 ≤ 2 ^ depth = pow_pos depth in
    let T : List (List ℕ) = runs 32 (2 * m - 1) (drop from trees) in
    let long : AllLong 32 T = runs-long 32 (2 * m - 1) (drop from trees) (simp length-drop (omega arith)) in
    let a : AllLong 32 (path depth (levels_of depth T) g) =
    path-long 32 depth T g long (ap suc (length_runs 32 (2 * m - 1) (drop from trees)) ∙ omega arith) (rw e at h) in
    length-flat 32 (path depth (levels_of depth T) g) a ∙ ap (λ i. 32 * i) (length-path depth T g)

none_left : (out : List ℕ) (at : ℕ) (trees : List ℕ) (from m g : ℕ) (r : List ℕ) → stored out at (flat (path_from 0 trees from m g)) ≡ r → out ≡ r
unfolding path_from path flat
none_left out at trees from m g r d = sym (stored-nil out at) ∙ d

pub path_put : (o out : List ℕ) (to at depth level : ℕ) (trees : List ℕ) (from₀ m₀ g₀ from m g : ℕ)
    → path_left out at depth level trees from m g ≡ stored o to (flat (path_from depth trees from₀ m₀ g₀))
    → m₀ ≡ 2 ^ depth → g₀ < m₀ → from₀ + 64 * m₀ ≤ length trees + 32 → level ≤ depth → depth ≤ level → at ≡ to + 32 * level
    → Put o to (32 * depth) (flat (path_from depth trees from₀ m₀ g₀)) out at
unfolding path_left
path_put o out to at depth level trees from₀ m₀ g₀ from m g c e h n l k f =
    let u : depth - level ≡ 0 = omega arith in
    let v : level ≡ depth = omega arith in
    record {
      bytes = none_left out at trees from m g _ (rw u at c);
      size = length_from depth trees from₀ m₀ g₀ e h n;
      end = f ∙ ap (λ i. to + 32 * i) v;
    }
