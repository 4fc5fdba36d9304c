-- A tree made in parts is the tree that `build` makes, whatever the division.
use Prim.Native.Nat.{ℕ, zero, suc, ◌+◌, ◌*◌, ◌/◌, ◌%◌, ◌^◌}
use mathlib.Core.Path.{◌≡◌, refl, sym, ◌∙◌, ap, ap₂, subst}
use mathlib.Core.List.{List, [], ◌∷◌, ◌++◌, map}
use native.Mathlib.Nat.{pow-suc}
use native.Mathlib.Omega.{arith}
use lib.ListN.{length, length-append}
use lib.Seq.{take_at, drop_at, take_all}
use Rattle.theory_laws.specs.Lists.{part, runs, flat, AllLong}
use Rattle.theory_laws.proofs.Lists.{length_runs, runs-add, runs_same, runs_of_flat, length-flat, flat_append}
use Rattle.theory_laws.proofs.Parts.{PartsOf, parts-one, parts-joined}
use Rattle.theory_merkle.specs.Digests.{DigestsLong}
use Rattle.theory_merkle.specs.Shape.{Shape}
use Rattle.theory_merkle.specs.Tree.{depth_of, leaves, parents, levels_from, end_to_end, tree_of}
use Rattle.theory_merkle.proofs.Levels.{length-parents, parents-long}
use Rattle.theory_merkle.proofs.Tree.{length-leaves, leaves-long}
use Rattle.tree_by_fours.proofs.Splits.{parents-append}
use Rattle.tree_parts.specs.Parts.{parents_of}
use Rattle.tree_parts.proofs.LeavesPart.{all-leaves, is-tree}

module _ (H : List ℕ → List ℕ) (sized : DigestsLong H) (domain : List ℕ) where
  -- ---- a level in parts

  -- the parents of digests in two runs, the first of them pairs
  parents_of-append : (level m : ℕ) (a b : List ℕ) → length a ≡ 64 * m
      → parents_of H domain level (a ++ b) ≡ parents_of H domain level a ++ parents_of H domain level b
  parents_of-append level m a b e =
      let c : ℕ = length b / 32 in
      let n : length (a ++ b) / 32 ≡ 2 * m + c = omega (arith, length-append a b) in
      let k : length a / 32 ≡ 2 * m = omega arith in
      let s : length a ≡ 32 * (2 * m) = omega arith in
      let first : runs 32 (2 * m) (a ++ b) ≡ runs 32 (2 * m) a =
      runs_same 32 (2 * m) (a ++ b) a (take_at a b (32 * (2 * m)) s ∙ sym (take_all (32 * (2 * m)) a (omega arith))) in
      let digests : runs 32 (length (a ++ b) / 32) (a ++ b) ≡ runs 32 (length a / 32) a ++ runs 32 c b =
      ap (λ i. runs 32 i (a ++ b)) n ∙ runs-add 32 (2 * m) c (a ++ b)
      ∙ ap₂ ◌++◌ (first ∙ ap (λ i. runs 32 i a) (sym k)) (ap (runs 32 c) (drop_at a b (32 * (2 * m)) s)) in
      ap (λ (ds : List (List ℕ)). flat (parents H domain level ds)) digests
      ∙ ap flat (parents-append H domain level m (runs 32 (length a / 32) a) (runs 32 c b) (length_runs 32 (length a / 32) a ∙ k))
      ∙ flat_append (parents H domain level (runs 32 (length a / 32) a)) (parents H domain level (runs 32 c b))

  -- each part holds whole pairs of digests
  abbrev pub Pairs : List (List ℕ) → Type 0
  Pairs [] = Unit
  Pairs (c ∷ cs) = (length c % 64 ≡ 0) × Pairs cs

  parents_of_parts : (level : ℕ) (cs : List (List ℕ)) → Pairs cs → flat (map (parents_of H domain level) cs) ≡ parents_of H domain level (flat cs)
  unfolding flat runs parents
  parents_of_parts level [] h = refl
  parents_of_parts level (c ∷ cs) h =
      let e : length c ≡ 64 * (length c / 64) = omega (arith, h.0) in
      ap (◌++◌ (parents_of H domain level c)) (parents_of_parts level cs h.1) ∙ sym (parents_of-append level (length c / 64) c (flat cs) e)

  -- a level made in parts: the parents of consecutive parts of the digests below it
  pub record LevelInParts (level : ℕ) (below made : List ℕ) : Type 0 where
    pub parts : List (List ℕ)
    pub consecutive : PartsOf below 0 parts
    pub all : length (flat parts) ≡ length below
    pub pairs : Pairs parts
    pub each : made ≡ flat (map (parents_of H domain level) parts)

  level-joined : (level : ℕ) (below made : List ℕ) → LevelInParts level below made → made ≡ parents_of H domain level below
  level-joined level below made p =
      p.each ∙ parents_of_parts level p.parts p.pairs ∙ ap (parents_of H domain level) (parts-joined below p.parts p.consecutive p.all)

  -- ---- all levels in parts

  -- the levels above digests, each made in parts from the one below it
  abbrev pub LevelsInParts : ℕ → ℕ → List ℕ → List (List ℕ) → Type 0
  LevelsInParts zero level below ls = ls ≡ []
  LevelsInParts (suc depth) level below [] = ⊥
  LevelsInParts (suc depth) level below (l ∷ ls) = LevelInParts level below l × LevelsInParts depth (suc level) l ls

  levels-joined : (depth level : ℕ) (ds ls : List (List ℕ)) → AllLong 32 ds → length ds ≡ 2 ^ depth → LevelsInParts depth level (flat ds) ls
      → flat ds ++ flat ls ≡ flat (end_to_end (levels_from H domain depth level ds))
  unfolding end_to_end levels_from flat
  levels-joined zero level ds ls long n made = ap (λ (x : List (List ℕ)). flat ds ++ flat x) made ∙ sym (flat_append ds [])
  levels-joined (suc depth) level ds [] long n made = absurd made
  levels-joined (suc depth) level ds (l ∷ ls) long n made =
      let c : length ds ≡ length (flat ds) / 32 = omega (arith, length-flat 32 ds long) in
      let ps : List (List ℕ) = parents H domain level ds in
      let is : l ≡ flat ps = level-joined level (flat ds) l made.0
      ∙ ap (λ (xs : List (List ℕ)). flat (parents H domain level xs)) (runs_of_flat 32 (length (flat ds) / 32) ds c long) in
      let up : LevelsInParts depth (suc level) (flat ps) ls = subst (λ (x : List ℕ). LevelsInParts depth (suc level) x ls) is made.1 in
      ap (λ (x : List ℕ). flat ds ++ (x ++ flat ls)) is
      ∙ ap (◌++◌ (flat ds)) (levels-joined depth (suc level) ps ls (parents-long H domain sized level ds)
      (length-parents H domain level (2 ^ depth) ds (n ∙ pow-suc 2 depth ∙ omega arith)) up)
      ∙ sym (flat_append ds (end_to_end (levels_from H domain depth (suc level) ps)))

  -- leaves that are consecutive parts of the tree, and every level above them made in parts: all of it end to end is the tree
  pub tree-joined : (count width : ℕ) (ws : List ℕ) (ps ls : List (List ℕ)) → Shape count width
      → PartsOf (flat (tree_of H domain count width ws)) 0 ps → length (flat ps) ≡ 32 * (count / width)
      → LevelsInParts (depth_of count width) 0 (flat ps) ls
      → flat ps ++ flat ls ≡ flat (tree_of H domain count width ws)
  tree-joined count width ws ps ls shape are n made =
      let whole : List ℕ = flat (tree_of H domain count width ws) in
      let ds : List (List ℕ) = leaves H domain count width ws in
      let bottom : flat ps ≡ flat ds = parts-one whole 0 ps are ∙ ap (λ (m : ℕ). part m 0 whole) n ∙ sym (all-leaves H sized domain count width ws) in
      let up : LevelsInParts (depth_of count width) 0 (flat ds) ls = subst (λ (x : List ℕ). LevelsInParts (depth_of count width) 0 x ls) bottom made in
      ap (λ (x : List ℕ). x ++ flat ls) bottom
      ∙ levels-joined (depth_of count width) 0 ds ls (leaves-long H domain count width sized ws)
      (length-leaves H domain count width ws ∙ shape.groups) up
      ∙ ap flat (is-tree H sized domain count width ws)
