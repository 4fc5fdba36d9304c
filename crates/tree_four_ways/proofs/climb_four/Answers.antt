-- `tree_four_ways::climb_four` meets its contract. The loop's invariant: what is left of each way leads to the same root.
use Prim.Native.Nat.{ℕ, ◌+◌}
use mathlib.Core.Path.{◌∙◌, ap}
use mathlib.Core.List.{List}
use native.Mathlib.Omega.{arith}
use Rattle.theory_laws.specs.Table.{at}
use Rattle.theory_blake3.specs.Modes.{under}
use Rattle.tree_walk.proofs.Climb.{climb_end}
use Rattle.tree_digest.specs.helpers.Begun.{node_front}
use Rattle.tree_four_ways.specs.helpers.Ways.{domain_of, lane_rest}
use Rattle.tree_four_ways.specs.helpers.Lists.{groups, froms, depths}
use Rattle.tree_four_ways.proofs.Climb.{fronts_long, whole-messages, fronts_kept, from_fronts, way_begin, way_step}
use borrow.Author.Rules.{rules}
use Rattle.tree_four_ways.proofs.climb_four.Goals as goal

pub loop-level-init : goal.loop-level-init
loop-level-init c = (
  search rules,
  c.put_fronts.ensures,
  λ k h. way_begin _ _ _ _ _ _ _,
)

pub put_ends-requires : goal.put_ends-requires
put_ends-requires c =
    let paths = c.requires.2 in (omega arith, omega arith, omega (arith, paths.deep, c.loop-level-test.true), paths.low)

pub digests_from-v-requires : goal.digests_from-v-requires
digests_from-v-requires c =
    let a = c.args in let ends : ℕ → List ℕ = lane_rest c.loop-level.level (groups a.lanes) c.loop-level.d a.s.now (froms a.lanes) in
    let fronts : ℕ → List ℕ = λ k. node_front (domain_of a.domains.now a.size k) in
    from_fronts a.mode (48 + a.size) 88 fronts ends _ _ _ c.put_fronts.ensures
    (λ k h. fronts_long _ _ k c.requires.0 c.requires.1 h) c.first_lanes-h.ensures (whole-messages _ 88 fronts ends _ _ c.loop-level.invariant.1 c.put_ends.ensures)
    (omega arith) (omega arith) (omega arith)

pub loop-level-preserved : goal.loop-level-preserved
loop-level-preserved c =
    let a = c.args in let domain : ℕ → List ℕ = domain_of a.domains.now a.size in
    let ends : ℕ → List ℕ = lane_rest c.loop-level.level (groups a.lanes) c.loop-level.d a.s.now (froms a.lanes) in
    let fronts : ℕ → List ℕ = λ k. node_front (domain k) in
    let filled = c.put_ends.ensures in (
      search rules,
      fronts_kept _ 88 fronts ends _ _ c.loop-level.invariant.1 filled (λ k h. fronts_long _ _ k c.requires.0 c.requires.1 h),
      λ k h.
          way_step (under a.mode) (domain k) a.s.now (at (froms a.lanes) k) (at (depths a.lanes) k) c.loop-level.level (at (groups a.lanes) k) _ _ _ _
          (c.requires.2.there k h) (c.loop-level.invariant.2 k h)
          (c.digests_from-v.ensures k h ∙ ap (under a.mode) (whole-messages _ 88 fronts ends _ _ c.loop-level.invariant.1 filled k h))
          (c.settled-e.ensures k h),
    )

pub returns : goal.returns
returns c =
    λ k h. climb_end _ _ _ _ _ _ _ _ _ (c.loop-level.invariant.2 k h) (omega (arith, c.requires.2.within k h, c.loop-level-test.false))
