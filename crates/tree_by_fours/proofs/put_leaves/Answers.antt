-- `tree_by_fours::put_leaves` meets its contract.
-- The loop's invariant: storing the leaves of the groups that are left gives the final buffer, and the messages' prefixes are kept.
use Prim.Native.Nat.{◌+◌, ◌*◌, ◌≤◌}
use mathlib.Core.Path.{◌≡◌, refl, sym, ◌∙◌}
use native.Mathlib.Omega.{arith}
use borrow.Author.Rules.{rules}
use Rattle.tree_digest.proofs.Messages.{message-length}
use Rattle.tree_four_messages.proofs.Values.{group_length}
use Rattle.tree_by_fours.proofs.Walk.{walk_begin, four-left, walk_common, walk_turn}
use Rattle.tree_by_fours.proofs.Leaves.{four-room, leaves_none, leaves_begin, leaves-turn, leaves_end}
use Rattle.tree_by_fours.proofs.put_leaves.Goals as goal
use Rattle.tree_by_fours.proofs.put_leaves.Goals.{In-loop-g}

-- the four groups of a turn are within the values
four-fit : (c : In-loop-g) → let a = c.args in a.shape.width * c.loop-g.g + 4 * a.shape.width ≤ a.shape.width * a.groups
four-fit c =
    let walk = c.loop-g.invariant.0 in four-room _ _ _ (omega (arith, four-left walk c.loop-g-test.true, walk.begun.within))

pub returns-then-all-eq0 : goal.returns-then-all-eq0
returns-then-all-eq0 c = record { value = sym c.if-all-eq0.true ∙ c.by_fours-all.ensures; out_after = leaves_none _ _ _ _ _ _ _ }

pub slice_bounds-begin-end : goal.slice_bounds-begin-end
slice_bounds-begin-end c = message-length _ _ _ _ _ _ c.leaf_prefix-prefix.ensures (omega arith)

pub begin-h-requires : goal.begin-h-requires
begin-h-requires c = (omega (arith, message-length _ _ _ _ _ _ c.leaf_prefix-prefix.ensures (omega arith)), omega arith)

pub loop-g-init : goal.loop-g-init
loop-g-init c =
    let p = c.leaf_prefix-prefix.ensures in (
      walk_begin _ _ _ _ _ _ _ _ _ _ _ _ _ p (omega arith) c.begin-h.ensures.each c.begin-h.ensures.value
          c.by_fours-all.ensures (omega (arith, p.end)),
      leaves_begin _ _ _ _ _ _ _ _,
    )

pub overflow_add-end : goal.overflow_add-end
overflow_add-end c = omega (arith, four-fit c)

pub overflow_add-first : goal.overflow_add-first
overflow_add-first c =
    omega (arith, c.loop-g.invariant.0.begun.within, c.requires.0.within, c.requires.0.shaped.groups_le)

pub offset_bounds-values-from : goal.offset_bounds-values-from
offset_bounds-values-from c = let w = (four-fit (goal.at.offset_bounds-values-from c).In-loop-g) in omega arith

pub slice_bounds-put_leaf_rests-end : goal.slice_bounds-put_leaf_rests-end
slice_bounds-put_leaf_rests-end c = let w = (four-fit (goal.at.slice_bounds-put_leaf_rests-end c).In-loop-g) in omega arith

pub put_leaf_rests-requires : goal.put_leaf_rests-requires
put_leaf_rests-requires c =
    let walk = c.loop-g.invariant.0 in let a = c.args in let y = c.requires.0 in record {
      halves = group_length a.values.now (2 * (a.shape.width * c.loop-g.g)) (8 * a.shape.width) (omega (arith, four-fit (goal.at.put_leaf_rests-requires c).In-loop-g, y.values_are));
      chunk = walk.begun.fits (omega arith);
      strides = omega arith;
      numbers = omega (
        arith,
        c.numbered-group.ensures,
        four-left walk c.loop-g-test.true,
        walk.begun.within,
        y.within,
        y.shaped.groups_le,
      );
    }

pub put_digests-requires : goal.put_digests-requires
put_digests-requires c =
    let walk = c.loop-g.invariant.0 in let more = c.loop-g-test.true in (
      walk_common walk more _ _ c.put_leaf_rests.ensures (omega arith) (omega (arith, walk.strides_long, c.requires.1)),
      omega (arith, four-left walk more, walk.begun.within, walk.tree_long, c.requires.0.room),
    )

pub loop-g-preserved : goal.loop-g-preserved
loop-g-preserved c =
    let inv = c.loop-g.invariant in let walk = inv.0 in
    let more = c.loop-g-test.true in let f = rw c.numbered-group.ensures at c.put_leaf_rests.ensures in
    let p = c.put_digests.ensures in
    let e : c.put_digests.result ≡ 32 * (c.loop-g.g + 4) = omega (arith, p.end) in (
      walk_turn walk more _ _ f _ (search rules) (search rules),
      rw e at (leaves-turn _ _ _ _ _ _ _ _ refl _ _ _ walk.begun.sized walk.prefixes f _ _ _ _ _ _ (four-left walk more) p inv.1),
    )

pub returns-else-all-eq0 : goal.returns-else-all-eq0
returns-else-all-eq0 c =
    record { value = c.by_fours-all.ensures; out_after = leaves_end _ _ _ _ _ _ _ _ _ _ _ c.loop-g-test.false c.loop-g.invariant.1 }

pub returns-else-all-eq0-2 : goal.returns-else-all-eq0-2
returns-else-all-eq0-2 c =
    let inv = c.loop-g.invariant in let walk = inv.0 in let f = rw c.numbered-group.ensures at c.put_leaf_rests.ensures in
    let turned = leaves-turn _ _ _ _ _ _ _ _ refl _ _ _ walk.begun.sized walk.prefixes f _ _ _ _ _ _ (four-left walk c.loop-g-test.true) c.put_digests.ensures inv.1 in
    record { value = c.by_fours-all.ensures; out_after = leaves_end _ _ _ _ _ _ _ _ _ _ _ (omega arith) turned }
