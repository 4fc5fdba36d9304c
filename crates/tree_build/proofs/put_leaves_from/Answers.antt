-- `tree_build::put_leaves_from` meets its contract.
-- The loop's invariant: storing the leaves of the groups that are left gives the final buffer, and the message's prefix is kept.
use Prim.Native.Nat.{◌+◌, ◌*◌}
use mathlib.Core.Path.{◌≡◌, refl, ◌∙◌}
use Rattle.tree_digest.proofs.Messages.{prefix-is}
use Rattle.tree_four_messages.proofs.Values.{group_length}
use Rattle.tree_by_fours.proofs.Leaves.{leaves_end}
use Rattle.tree_build.proofs.Leaves.{groups-room, group_within, leaves-step}
use borrow.Author.Rules.{rules}
use native.Mathlib.Omega.{arith}
use Rattle.tree_build.proofs.put_leaves_from.Goals as goal

pub overflow_mul-from : goal.overflow_mul-from
overflow_mul-from c =
    omega (arith, c.requires.fit.values_are, group_within c.args.groups c.args.shape.width c.loop-g.g c.loop-g-test.true)

pub overflow_mul-from-in-loop-g : goal.overflow_mul-from-in-loop-g
overflow_mul-from-in-loop-g c =
    omega (arith, c.requires.fit.values_are, group_within c.args.groups c.args.shape.width c.loop-g.g c.loop-g-test.true)

pub loop-g-init : goal.loop-g-init
loop-g-init c = (refl, refl, prefix-is _ _ _ _ _ c.leaf_prefix-prefix.ensures (omega arith), refl)

pub overflow_add-end : goal.overflow_add-end
overflow_add-end c =
    omega (arith, c.requires.fit.values_are, group_within c.args.groups c.args.shape.width c.loop-g.g c.loop-g-test.true)

pub overflow_add-first : goal.overflow_add-first
overflow_add-first c =
    omega (arith, c.requires.fit.within, c.requires.fit.shaped.groups_le)

pub offset_bounds-values-from : goal.offset_bounds-values-from
offset_bounds-values-from c =
    let a = c.args in let f = c.requires.fit in omega (
      arith,
      f.values_are,
      f.shaped.count_le,
      groups-room a.shape.count a.shape.width a.groups f.shaped.shape (omega (arith, f.within)),
      group_within a.groups a.shape.width c.loop-g.g c.loop-g-test.true,
    )

pub slice_bounds-hash_group-end : goal.slice_bounds-hash_group-end
slice_bounds-hash_group-end c =
    omega (
      arith,
      c.requires.fit.values_are,
      group_within c.args.groups c.args.shape.width c.loop-g.g c.loop-g-test.true,
    )

pub hash_group-d-requires : goal.hash_group-d-requires
hash_group-d-requires c =
    let a = c.args in (
      group_length a.values.now (2 * (a.shape.width * c.loop-g.g)) (2 * a.shape.width)
          (omega (
            arith,
            c.requires.fit.values_are,
            group_within a.groups a.shape.width c.loop-g.g c.loop-g-test.true,
          )),
      omega arith,
      omega arith,
    )

pub put-requires : goal.put-requires
put-requires c =
    omega (arith, c.requires.fit.room)

pub loop-g-preserved : goal.loop-g-preserved
loop-g-preserved c =
    let h = c.hash_group-d.ensures in let p = c.put.ensures in
    let e : c.put.result ≡ 32 * (c.loop-g.g + 1) = omega (arith, p.end) in (
      search rules,
      search rules,
      h.kept ∙ c.loop-g.invariant.2,
      rw e at (leaves-step _ _ _ _ _ _ _ _ c.loop-g-test.true refl c.loop-g.invariant.2 (rw c.numbered-group.ensures at h) p c.loop-g.invariant.3),
    )

pub returns : goal.returns
returns c = leaves_end _ _ _ _ _ _ _ _ _ _ _ c.loop-g-test.false c.loop-g.invariant.3
