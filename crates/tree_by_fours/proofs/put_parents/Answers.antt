-- `tree_by_fours::put_parents` meets its contract.
-- The loop's invariant: storing the parents that are left gives the final buffer; the level below and the messages' prefixes are kept.
use Prim.Native.Nat.{ℕ, ◌+◌, ◌*◌}
use mathlib.Core.Path.{◌≡◌, refl, sym, ◌∙◌}
use native.Mathlib.Omega.{arith}
use borrow.Author.Rules.{rules}
use Rattle.tree_digest.proofs.Messages.{message-length}
use Rattle.tree_by_fours.proofs.Walk.{walk_begin, four-left, walk_common, walk_turn}
use Rattle.tree_by_fours.proofs.Parents.{parents-none, parents_begin, parents-turn, parents_end, below-kept}
use Rattle.tree_by_fours.proofs.put_parents.Goals as goal

pub returns-then-all-eq0 : goal.returns-then-all-eq0
returns-then-all-eq0 c = record { value = sym c.if-all-eq0.true ∙ c.by_fours-all.ensures; tree_after = parents-none _ _ _ _ _ _ }

pub slice_bounds-begin-end : goal.slice_bounds-begin-end
slice_bounds-begin-end c = message-length _ _ _ _ _ _ c.node_prefix-prefix.ensures (omega arith)

pub begin-h-requires : goal.begin-h-requires
begin-h-requires c = (omega (arith, message-length _ _ _ _ _ _ c.node_prefix-prefix.ensures (omega arith)), omega arith)

pub loop-j-init : goal.loop-j-init
loop-j-init c =
    let p = c.node_prefix-prefix.ensures in
    let z : c.args.from + 64 * c.args.half + 32 * 0 ≡ c.args.from + 64 * c.args.half = omega arith in
    let f : c.args.from + 64 * 0 ≡ c.args.from = omega arith in (
      walk_begin _ _ _ _ _ _ _ _ _ _ _ _ _ p (omega arith) c.begin-h.ensures.each c.begin-h.ensures.value
          c.by_fours-all.ensures (omega (arith, p.end)),
      refl,
      rw (z, f) (parents_begin _ _ _ _ _ _ _),
    )

pub overflow_mul-j : goal.overflow_mul-j
overflow_mul-j c = let walk = c.loop-j.invariant.0 in omega (arith, walk.begun.whole, walk.begun.within)

pub overflow_add-from : goal.overflow_add-from
overflow_add-from c = let walk = c.loop-j.invariant.0 in omega (arith, walk.begun.whole, walk.begun.within)

pub put_node_rests-requires : goal.put_node_rests-requires
put_node_rests-requires c =
    let walk = c.loop-j.invariant.0 in record {
      children = omega (arith, four-left walk c.loop-j-test.true, walk.begun.within);
      chunk = walk.begun.fits (omega arith);
      strides = omega arith;
    }

pub put_digests-requires : goal.put_digests-requires
put_digests-requires c =
    let walk = c.loop-j.invariant.0 in let more = c.loop-j-test.true in (
      walk_common walk more _ _ c.put_node_rests.ensures (omega arith) (omega (arith, walk.strides_long, c.requires.2)),
      omega (arith, four-left walk more, walk.begun.within, walk.tree_long, c.requires.1),
    )

pub loop-j-preserved : goal.loop-j-preserved
loop-j-preserved c =
    let inv = c.loop-j.invariant in let walk = inv.0 in
    let more = c.loop-j-test.true in let f = c.put_node_rests.ensures in let p = c.put_digests.ensures in
    let below : ℕ = c.args.from + 64 * c.args.half in
    let e : c.put_digests.result ≡ c.args.from + 64 * c.args.half + 32 * (c.loop-j.j + 4) = omega (arith, p.end) in
    let s : c.args.from + 64 * c.loop-j.j + 256 ≡ c.args.from + 64 * (c.loop-j.j + 4) = omega arith in (
      walk_turn walk more _ _ f _ (search rules) (search rules),
      below-kept below _ _ _ _ _ _ _ inv.1 (omega arith) p,
      rw (e, s) at (parents-turn _ _ _ _ below _ _ inv.1 (omega (arith, four-left walk more, walk.begun.within)) _ _ _ walk.begun.sized walk.prefixes f
          _ _ _ _ _ _ (four-left walk more) p inv.2),
    )

pub returns-else-all-eq0 : goal.returns-else-all-eq0
returns-else-all-eq0 c =
    record { value = c.by_fours-all.ensures; tree_after = parents_end _ _ _ _ _ _ _ _ _ c.loop-j-test.false c.loop-j.invariant.2 }

pub returns-else-all-eq0-2 : goal.returns-else-all-eq0-2
returns-else-all-eq0-2 c =
    let inv = c.loop-j.invariant in let walk = inv.0 in let more = c.loop-j-test.true in
    let turned = parents-turn _ _ _ _ (c.args.from + 64 * c.args.half) _ _ inv.1 (omega (arith, four-left walk more, walk.begun.within)) _ _ _ walk.begun.sized
    walk.prefixes c.put_node_rests.ensures _ _ _ _ _ _ (four-left walk more) c.put_digests.ensures inv.2 in
    record { value = c.by_fours-all.ensures; tree_after = parents_end _ _ _ _ _ _ _ _ _ (omega arith) turned }
