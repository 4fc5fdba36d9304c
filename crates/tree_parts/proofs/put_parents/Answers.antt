-- `tree_parts::put_parents` meets its contract. The loop's invariant: storing the parents that are left gives the final buffer.
use Prim.Native.Nat.{◌+◌, ◌*◌}
use mathlib.Core.Path.{◌≡◌, refl}
use native.Mathlib.Omega.{arith}
use borrow.Author.Rules.{rules}
use Rattle.theory_laws.proofs.Lists.{length-lent}
use Rattle.theory_blake3.proofs.Modes.{length-under}
use Rattle.tree_by_fours.proofs.Parents.{parents_begin}
use Rattle.tree_parts.proofs.SomeParents.{parents-turn, parents-made}
use Rattle.tree_parts.proofs.put_parents.Goals as goal

pub loop-done-init : goal.loop-done-init
loop-done-init c = (refl, parents_begin _ _ _ _ _ _ _)

pub overflow_add-end : goal.overflow_add-end
overflow_add-end c = omega (arith, c.requires.out_is, c.min-some.ensures)

pub slice_bounds-some_parents-end : goal.slice_bounds-some_parents-end
slice_bounds-some_parents-end c = omega (arith, c.requires.out_is, c.requires.pairs, c.min-some.ensures)

pub some_parents-requires : goal.some_parents-requires
some_parents-requires c =
    record {
      domain_le = c.requires.domain_le;
      few = omega (arith, c.min-some.ensures);
      pairs = length-lent (64 * c.min-some.result) (64 * c.loop-done.done) c.args.children.now
          (omega (arith, c.min-some.ensures, c.requires.out_is, c.requires.pairs));
      room = omega (arith, c.min-some.ensures, c.requires.out_is);
    }

pub loop-done-preserved : goal.loop-done-preserved
loop-done-preserved c =
    let a = c.args in let p = c.some_parents.ensures in
    let n : c.loop-done.done + c.min-some.result ≡ c.loop-done.done + 64 = omega (arith, c.min-some.ensures) in
    let next : c.some_parents.result ≡ 32 * (c.loop-done.done + 64) = omega (arith, p.end, n) in
    let from : 64 * c.loop-done.done + 64 * c.min-some.result ≡ 64 * (c.loop-done.done + 64) = omega (arith, n) in (
      search rules,
      rw (n, next, from) at (parents-turn _ (length-under _) a.hashing.domain.now a.level _ c.loop-done.done c.min-some.result (64 * c.loop-done.done)
          (32 * c.loop-done.done) _ a.children.now c.loop-done.out _ _ (omega (arith, c.min-some.ensures)) p c.loop-done.invariant.1),
    )

pub returns : goal.returns
returns c =
    let a = c.args in parents-made _ (length-under _) a.hashing.domain.now a.level _ c.loop-done.done (32 * c.loop-done.done) a.children.now c.loop-done.out a.out.now _ c.loop-done-test.false refl
    c.requires.pairs c.requires.out_is c.loop-done.invariant.1

pub returns-2 : goal.returns-2
returns-2 c =
    let a = c.args in
    let turned = parents-turn _ (length-under _) a.hashing.domain.now a.level _ c.loop-done.done c.min-some.result (64 * c.loop-done.done)
    (32 * c.loop-done.done) _ a.children.now c.loop-done.out _ _ (omega (arith, c.min-some.ensures)) c.some_parents.ensures c.loop-done.invariant.1 in
    parents-made _ (length-under _) a.hashing.domain.now a.level _ (c.loop-done.done + c.min-some.result) _ a.children.now _ a.out.now _ (omega (arith, c.min-some.ensures)) refl
    c.requires.pairs c.requires.out_is turned
