-- `tree_build::put_parents_from` meets its contract.
-- The loop's invariant: storing the parents that are left gives the final buffer; the level below and the message's prefix are kept.
use Prim.Native.Nat.{ℕ, ◌+◌, ◌*◌}
use mathlib.Core.Path.{◌≡◌, refl, ◌∙◌}
use Rattle.tree_digest.proofs.Messages.{prefix-is}
use Rattle.tree_by_fours.proofs.Parents.{below-kept, parents_end}
use Rattle.tree_build.proofs.Levels.{parents-step}
use borrow.Author.Rules.{rules}
use native.Mathlib.Omega.{arith}
use Rattle.tree_build.proofs.put_parents_from.Goals as goal

pub loop-j-init : goal.loop-j-init
loop-j-init c = (refl, refl, prefix-is _ _ _ _ _ c.node_prefix-prefix.ensures (omega arith), refl, refl)

pub loop-j-preserved : goal.loop-j-preserved
loop-j-preserved c =
    let q = c.loop-j in let a = c.args in let h = c.hash_node-d.ensures in let p = c.put.ensures in let below : ℕ = a.from + 64 * a.half in
    let e : c.put.result ≡ below + 32 * (q.j + 1) = omega (arith, p.end) in
    let s : a.from + 64 * q.j + 64 ≡ a.from + 64 * (q.j + 1) = omega arith in (
      search rules,
      search rules,
      h.kept ∙ q.invariant.2,
      below-kept below _ _ _ _ _ _ _ q.invariant.3 (omega arith) p,
      rw (e, s) at (parents-step _ _ _ _ _ _ below _ q.invariant.3 c.loop-j-test.true (omega arith) c.load-l.ensures
          c.load-r.ensures q.invariant.2 h p q.invariant.4),
    )

pub returns : goal.returns
returns c = parents_end _ _ _ _ _ _ _ _ _ c.loop-j-test.false c.loop-j.invariant.4
