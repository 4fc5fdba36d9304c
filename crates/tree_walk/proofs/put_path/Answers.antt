-- `put_path` meets its contract. The loop's invariant: storing the siblings that are left gives the final buffer.
use Rattle.tree_walk.proofs.Paths.{level-first, level-even, level-next, sibling_in, path_begin, path-step, path_put}
use Prim.Native.Nat.{◌<◌}
use mathlib.Core.Path.{refl, ◌∙◌}
use native.Mathlib.Omega.{arith}
use borrow.Author.Rules.{rules}
use Rattle.tree_walk.proofs.put_path.Goals as goal
use Rattle.tree_walk.proofs.put_path.Goals.{After-number}

pub loop-level-init : goal.loop-level-init
loop-level-init c =
    let p = c.requires in (level-first _ _ _ p.0 p.1, search rules, search rules, refl, path_begin _ _ _ _ _ _ _)

-- the sibling is one of the level's digests
other-in : (c : After-number) → c.number.result < c.loop-level.m
other-in c =
    omega (arith, sibling_in _ _ _ _ c.loop-level.invariant.0 c.loop-level-test.true, c.number.ensures, c.sibling.ensures)

pub overflow_mul-number : goal.overflow_mul-number
overflow_mul-number c = let h = other-in c in search rules

pub overflow_add-tree : goal.overflow_add-tree
overflow_add-tree c = let h = other-in c in search rules

pub load-d-requires : goal.load-d-requires
load-d-requires c = let h = other-in c in omega arith

pub loop-level-preserved : goal.loop-level-preserved
loop-level-preserved c =
    let q = c.loop-level.invariant in let t = c.loop-level-test.true in let e = level-even _ _ _ _ q.0 t in (
      level-next _ _ _ _ q.0 t _ c.parent-g.ensures,
      omega arith,
      omega arith,
      search rules,
      path-step _ _ _ _ _ _ _ _ _ _ _ _ _ _ q.4 q.0 t (c.number.ensures ∙ c.sibling.ensures) c.load-d.ensures
          c.put-at.ensures c.parent-g.ensures,
    )

pub returns : goal.returns
returns c =
    let q = c.loop-level.invariant in let p = c.requires in path_put _ _ _ _ _ _ _ _ _ _ _ _ _ q.4 p.0 p.1 p.2 (omega arith) (omega arith) q.2
