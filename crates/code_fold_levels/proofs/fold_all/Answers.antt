-- `code_fold_levels::fold_all` meets its contract.
use Prim.Native.Nat.{ℕ}
use mathlib.Core.Path.{refl, sym, ◌∙◌, ap}
use native.Mathlib.Omega.{arith}
use Rattle.theory_laws.specs.Table.{tab}
use Rattle.code_fold_levels.proofs.Folding.{folded-none, folded_more, folded-all}
use borrow.Author.Rules.{rules}
use Rattle.code_fold_levels.proofs.fold_all.Goals as goal

pub loop-l-init : goal.loop-l-init
loop-l-init c =
    (refl, folded-none _ _ _ _ c.requires.0.levels_long)

pub get-r-requires : goal.get-r-requires
get-r-requires c =
    omega (arith, c.requires.1)

pub next_level-from-requires : goal.next_level-from-requires
next_level-from-requires c =
    let room = c.requires.0 in let f = c.loop-l.invariant.1 in (
      record {
        room = record { n_most = room.n_most; k_most = room.k_most; levels_long = f.long; half_long = c.loop-l.invariant.0 ∙ room.half_long };
        within = f.within;
        from= = f.from=;
      },
      (omega arith),
    )

pub loop-l-preserved : goal.loop-l-preserved
loop-l-preserved c =
    (search rules, folded_more _ _ _ _ _ c.loop-l.invariant.1 (omega arith) c.get-r.ensures c.next_level-from.ensures.value c.next_level-from.ensures.levels_after (search rules))

pub shape_of-levels : goal.shape_of-levels
shape_of-levels c =
    c.loop-l.invariant.1.long ∙ sym c.requires.0.levels_long

pub shape_of-half : goal.shape_of-half
shape_of-half c =
    c.clear.auto.s ∙ c.loop-l.invariant.0

pub returns : goal.returns
returns c =
    record { levels_after = folded-all _ _ _ _ c.loop-l.invariant.1 c.loop-l-test.false; half_after = c.clear.ensures ∙ ap (λ (m : ℕ). tab m (λ v. 0)) c.loop-l.invariant.0 }
