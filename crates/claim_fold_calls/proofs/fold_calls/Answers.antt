-- `claim_fold_calls::fold_calls` meets its contract: where the calls stand after the first i.
use Prim.Native.Nat.{ℕ}
use mathlib.Core.Path.{refl, sym, ◌∙◌, ap}
use mathlib.Core.Logic.{inl, inr}
use native.Mathlib.Omega.{arith}
use Rattle.theory_laws.specs.Table.{tab}
use Rattle.claim_fold_calls.proofs.Turns.{reached_begin, turned, same_call, ended}
use Rattle.claim_fold_calls.proofs.fold_calls.Goals as goal
use Rattle.claim_fold_calls.proofs.fold_calls.Goals.{then-loop-i-test+then-at-n, else-loop-i-test}

pub loop-i-init : goal.loop-i-init
loop-i-init c =
    let p = c.requires in (refl, reached_begin _ _ _ _ _ _ _ p.room.levels_long p.list_long p.kept_long)

pub call_at-x-requires : goal.call_at-x-requires
call_at-x-requires c =
    (c.requires.calls_lent, omega (arith, c.loop-i-test.true, c.requires.calls_lent.calls_long))

pub call-at-requires : goal.call-at-requires
call-at-requires c =
    let p = c.requires in let s = c.loop-i.invariant in record {
      level = record {
        room = record { n_most = p.room.n_most; k_most = p.room.k_most; levels_long = s.1.levels_long; half_long = s.0 ∙ p.room.half_long };
        within = s.1.within;
        from= = s.1.from=;
      };
      below = omega (arith, s.1.within);
      list_long = s.1.list_long;
      kept_long = s.1.kept_long;
    }

pub loop-i-preserved : goal.loop-i-preserved
loop-i-preserved c =
    let s = c.loop-i.invariant in (
      c.call-at.auto.half ∙ s.0,
      turned _ _ _ _ s.1 c.loop-i-test.true (omega (arith, s.1.within)) c.call-at.auto.levels c.call-at.auto.kept
          (same_call c.call-at.ensures c.call_at-x.ensures),
    )

pub shape_of-levels : goal.shape_of-levels
shape_of-levels c =
    c.loop-i.invariant.1.levels_long ∙ sym c.requires.room.levels_long

pub shape_of-coordinates : goal.shape_of-coordinates
shape_of-coordinates c =
    c.loop-i.invariant.1.list_long ∙ sym c.requires.list_long

pub shape_of-half : goal.shape_of-half
shape_of-half c =
    c.clear.auto.s ∙ c.loop-i.invariant.0

pub shape_of-kept : goal.shape_of-kept
shape_of-kept c =
    c.loop-i.invariant.1.kept_long ∙ sym c.requires.kept_long

pub returns-clause-calls_left : goal.returns-clause-calls_left
returns-clause-calls_left c =
    ended _ _ _ _ c.loop-i.invariant.1
    (elim c.loop-i-test.branch [
      | then-loop-i-test+then-at-n w ↦ inr (omega arith)
      | else-loop-i-test w ↦ inl w.loop-i-test.false
    ])

pub returns-clause-half_after : goal.returns-clause-half_after
returns-clause-half_after c =
    c.clear.ensures ∙ ap (λ (m : ℕ). tab m (λ v. 0)) c.loop-i.invariant.0
