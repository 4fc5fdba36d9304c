-- `record_query_check::check_levels` meets its contract: from level l on, what is left to check gives the answer, and what is known is so.
use Rattle.theory_record.proofs.Widths.{powers}
use Rattle.record_query_check.proofs.Again.{leads_next, first-known, next_known}
use Rattle.record_query_check.proofs.Loop.{begin_within, begin_whole, begin_check, rest-there, level-refused, level-passed, all-passed}
use Rattle.record_reader.proofs.Places.{level-places, level-here}
use mathlib.Core.Path.{sym, ◌∙◌, refl}
use Rattle.theory_laws.proofs.Refusals.{never}
use native.Mathlib.Omega.{arith}
use Rattle.record_query_check.proofs.check_levels.Goals as goal

pub loop-l-init : goal.loop-l-init
loop-l-init c =
    let z = c.requires.1 in
    (begin_within _ _ z, begin_whole _ _ z, begin_check _ _ _ _ _, λ h. first-known _ _ _ _ _ c.requires.2 (powers _) h)

pub bounds-ways-l : goal.bounds-ways-l
bounds-ways-l c =
    omega (arith, c.requires.0.n_most, c.loop-l-test.true)

pub unwrap-v-requires : goal.unwrap-v-requires
unwrap-v-requires c =
    let v = level-here _ _ _ _ c.loop-l-test.true c.loop-l.invariant.1 in
    rw (c.level_at.ensures ∙ sym v.1) refl

pub level_questions-requires : goal.level_questions-requires
level_questions-requires c =
    let test = c.loop-l-test.true in
    let inv = c.loop-l.invariant in
    record {
      allowed = c.requires.0;
      level_low = test;
      read = sym c.unwrap-v.ensures ∙ c.level_at.ensures;
      known = inv.3 test;
      c_known = next_known _ _ _ _ _ c.requires.2 _;
    }

pub returns-in-Err : goal.returns-in-Err
returns-in-Err c =
    level-refused _ _ _ _ _ _ _ _ _ _ (sym c.unwrap-v.ensures ∙ c.level_at.ensures) c.in-Err.ensures c.loop-l-test.true c.loop-l.invariant.2 (never _)

pub loop-l-preserved : goal.loop-l-preserved
loop-l-preserved c =
    let v = sym c.unwrap-v.ensures ∙ c.level_at.ensures in
    let t = c.loop-l-test.true in
    let i = c.loop-l.invariant in (
      (level-places _ _ _ v).within,
      rest-there _ _ _ _ _ v t i.1,
      level-passed _ _ _ _ _ _ _ _ _ _ v c.in_default.ensures t i.2 refl,
      λ h. leads_next _ (powers _) _ _ _ _ _ _ _ _ c.requires.0 h v c.in_default.ensures refl,
    )

pub returns : goal.returns
returns c = search all-passed
