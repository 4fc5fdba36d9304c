-- `record_query_check::c_questions` meets its contract.
use Rattle.theory_record.proofs.Widths.{powers}
use Rattle.record_query_check.proofs.Groups.{opened-wide, c_stops, no_c, c-held}
use mathlib.Core.Path.{refl, ◌∙◌}
use Rattle.theory_laws.proofs.Refusals.{never}
use native.Mathlib.Omega.{arith}
use Rattle.record_query_check.proofs.c_questions.Goals as goal

pub returns-in-Err : goal.returns-in-Err
returns-in-Err c = c_stops _ _ _ _ _ _ _ _ (c.of_c.ensures ∙ c.in-Err.ensures 22) (never _)

pub holds-requires : goal.holds-requires
holds-requires c =
    opened-wide (powers _) _ _ _ _ _ c.requires.0 (c.in_default.ensures 22) refl c.level_width-w.ensures (omega arith)

pub returns-then-not-holds : goal.returns-then-not-holds
returns-then-not-holds c = no_c _ _ _ _ _ _ _ _ (c.in_default.ensures 22) refl _ c.level_width-w.ensures _ c.holds.ensures c.if-not-holds.true

pub returns : goal.returns
returns c = c-held _ _ _ _ _ _ _ _ (c.in_default.ensures 22) refl _ c.level_width-w.ensures _ c.holds.ensures c.if-not-holds.false
