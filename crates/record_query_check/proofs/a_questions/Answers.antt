-- `record_query_check::a_questions` meets its contract.
use Rattle.theory_record.proofs.Widths.{powers}
use Rattle.record_query_check.specs.helpers.Level.{WideGroup}
use Rattle.record_query_check.proofs.Groups.{opened-wide, a_stops, no_a, no_b, both-held}
use native.Mathlib.Omega.{arith}
use mathlib.Core.Path.{refl, ◌∙◌}
use Rattle.theory_laws.proofs.Refusals.{never}
use Rattle.record_query_check.proofs.a_questions.Goals as goal
use Rattle.record_query_check.proofs.a_questions.Goals.{After-level_width-w}

pub opening_again-requires : goal.opening_again-requires
opening_again-requires c =
    let p = c.requires in
    (p.readable, p.level_low, rw c.first_of_pair-first.ensures p.known)

pub returns-in-Err : goal.returns-in-Err
returns-in-Err c = a_stops _ _ _ _ _ _ _ _ _ _ c.first_of_pair-first.ensures (c.of_a.ensures ∙ c.in-Err.ensures 16) (never _)

-- the group that was opened is as wide as the level's groups
wide : (c : After-level_width-w)
    → let a = c.args in WideGroup a.s.now a.at.group_at c.level_width-w.result
wide c =
    opened-wide (powers _) _ _ _ _ _ c.requires.readable (c.in_default.ensures 16) refl c.level_width-w.ensures (omega arith)

pub holds-requires : goal.holds-requires
holds-requires c = wide c

pub returns-then-not-holds : goal.returns-then-not-holds
returns-then-not-holds c = no_a _ _ _ _ _ _ _ _ _ _ c.first_of_pair-first.ensures (c.in_default.ensures 16) refl _ c.level_width-w.ensures _ c.holds.ensures c.if-not-holds.true

pub holds-requires-2 : goal.holds-requires-2
holds-requires-2 c =
    wide (goal.at.holds-requires-2 c).After-level_width-w

pub returns-then-not-holds-2 : goal.returns-then-not-holds-2
returns-then-not-holds-2 c =
    no_b _ _ _ _ _ _ _ _ _ _ c.first_of_pair-first.ensures (c.in_default.ensures 16) refl _ c.level_width-w.ensures _ c.holds.ensures
    c.if-not-holds.false _ c.second_of_pair-second.ensures _ c.holds-2.ensures c.if-not-holds-2.true

pub returns : goal.returns
returns c =
    both-held _ _ _ _ _ _ _ _ _ _ c.first_of_pair-first.ensures (c.in_default.ensures 16) refl _ c.level_width-w.ensures _ c.holds.ensures
    c.if-not-holds.false _ c.second_of_pair-second.ensures _ c.holds-2.ensures c.if-not-holds-2.false
