-- `record_reader::level_at` meets its contract.
use mathlib.Core.Path.{◌∙◌}
use Rattle.record_reader.proofs.Runs.{run_found, no_words, no_a, no_c, no_a_path, no_c_path, level_there}
use borrow.Author.Rules.{rules}
use Rattle.record_reader.proofs.level_at.Goals as goal

pub returns-then-s-at-lt48 : goal.returns-then-s-at-lt48
returns-then-s-at-lt48 c = no_words _ _ c.if-s-at-lt48.true

pub returns-in_err-a : goal.returns-in_err-a
returns-in_err-a c = c.from_residual.ensures ∙ no_a _ _ c.requires c.if-s-at-lt48.false c.in_err-a.ensures

pub run_at-requires-2 : goal.run_at-requires-2
run_at-requires-2 c = ((run_found _ _ _ _ c.in_ok-a.ensures).within, search rules)

pub returns-in_err-c : goal.returns-in_err-c
returns-in_err-c c = c.from_residual-in_err-c.ensures ∙ no_c _ _ c.requires c.if-s-at-lt48.false _ c.in_ok-a.ensures c.in_err-c.ensures

pub run_at-requires-3 : goal.run_at-requires-3
run_at-requires-3 c = ((run_found _ _ _ _ c.in_ok-c.ensures).within, search rules)

pub returns-in_err-p : goal.returns-in_err-p
returns-in_err-p c =
    c.from_residual-in_err-p.ensures ∙ no_a_path _ _ c.requires c.if-s-at-lt48.false _ c.in_ok-a.ensures _ c.in_ok-c.ensures c.in_err-p.ensures

pub run_at-requires-4 : goal.run_at-requires-4
run_at-requires-4 c = ((run_found _ _ _ _ c.in_ok-p.ensures).within, search rules)

pub returns-in_err-q : goal.returns-in_err-q
returns-in_err-q c =
    c.from_residual-in_err-q.ensures
    ∙ no_c_path _ _ c.requires c.if-s-at-lt48.false _ c.in_ok-a.ensures _ c.in_ok-c.ensures _ c.in_ok-p.ensures c.in_err-q.ensures

pub returns : goal.returns
returns c =
    level_there _ _ c.requires c.if-s-at-lt48.false _ c.in_ok-a.ensures _ c.in_ok-c.ensures _ c.in_ok-p.ensures _ c.in_ok-q.ensures
