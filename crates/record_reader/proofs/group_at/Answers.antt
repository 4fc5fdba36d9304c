-- `record_reader::group_at` meets its contract: a run of values, then a run of digests.
use mathlib.Core.Path.{◌∙◌}
use Rattle.record_reader.proofs.Runs.{run_found, no_values, no_path, group_there}
use borrow.Author.Rules.{rules}
use Rattle.record_reader.proofs.group_at.Goals as goal

pub returns-in_err-v : goal.returns-in_err-v
returns-in_err-v c = c.from_residual.ensures ∙ no_values _ _ c.in_err-v.ensures

pub run_at-requires-2 : goal.run_at-requires-2
run_at-requires-2 c = ((run_found _ _ _ _ c.in_ok-v.ensures).within, search rules)

pub returns-in_err-p : goal.returns-in_err-p
returns-in_err-p c = c.from_residual-in_err-p.ensures ∙ no_path _ _ _ c.in_ok-v.ensures c.in_err-p.ensures

pub returns : goal.returns
returns c = group_there _ _ _ c.in_ok-v.ensures _ c.in_ok-p.ensures
