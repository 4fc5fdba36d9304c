-- `code_level::levels_length` meets its contract.
use Rattle.code_level.proofs.Totals.{levels_fit, levels_are}
use borrow.Author.Rules.{rules}
use Rattle.code_level.proofs.levels_length.Goals as goal

pub overflow_mul-result : goal.overflow_mul-result
overflow_mul-result c = let h = levels_fit _ _ c.requires in search rules

pub overflow_sub-result : goal.overflow_sub-result
overflow_sub-result c = let h = levels_fit _ _ c.requires in search rules

pub returns : goal.returns
returns c = search levels_are
