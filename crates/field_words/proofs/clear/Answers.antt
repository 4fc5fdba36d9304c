-- `clear` meets its contract: each half is 0.
use mathlib.Core.Path.{sym, ◌∙◌}
use Rattle.theory_laws.proofs.Table.{tab-zero}
use Rattle.field_words.proofs.clear.Goals as goal

pub returns : goal.returns
returns c = c.fill.ensures.after (λ y e. e) ∙ sym (tab-zero _)
