-- `word_at` meets its contract: the halves, joined.
use mathlib.Core.Path.{sym, ap₂, ◌∙◌}
use Rattle.theory_field.specs.Words.{joined}
use Rattle.field_gf128.specs.Word.{word}
use Rattle.theory_field.proofs.Words.{word_by_halves}
use Rattle.field_bytes.proofs.word_at.Goals as goal

pub returns : goal.returns
unfolding word
returns c =
    let a = c.args in ap₂ joined c.number_at-2.ensures.0 c.number_at.ensures.0 ∙ sym (word_by_halves a.from a.s.now c.requires)
