-- `words::get` meets its contract.
use mathlib.Core.Path.{sym}
use borrow.Author.Rules.{rules}
use Rattle.theory_field.proofs.Words.{at_words}
use Rattle.field_gf128.specs.Word.{word}
use Rattle.field_words.proofs.get.Goals as goal

pub returns : goal.returns
unfolding word
returns c = sym (at_words c.args.s.now c.args.k)
