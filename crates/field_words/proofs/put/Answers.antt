-- `words::put` meets its contract.
use Rattle.field_gf128.specs.Word.{word}
use Rattle.theory_field.proofs.Words.{set_words}
use borrow.Author.Rules.{rules}
use Rattle.field_words.proofs.put.Goals as goal

pub returns : goal.returns
unfolding word
returns c = set_words c.args.s.now c.args.k c.args.w.lo c.args.w.hi c.requires
