-- `put_words` meets its contract. The loop's invariant: storing the words that are left gives the final buffer.
use Rattle.field_bytes.proofs.Puts.{words_begin, words_step, words_put}
use Rattle.theory_field.specs.Words.{words}
use Rattle.theory_field.proofs.Words.{words-there}
use native.Mathlib.Omega.{arith}
use borrow.Author.Rules.{rules}
use Rattle.field_bytes.proofs.put_words.Goals as goal

pub loop-i-init : goal.loop-i-init
loop-i-init c = (search rules, words_begin _ _ _ _ _)

pub loop-i-preserved : goal.loop-i-preserved
loop-i-preserved c =
    let a = c.args in let i = c.loop-i.i in (
      omega arith,
      words_step c.loop-i.out c.loop-i.at (words a.values.now) a.start a.count i _ _ _ _
          c.loop-i.invariant.1 c.put_word-at.ensures c.get-w.ensures c.loop-i-test.true (words-there _ _ c.requires.0),
    )

pub returns : goal.returns
returns c =
    let a = c.args in let held = c.loop-i.invariant in words_put (words a.values.now) a.start a.count c.loop-i.i held.1 c.loop-i-test.false (omega arith) held.0
    (words-there _ _ c.requires.0)
