-- `words_at` meets its contract.
use mathlib.Core.Path.{refl, sym, ◌∙◌}
use native.Mathlib.Omega.{arith}
use lib.ListN.{length-set}
use Rattle.theory_laws.specs.Lists.{part}
use Rattle.theory_laws.proofs.Updates.{fill_step}
use Rattle.theory_blake3.specs.Chunk.{word}
use Rattle.theory_blake3.proofs.Words.{word_of_part}
use Rattle.hash_node.proofs.Laws.{words-all}
use Rattle.hash_node.proofs.words_at.Goals as goal

pub loop-i-init : goal.loop-i-init
loop-i-init c = (refl, λ k h. absurd (omega arith))

pub loop-i-preserved : goal.loop-i-preserved
loop-i-preserved c =
    let a = c.args in (
      simp length-set c.loop-i.invariant.0,
      fill_step (word (part 64 a.from a.s.now)) c.loop-i.i c.loop-i.m _ (omega arith)
          (c.word_at.ensures ∙ sym (word_of_part a.s.now a.from c.loop-i.i (omega arith))) c.loop-i.invariant.1,
    )

pub returns : goal.returns
returns c = words-all c.loop-i.m _ c.loop-i.invariant.0 (λ k h. c.loop-i.invariant.1 k (omega arith))
