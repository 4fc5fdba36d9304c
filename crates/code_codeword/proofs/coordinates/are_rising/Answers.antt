-- `code_codeword::coordinates::are_rising` meets its contract: what is left of the list gives the answer.
use Rattle.code_codeword.proofs.Lists.{rising-turn, rising-low, rising-high, rising_end}
use Rattle.code_codeword.proofs.coordinates.are_rising.Goals as goal
use Rattle.code_codeword.proofs.coordinates.are_rising.Goals.{then-x-least-via-then-x-least, then-x-least-via-else-x-least+then-x-bound}

pub returns-then-x-least : goal.returns-then-x-least
returns-then-x-least c =
    elim c.then-x-least.branch [
      | then-x-least-via-then-x-least w ↦ rising-low _ _ _ _ _ c.loop-x.invariant c.loop-x-test.true w.if-x-least.true
      | then-x-least-via-else-x-least+then-x-bound w ↦ rising-high _ _ _ _ _ c.loop-x.invariant c.loop-x-test.true w.if-x-least.false w.if-x-bound.true
    ]

pub loop-x-preserved : goal.loop-x-preserved
loop-x-preserved c = rising-turn _ _ _ _ _ c.loop-x.invariant c.loop-x-test.true c.if-x-least.false c.if-x-bound.false

pub returns : goal.returns
returns c = rising_end _ _ _ _ _ c.loop-x.invariant c.loop-x-test.false
