-- `code_codeword::coordinates::are_rising` meets its contract: what is left of the list gives the answer.
use mathlib.Core.Path.{◌≡◌}
use lib.ListN.{drop}
use Rattle.theory_code.specs.Questions.{rising}
use Rattle.code_codeword.proofs.coordinates.are_rising.Given as goal

abbrev pub invariant-loop-x : goal.invariant-loop-x
invariant-loop-x l = rising l.least l.bound (drop l.x-index l.list) ≡ rising 0 l.bound l.list
