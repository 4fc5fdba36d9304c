-- `record_known::levels::last_beside` meets its contract.
use borrow.Author.Rules.{rules}
use native.Mathlib.Omega.{arith}
use Rattle.record_known.proofs.LevelDomains.{one-digit, two_digits}
use Rattle.record_known.proofs.levels.last_beside.Goals as goal

pub returns-then-n-lt10 : goal.returns-then-n-lt10
returns-then-n-lt10 c =
    let a = c.args in
    (search rules, search rules, one-digit a.e a.n (omega arith) (omega arith))

pub returns-then-e-lt10 : goal.returns-then-e-lt10
returns-then-e-lt10 c =
    (search rules, search rules, one-digit c.args.e 9 (omega arith) (omega arith))

pub returns : goal.returns
returns c =
    let a = c.args in
    (search rules, search rules, two_digits a.e a.n (omega arith) (omega arith))
