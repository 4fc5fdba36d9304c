use Rattle.code_level.proofs.Domains.{one-digit, two_digits, one-digit-long, two-digits-long}
use native.Mathlib.Omega.{arith}
use lib.ListN.{length-set}
use Rattle.code_level.proofs.put_decimal.Goals as goal

pub bounds-out-from : goal.bounds-out-from
bounds-out-from c =
    omega (arith, one-digit-long c.args.x (omega arith))

pub overflow_add-result : goal.overflow_add-result
overflow_add-result c =
    omega (arith, one-digit-long c.args.x (omega arith))

pub returns-then-x-lt10 : goal.returns-then-x-lt10
returns-then-x-lt10 c = search one-digit

pub bounds-out-from-2 : goal.bounds-out-from-2
bounds-out-from-2 c =
    omega (arith, two-digits-long c.args.x (omega arith) (omega arith))

pub overflow_add-out : goal.overflow_add-out
overflow_add-out c =
    omega (arith, two-digits-long c.args.x (omega arith) (omega arith))

pub bounds-out-from-3 : goal.bounds-out-from-3
bounds-out-from-3 c =
    simp length-set (omega (arith, two-digits-long c.args.x (omega arith) (omega arith)))

pub overflow_add-result-2 : goal.overflow_add-result-2
overflow_add-result-2 c =
    omega (arith, two-digits-long c.args.x (omega arith) (omega arith))

pub returns : goal.returns
returns c = search two_digits
