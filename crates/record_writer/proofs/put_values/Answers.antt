-- `record_writer::put_values` meets its contract.
use Prim.Native.Nat.{◌*◌}
use mathlib.Core.Path.{ap}
use native.Mathlib.Omega.{arith}
use Rattle.record_writer.proofs.Runs.{values_put}
use borrow.Author.Rules.{rules}
use Rattle.record_writer.proofs.put_values.Goals as goal

pub overflow_mul-start : goal.overflow_mul-start
overflow_mul-start c =
    omega (arith, c.requires.values-there, ap (λ i. c.args.width * i) c.number.ensures)

pub overflow_add-start : goal.overflow_add-start
overflow_add-start c =
    omega (arith, c.requires.values-there, ap (λ i. c.args.width * i) c.number.ensures)

pub put_words-requires : goal.put_words-requires
put_words-requires c =
    (omega (arith, c.requires.values-there, ap (λ i. c.args.width * i) c.number.ensures), search rules)

pub returns : goal.returns
returns c =
    values_put _ _ _ _ _ _ _ _ _ _ _ c.number.ensures c.requires.values-there c.put_number-at.ensures c.put_words.ensures
