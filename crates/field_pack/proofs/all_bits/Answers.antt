-- `field_pack::all_bits` meets its contract: what is left of the bytes gives the answer.
use native.Mathlib.Omega.{arith}
use borrow.Author.Rules.{rules}
use Rattle.field_pack.proofs.Groups.{bits-step, bits_stop, bits_end}
use Rattle.field_pack.proofs.all_bits.Goals as goal

pub returns-then-bytes-i-gt1 : goal.returns-then-bytes-i-gt1
returns-then-bytes-i-gt1 c =
    bits_stop c.args.bytes.now c.loop-i.i _ (omega arith) (omega arith) c.loop-i.invariant

pub loop-i-preserved : goal.loop-i-preserved
loop-i-preserved c =
    bits-step c.args.bytes.now c.loop-i.i _ (omega arith) (omega arith) c.loop-i.invariant

pub returns : goal.returns
returns c = search (bits_end, rules)
