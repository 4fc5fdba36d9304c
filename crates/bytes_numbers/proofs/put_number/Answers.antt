-- `put_number` meets its contract. The loop's invariant: storing the bytes that are left of the number fills the part.
use native.Mathlib.Omega.{arith}
use Rattle.theory_laws.specs.Lists.{le_bytes}
use Rattle.theory_laws.proofs.Lists.{length-le_bytes, length-lent}
use Rattle.bytes_numbers.proofs.Numbers.{left-begin, left-step, left-none}
use Rattle.bytes_numbers.proofs.Stores.{put_part}
use Rattle.bytes_numbers.proofs.put_number.Goals as goal

pub loop-b-init : goal.loop-b-init
loop-b-init c = let a = c.args in left-begin _ a.size a.x (length-lent a.size a.from a.out.now c.requires)

pub loop-b-preserved : goal.loop-b-preserved
loop-b-preserved c =
    let a = c.args in
    left-step _ _ a.size _ _ c.loop-b.invariant (omega (arith, length-lent a.size a.from a.out.now c.requires, c.loop-b-test.true))

pub returns : goal.returns
returns c =
    let a = c.args in
    put_part a.out.now a.from a.size (le_bytes a.size a.x) _ c.requires (length-le_bytes a.size a.x)
    (left-none _ _ a.size _ _ c.loop-b.invariant (omega (arith, length-lent a.size a.from a.out.now c.requires, c.loop-b-test.false)))
