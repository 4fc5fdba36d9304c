-- `field_pack::pack_half` meets its contract: the bits so far are those of the bytes so far.
use Prim.Native.Nat.{◌+◌}
use mathlib.Core.Path.{refl}
use native.Mathlib.Omega.{arith}
use Rattle.theory_laws.specs.Sum.{sum}
use Rattle.theory_laws.specs.Table.{at}
use Rattle.field_pack.proofs.Groups.{half-more, is-bit}
use Rattle.theory_laws.proofs.Windows.{sum-all}
use Rattle.field_pack.proofs.pack_half.Goals as goal

pub loop-b-init : goal.loop-b-init
unfolding sum
loop-b-init c = refl

pub loop-b-preserved : goal.loop-b-preserved
loop-b-preserved c =
    let bit = is-bit c.args.bytes.now c.requires.bytes_value (c.args.from + c.loop-b.b) in
    half-more (λ j. at c.args.bytes.now (c.args.from + j)) c.loop-b.b c.loop-b.half c.from.result (omega arith) c.from.ensures (omega arith) c.loop-b.invariant

pub returns : goal.returns
returns c = sum-all _ _ _ _ (omega arith) (omega arith) c.loop-b.invariant
