-- `select` meets its contract.
use Rattle.field_gf128.specs.Word.{word}
use Rattle.field_pack.proofs.Windows.{unset, set-bit}
use Rattle.field_pack.proofs.bits.select.Goals as goal

pub returns-then-bit-eq0 : goal.returns-then-bit-eq0
unfolding word
returns-then-bit-eq0 c = unset _ _ c.if-bit-eq0.true

pub returns : goal.returns
returns c = set-bit _ _ c.if-bit-eq0.false
