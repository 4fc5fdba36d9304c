-- `ring_indicator::tensor_step` meets its contract: the two parts make the step.
use mathlib.Core.Path.{◌≡◌, ◌∙◌}
use Prim.Native.Nat.{◌/◌}
use native.Mathlib.Omega.{arith}
use lib.ListN.{length}
use Rattle.theory_laws.specs.Table.{at}
use Rattle.theory_field.specs.Words.{words}
use Rattle.field_gf128.specs.Word.{word}
use Rattle.ring_indicator.proofs.Steps.{joined_step}
use Rattle.ring_indicator.proofs.tensor_step.Goals as goal

pub returns : goal.returns
returns c =
    let a = c.args in
    let rows : length c.powers.new.out / 2 ≡ 128 = omega arith in
    c.join_parts.ensures ∙ joined_step (word a.z) (word a.q) (words c.powers.new.out)
    (words c.partials.new.out) (at (words a.t.now))
    c.powers.ensures (rw rows at c.partials.ensures)
