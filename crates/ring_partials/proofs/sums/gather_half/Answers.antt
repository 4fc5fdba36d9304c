-- `ring_partials::sums::gather_half` meets its contract: the nibbles so far came in.
use mathlib.Core.Path.{◌≡◌, sym, ap, ◌∙◌}
use native.Mathlib.Omega.{arith}
use Rattle.theory_laws.specs.Xor.{◌⊕◌}
use Rattle.theory_laws.specs.Sum.{sum}
use Rattle.theory_laws.proofs.Xor.{⊕-zero}
use Rattle.theory_field.specs.Words.{words}
use Rattle.theory_field.proofs.Words.{length-words}
use Rattle.field_gf128.specs.Word.{word}
use Rattle.ring_partials.specs.helpers.Buckets.{gathered}
use Rattle.ring_partials.proofs.Buckets.{nibble_more, half_nibbles}
use Rattle.ring_partials.proofs.sums.gather_half.Goals as goal

pub loop-i-init : goal.loop-i-init
unfolding sum
loop-i-init c b = sym (⊕-zero _)

pub loop-i-preserved : goal.loop-i-preserved
loop-i-preserved c b =
    let l = c.loop-i in let a = c.args in
    nibble_more a.half a.from (word a.e) l.i c.nibble.result (word c.add-sum.result)
    (gathered (words a.buckets.now) b) b
    (words l.buckets) (words c.put.new.s) c.put.ensures
    (c.add-sum.ensures ∙ ap (λ x. x ⊕ word a.e) c.get.ensures) (omega (arith, length-words l.buckets))
    c.nibble.ensures (l.invariant b)

pub returns : goal.returns
returns c b =
    let a = c.args in let z : c.loop-i.i ≡ 16 = omega arith in
    (rw z at (c.loop-i.invariant b)) ∙ ap (λ x. gathered (words a.buckets.now) b ⊕ x) (half_nibbles a.half a.from (word a.e) b (omega arith))
