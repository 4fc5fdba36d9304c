-- `ring_partials::sums::gather` meets its contract: two halves are a word.
use mathlib.Core.Path.{ap, ◌∙◌}
use Prim.Native.Nat.{◌*◌, ◌^◌}
use native.Mathlib.Omega.{arith}
use Rattle.theory_laws.specs.Xor.{◌⊕◌, bit, sel}
use Rattle.theory_field.specs.Words.{words}
use Rattle.field_gf128.specs.Word.{word}
use Rattle.ring_partials.specs.helpers.Buckets.{gathered}
use Rattle.ring_partials.proofs.Buckets.{halves-more}
use Rattle.ring_partials.proofs.sums.gather.Goals as goal

pub returns : goal.returns
unfolding word
returns c b =
    let a = c.args in c.gather_half-2.ensures b ∙ ap (λ x. x ⊕ sel (bit b (a.w.hi * 2 ^ (4 * 16))) (word a.e)) (c.gather_half.ensures b)
    ∙ halves-more a.w.hi a.w.lo (word a.e) (gathered (words a.buckets.now) b) b (omega arith)
