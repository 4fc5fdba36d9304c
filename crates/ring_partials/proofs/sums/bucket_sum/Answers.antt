-- `ring_partials::sums::bucket_sum` meets its contract: the sum of the buckets that the bit chooses.
use mathlib.Core.Path.{◌≡◌, ap, ◌∙◌}
use Prim.Native.Nat.{◌+◌, ◌*◌, ◌/◌, ◌%◌, ◌^◌}
use borrow.Author.Rules.{rules}
use lib.Bits.{bit_and}
use Rattle.theory_laws.specs.Xor.{bit, sel}
use Rattle.theory_laws.specs.Table.{at}
use Rattle.theory_field.specs.Words.{words}
use Rattle.field_gf128.specs.Word.{word}
use Rattle.field_pack.proofs.Windows.{bit_of_number}
use Rattle.ring_partials.specs.helpers.Buckets.{gathered}
use Rattle.ring_partials.proofs.sums.bucket_sum.Goals as goal

pub returns : goal.returns
unfolding gathered
returns c =
    let a = c.args in let bs = words a.buckets.now in
    c.sum_of.ensures (λ x. sel (bit (a.b % 4) x) (at bs (a.b / 4 * 16 + x)))
    (λ x w h p.
    let e : word w ≡ sel (bit_and (x / 2 ^ (a.b % 4)) 1) (at bs (a.b / 4 * 16 + x)) = search rules in
    e ∙ ap (λ y. sel y (at bs (a.b / 4 * 16 + x))) (bit_of_number x (a.b % 4)))
