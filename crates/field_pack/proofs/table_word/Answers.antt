-- `field_pack::table_word` meets its contract: what the bits of the place choose is phi of what the word stands for.
use mathlib.Core.Path.{◌∙◌}
use Prim.Native.Nat.{◌+◌, ◌*◌, ◌/◌}
use native.Mathlib.Omega.{arith}
use Prim.Native.Nat.{◌<◌, ◌^◌}
use mathlib.Core.Path.{◌≡◌}
use lib.Bits.{bit_and}
use lib.ListN.{length, get_or}
use Rattle.field_gf128.specs.Word.{word}
use Rattle.theory_laws.specs.Xor.{bit, sel}
use Rattle.field_pack.specs.Phi.{coefficients}
use borrow.Author.Rules.{rules}
use Rattle.field_pack.proofs.Numbers.{chosen-at}
use Rattle.field_pack.proofs.Windows.{entry-phi}
use Rattle.field_pack.proofs.table_word.Goals as goal

pub returns : goal.returns
returns c =
    let k = c.args.k in let cs = c.args.c.now in
    c.sum_of.ensures (λ i. sel (bit i k) (coefficients cs (4 * (k / 16) + i)))
    (λ i w h p.
    let place : 4 * (k / 16) + i < length cs = omega arith in
    let e : word w ≡ sel (bit_and (k / 2 ^ i) 1) (word (get_or cs (4 * (k / 16) + i) (record { lo = 0; hi = 0 }))) = search rules in
    e ∙ chosen-at cs k i (4 * (k / 16) + i) _ place)
    ∙ entry-phi (coefficients cs) k c.requires
