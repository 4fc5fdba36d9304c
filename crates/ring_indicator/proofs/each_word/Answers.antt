-- `ring_indicator::each_word` meets its contract: the words so far are what f makes of what stood there.
use mathlib.Core.Path.{refl}
use native.Mathlib.Omega.{arith}
use borrow.Author.Rules.{rules}
use Prim.Native.Nat.{◌/◌}
use lib.ListN.{length}
use Rattle.theory_laws.proofs.Updates.{updated, updated_end}
use Rattle.theory_field.specs.Words.{words}
use Rattle.theory_field.proofs.Words.{length-words}
use Rattle.field_gf128.specs.Word.{word}
use Rattle.ring_indicator.proofs.Materialized.{each_turn}
use Rattle.ring_indicator.proofs.each_word.Goals as goal

pub loop-v-init : goal.loop-v-init
unfolding updated
loop-v-init g c = (refl, λ h k. refl)

pub loop-v-preserved : goal.loop-v-preserved
loop-v-preserved g c =
    let l = c.loop-v in let a = c.args in (
      search rules,
      λ h k.
          each_turn h l.v (word c.get.result) (word c.f.result) (words a.out.now) (words l.out) (words c.put.new.s) (l.invariant.1 h k) c.get.ensures
          (k c.get.result c.f.result c.f.ensures) c.put.ensures,
    )

pub returns : goal.returns
returns g c h k =
    let a = c.args in
    updated_end (λ i. h) c.loop-v.v (length a.out.now / 2) (words a.out.now) (words c.loop-v.out) (omega (arith, length-words a.out.now)) (omega arith) (c.loop-v.invariant.1 h k)
