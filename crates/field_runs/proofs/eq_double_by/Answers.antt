-- `field_runs::eq_double_by` meets its contract. The loop's invariant: the first v entries are doubled.
use mathlib.Core.Path.{◌≡◌, subst}
use native.Mathlib.Omega.{arith}
use Rattle.theory_field.specs.Words.{words}
use Rattle.theory_field.proofs.Words.{length-words}
use Rattle.field_gf128.specs.Word.{word}
use Rattle.field_runs.proofs.Doubling.{Doubling, doubling_start, doubling_step, doubling_end}
use Rattle.field_runs.proofs.eq_double_by.Goals as goal

pub loop-v-init : goal.loop-v-init
loop-v-init g c =
    let a = c.args in doubling_start a.n (word a.by.factor) (words a.a.now)

pub double_entry-requires : goal.double_entry-requires
double_entry-requires g c =
    omega arith

pub loop-v-preserved : goal.loop-v-preserved
loop-v-preserved g c =
    let a = c.args in
    rw c.double_entry.ensures
    (doubling_step a.n (word a.by.factor) c.loop-v.v (words a.a.now) (words c.loop-v.a) (omega arith) (omega (arith, length-words c.loop-v.a)) c.loop-v.invariant)

pub returns : goal.returns
returns g c =
    let a = c.args in doubling_end a.n (word a.by.factor) (words a.a.now) (words c.loop-v.a) (omega (arith, length-words a.a.now))
    (subst (λ v. Doubling a.n (word a.by.factor) v (words a.a.now) (words c.loop-v.a)) (let z : c.loop-v.v ≡ a.n = omega arith in z) c.loop-v.invariant)
