-- `field_runs::pass_run` meets its contract. The loop's invariant: the run's first j pairs are done.
use mathlib.Core.Path.{◌≡◌, refl, ap, ◌∙◌}
use Prim.Native.Nat.{◌+◌}
use native.Mathlib.Omega.{arith}
use Rattle.theory_field.specs.Words.{words}
use Rattle.field_gf128.specs.Word.{word}
use Rattle.theory_multilinear.proofs.PassLoop.{turn}
use Rattle.field_runs.specs.helpers.Steps.{steps, pass_steps}
use Rattle.field_runs.proofs.Pairs.{steps-more}
use Rattle.field_runs.proofs.pass_run.Goals as goal

pub loop-j-init : goal.loop-j-init
unfolding steps
loop-j-init g c = refl

pub add_to_pair-requires : goal.add_to_pair-requires
add_to_pair-requires g c =
    omega arith

pub loop-j-preserved : goal.loop-j-preserved
loop-j-preserved g c =
    let a = c.args in
    steps-more c.loop-j.j _ (words a.s.now) (words c.add_to_pair.new.s)
    (c.add_to_pair.ensures ∙ ap (turn (a.q + a.q + c.loop-j.j) (a.q + a.q + a.half + c.loop-j.j) (word a.by.factor)) c.loop-j.invariant)

pub returns : goal.returns
returns g c =
    let a = c.args in let all : c.loop-j.j ≡ a.half = omega arith in
    c.loop-j.invariant ∙ ap (λ n. pass_steps a.q a.half (word a.by.factor) n (words a.s.now)) all
