-- `field_runs::fold_run` meets its contract. The loop's invariant: the run's first j words are done.
use mathlib.Core.Path.{◌≡◌, refl, ap, ap₂, ◌∙◌}
use mathlib.Core.List.{List}
use Prim.Native.Nat.{ℕ, ◌+◌}
use native.Mathlib.Omega.{arith}
use lib.ListN.{set}
use Rattle.theory_field.specs.Words.{words}
use Rattle.field_gf128.specs.Word.{word}
use Rattle.theory_multilinear.specs.Fold.{line}
use Rattle.field_runs.specs.helpers.Steps.{steps, fold_steps}
use Rattle.field_runs.proofs.Pairs.{steps-more}
use Rattle.field_runs.proofs.fold_run.Goals as goal

pub loop-j-init : goal.loop-j-init
unfolding steps
loop-j-init g c = refl

pub loop-j-preserved : goal.loop-j-preserved
loop-j-preserved g c =
    let a = c.args in
    steps-more c.loop-j.j _ (words a.out.now) (words c.put.new.s)
    (c.put.ensures
    ∙ ap₂ (λ (k : List ℕ) (x : ℕ). set k (a.q + c.loop-j.j) x) c.loop-j.invariant
    (c.line_at-p.ensures ∙ ap₂ (line (word a.by.factor)) c.get-a.ensures c.get-b.ensures))

pub returns : goal.returns
returns g c =
    let a = c.args in let all : c.loop-j.j ≡ a.half = omega arith in
    c.loop-j.invariant ∙ ap (λ n. fold_steps a.q a.half (word a.by.factor) (words a.src.now) n (words a.out.now)) all
