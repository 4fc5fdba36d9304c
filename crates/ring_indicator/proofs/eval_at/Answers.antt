-- `ring_indicator::eval_at` meets its contract: what the questions leave known suffices.
use mathlib.Core.Path.{◌≡◌, refl, ◌∙◌}
use mathlib.Core.List.{List, [], ◌∷◌}
use Prim.Native.Nat.{ℕ}
use native.Mathlib.Omega.{arith}
use lib.ListN.{length}
use Rattle.field_gf128.specs.declared.Word.{Word}
use Rattle.ring_indicator.specs.Answers.{indicator_of}
use Rattle.ring_indicator.proofs.Sizes.{all-evaluated}
use Rattle.ring_indicator.proofs.eval_at.Goals as goal

-- points that are lent with no coordinates
without : (rb : List Word) (z point : List ℕ) → length z ≡ 0 → length point ≡ 0 → indicator_of rb [] [] ≡ indicator_of rb z point
without rb [] [] h k = refl
without rb [] (x ∷ xs) h k = absurd (omega arith)
without rb (x ∷ xs) point h k = absurd (omega arith)

pub returns-then-n-eq0 : goal.returns-then-n-eq0
returns-then-n-eq0 c =
    let a = c.args in let sizes = all-evaluated _ _ _ _ c.in_ok-eval_questions.ensures refl in
    let none : a.n ≡ 0 = omega (arith, c.if-n-eq0.true) in
    record { number_value = c.in_ok-eval_questions.ensures; word_value = c.empty_eval.ensures ∙ without a.rb a.z.now a.point.now (omega (arith, sizes.0)) (omega (arith, sizes.1)) }

pub tensor_eval-requires : goal.tensor_eval-requires
tensor_eval-requires c = all-evaluated _ _ _ _ c.in_ok-eval_questions.ensures refl
