-- `export_tail_entries::questions` meets its contract.
use mathlib.Core.Path.{refl, ap₂, ◌∙◌}
use Prim.Native.Nat.{ℕ}
use native.Mathlib.Omega.{arith}
use lib.ListN.{length}
use Rattle.theory_laws.proofs.Questions.{asks, yes_le}
use Rattle.export_tail_entries.specs.Tail.{size_number, tail_number}
use Rattle.export_tail_entries.proofs.questions.Goals as goal

pub returns-then-input-lt2 : goal.returns-then-input-lt2
unfolding tail_number
returns-then-input-lt2 c = search asks

pub returns : goal.returns
unfolding tail_number size_number
returns c =
    let s = c.args.input.now in c.size_questions.ensures
    ∙ ap₂ (λ (n : ℕ) (k : ℕ). size_number n k (length s)) c.from.ensures c.from-2.ensures
    ∙ yes_le _ _ _ 2 (length s) (omega arith) refl
