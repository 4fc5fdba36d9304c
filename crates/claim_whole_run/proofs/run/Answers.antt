-- `claim_whole_run::run` meets its contract.
use mathlib.Core.Path.{◌≡◌, refl}
use denote.Triple.Both.{Both}
use Rattle.std.specs.Prelude.{Result, Err}
use Rattle.std.proofs.lemmas.Result.{err_from_is_err_and}
use Rattle.theory_laws.specs.Refusals.{number_of}
use Rattle.theory_laws.specs.declared.Refusal.{Refusal}
use Rattle.theory_laws.proofs.Refusals.{never}
use Rattle.claim_run_parts.proofs.Numbers.{rooms}
use Rattle.claim_whole_run.specs.Whole.{Given, Buffers, number_for, in_numbers, RunLeft}
use Rattle.claim_whole_run.specs.declared.Answers.{Answers}
use Rattle.claim_whole_run.proofs.run.Goals as goal

-- a run that is refused leaves what it was lent
refused_run : (G : Given) (B : Both Buffers Buffers) (r : Result Answers Refusal) (x e : Refusal) → r ≡ Err x → x ≡ e
    → number_of e ≡ number_for G B.entry → B.exit ≡ B.entry → RunLeft G B (in_numbers r)
refused_run G B r x e p q n same = rw (p, q) (record { number_is = n; refused = λ z. (refl, same); done = λ z. never e z })

pub returns-in_err-questions : goal.returns-in_err-questions
returns-in_err-questions c =
    let p = err_from_is_err_and c.from_residual.result c.from_residual.ensures.1 in
    refused_run _ _ _ _ _ p.1 p.2 c.in_err-questions.ensures refl

pub made-answers-requires : goal.made-answers-requires
made-answers-requires c =
    rooms _ _ _ _ _ _ _ _ _ _ _ _ _ _ _ _ _ _ _ c.in_ok-questions.ensures refl

pub returns : goal.returns
returns c = record { number_is = c.in_ok-questions.ensures; refused = λ z. absurd (z refl); done = λ z. c.made-answers.ensures }
