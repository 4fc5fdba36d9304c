-- `sizes::sized_set` meets its contract.
use Rattle.theory_laws.proofs.Questions.{yes_le}
use Rattle.export_dequmlo.specs.Sizes.{sizes_number}
use Rattle.export_dequmlo.proofs.Fixed.{unnamed, unsized}
use Rattle.export_dequmlo.proofs.sizes.sized_set.Goals as goal

pub returns-in_err-set-clause-number_value : goal.returns-in_err-set-clause-number_value
returns-in_err-set-clause-number_value c =
    unnamed c.args.widths c.args.n c.args.k _ _ c.from_residual.ensures.1 c.in_err-set.ensures

pub returns-in_err-size_questions-clause-number_value : goal.returns-in_err-size_questions-clause-number_value
returns-in_err-size_questions-clause-number_value c =
    unsized c.args.widths c.args.n c.args.k _ _ c.from_residual-in_err-size_questions.ensures.1 c.in_ok-set.ensures.0 c.in_err-size_questions.ensures

pub returns-clause-number_value : goal.returns-clause-number_value
unfolding sizes_number
returns-clause-number_value c = yes_le _ _ _ _ _ c.in_ok-set.ensures.0 c.in_ok-size_questions.ensures
