-- `field_blocks::export_run` meets its contract: what the questions leave known suffices.
use mathlib.Core.Path.{refl}
use Rattle.field_blocks.proofs.Runs.{run-sizes}
use Rattle.field_blocks.proofs.export_run.Goals as goal

pub export_words-requires : goal.export_words-requires
export_words-requires c =
    run-sizes _ _ _ c.in_ok-run_questions.ensures refl
