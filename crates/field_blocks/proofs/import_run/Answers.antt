-- `field_blocks::import_run` meets its contract: what the questions leave known suffices.
use mathlib.Core.Path.{refl}
use Rattle.field_blocks.proofs.Runs.{run-sizes}
use Rattle.field_blocks.proofs.import_run.Goals as goal

pub import_words-requires : goal.import_words-requires
import_words-requires c =
    (run-sizes _ _ _ c.in_ok-run_questions.ensures refl).1
