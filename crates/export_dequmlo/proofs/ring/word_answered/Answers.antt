-- `ring::word_answered` meets its contract.
use mathlib.Core.Path.{refl}
use Rattle.field_gf128.specs.Word.{word}
use Rattle.export_dequmlo.proofs.ring.word_answered.Goals as goal

pub returns-in-Err-clause-refused : goal.returns-in-Err-clause-refused
unfolding word
returns-in-Err-clause-refused c = rw c.in-Err.is refl
