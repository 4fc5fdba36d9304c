-- `export_tail_entries::blank` meets its contract.
use mathlib.Core.Path.{refl}
use Rattle.export_tail_entries.specs.Tail.{zeros}
use Rattle.export_tail_entries.proofs.blank.Goals as goal

pub returns : goal.returns
unfolding zeros
returns c = refl
