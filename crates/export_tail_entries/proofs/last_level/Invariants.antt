-- `export_tail_entries::last_level` meets its contract: after l folds the level is level l.
use mathlib.Core.Path.{◌≡◌}
use Rattle.theory_laws.specs.Table.{tab, at}
use Rattle.theory_field.specs.Words.{words}
use Rattle.export_tail_entries.specs.Tail.{input_level}
use Rattle.export_tail_entries.proofs.last_level.Given as goal

abbrev pub invariant-loop-l : goal.invariant-loop-l
invariant-loop-l l = words l.current ≡ tab 256 (at (input_level l.n l.k l.input l.l))
