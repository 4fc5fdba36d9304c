-- `code_level::trees_size` meets its contract.
use mathlib.Core.Path.{◌≡◌}
use Rattle.theory_record.specs.Widths.{widths_of}
use Rattle.theory_record.specs.Build.{tree_start}
use Rattle.code_level.proofs.trees_size.Given as goal

abbrev pub invariant-loop-l : goal.invariant-loop-l
invariant-loop-l l = l.digests ≡ tree_start (widths_of l.set) l.n l.k l.l
