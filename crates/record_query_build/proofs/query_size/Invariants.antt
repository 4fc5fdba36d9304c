-- `record_query_build::query_size` meets its contract.
use Prim.Native.Nat.{◌+◌}
use mathlib.Core.Path.{◌≡◌}
use Rattle.theory_record.specs.Widths.{widths_of, total}
use Rattle.theory_record.specs.Sizes.{level_size}
use Rattle.record_query_build.proofs.query_size.Given as goal

abbrev pub invariant-loop-l : goal.invariant-loop-l
invariant-loop-l l = l.size ≡ 4 + total l.l (level_size (widths_of l.set) l.n l.k)
