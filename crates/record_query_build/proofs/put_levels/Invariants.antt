-- `record_query_build::put_levels` meets its contract: what is left to store from level l on gives the record.
use Rattle.record_query_build.proofs.Puts.{levels_left}
use Prim.Native.Nat.{◌+◌}
use mathlib.Core.Path.{◌≡◌}
use lib.ListN.{length}
use Rattle.theory_field.specs.Words.{words}
use Rattle.theory_record.specs.Widths.{widths_of, total}
use Rattle.theory_record.specs.Sizes.{level_size}
use Rattle.theory_record.specs.Build.{query_bytes}
use Rattle.tree_place.specs.Place.{index}
use Rattle.record_query_build.specs.helpers.Levels.{lent_level}
use Rattle.record_query_build.proofs.put_levels.Given as goal

abbrev pub invariant-loop-l : goal.invariant-loop-l
invariant-loop-l l =
    (length l.out ≡ length l.initial.out) × (l.x ≡ lent_level (widths_of l.set) l.n l.k l.l)
    × (l.at ≡ 4 + total l.l (level_size (widths_of l.set) l.n l.k))
    × (levels_left (widths_of l.set) l.out l.at l.n l.k (words l.levels) l.trees (index l.position) l.l
    ≡ query_bytes (widths_of l.set) l.n l.k (words l.levels) l.trees (index l.position))
