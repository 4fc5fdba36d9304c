-- What a part of a level's tree leaves, and the number of the call, of what a contract names as lent. Rests on the levels' trees.
use Rattle.std.specs.Prelude.{ℕ, ◌*◌, List, length}
use Rattle.theory_laws.specs.Lists.{part, flat}
use Rattle.theory_field.specs.Words.{words}
use Rattle.theory_record.specs.declared.Trees.{Trees}
use Rattle.theory_record.specs.Widths.{widths_of}
use Rattle.theory_record.specs.Trees.{tree_for}
use Rattle.theory_record.specs.Lent.{Slice, MutSlice, scheme_of}
use Rattle.code_level_parts.specs.Numbers.{level_leaves_number}

-- the part of level l's tree, as long as the buffer, that begins with the leaf of group `first`
abbrev pub level_leaves_of : Trees → ℕ → ℕ → ℕ → Slice → ℕ → Slice → MutSlice → List ℕ
level_leaves_of how n k l base first values out =
    part (length out.entry.now) (32 * first) (flat (tree_for (scheme_of how base n k) l (words values.entry.now)))

abbrev pub level_leaves_lent : Trees → ℕ → ℕ → ℕ → Slice → ℕ → Slice → MutSlice → ℕ
level_leaves_lent how n k l base first values out =
    level_leaves_number (widths_of how.set) n k l (length base.entry.now) first (length values.entry.now) (length out.entry.now)
