-- Comparing as a contract says it: of the slices that a function is lent, at its entry and at its exit. Rests on comparing.
use Rattle.std.specs.Prelude.{ℕ, List}
use Rattle.theory_record.specs.declared.Trees.{Trees}
use Rattle.theory_record.specs.Lent.{scheme_of}
pub use Rattle.theory_record.specs.Lent.{Slice, MutSlice}
use Rattle.theory_compare.specs.Compare.{Comparison, compared, first_message, second_message}

-- lent: a base domain; how the trees are made, n and k, a position, challenges and roots, two records, and two buffers
module _ (base : Slice) (how : Trees) (n k position : ℕ) (challenges roots first second : Slice) (message message' : MutSlice) where
  -- the number, and the lengths of the two messages
  abbrev pub compared_lent : Comparison
  compared_lent =
      compared (scheme_of how base n k) position challenges.entry.now roots.entry.now first.entry.now second.entry.now
      message.entry.now message'.entry.now

  -- what the two buffers hold afterwards
  abbrev pub first_left : List ℕ
  first_left =
      first_message (scheme_of how base n k) position challenges.entry.now roots.entry.now first.entry.now second.entry.now
      message.entry.now message'.entry.now

  abbrev pub second_left : List ℕ
  second_left =
      second_message (scheme_of how base n k) position challenges.entry.now roots.entry.now first.entry.now second.entry.now
      message.entry.now message'.entry.now
