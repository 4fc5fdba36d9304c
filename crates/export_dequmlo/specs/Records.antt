-- What the exported functions on records answer and leave, of the slices that they are lent: what the entry does under the set of widths that a number
-- names, and the key where trees are hashed; 4, and every buffer as it was, where it names none.
use Rattle.std.specs.Prelude.{ℕ, List}
use Rattle.theory_record.specs.Lent.{Slice, MutSlice, scheme_of}
use Rattle.theory_record.specs.Widths.{widths_of}
use Rattle.theory_record.specs.Query.{Answer, refused, check_query}
use Rattle.theory_record.specs.Tail.{check_tail}
use Rattle.theory_record.specs.Build.{build_query_number, build_query, build_tail_number, build_tail}
use Rattle.theory_compare.specs.Compare.{Comparison}
use Rattle.theory_compare.specs.Lent.{compared_lent, first_left, second_left}
use Rattle.export_dequmlo.specs.declared.keys.Key.{Key}
use Rattle.export_dequmlo.specs.Keys.{with_trees}
use Rattle.export_dequmlo.specs.Sets.{with_set}

-- ---- building a query record: the number, and the record's buffer afterwards

module _ (out : MutSlice) (levels trees : Slice) (widths n k position : ℕ) where
  abbrev pub query_number : ℕ
  query_number = with_set widths (λ set. build_query_number (widths_of set) n k levels.entry.now trees.entry.now position out.entry.now) 4

  abbrev pub query_left : List ℕ
  query_left =
      with_set widths (λ set. build_query (widths_of set) n k levels.entry.now trees.entry.now position out.entry.now) out.entry.now

-- ---- checking one

abbrev pub query_answer : Key → Slice → ℕ → ℕ → ℕ → ℕ → Slice → Slice → Slice → Answer
query_answer key base widths n k position challenges roots bytes =
    with_trees key widths (λ how. check_query (scheme_of how base n k) position challenges.entry.now roots.entry.now bytes.entry.now) (refused 4)

-- ---- building a tail record

module _ (out : MutSlice) (level tree : Slice) (widths n k : ℕ) where
  abbrev pub tail_number : ℕ
  tail_number = with_set widths (λ set. build_tail_number (widths_of set) n k level.entry.now tree.entry.now out.entry.now) 4

  abbrev pub tail_left : List ℕ
  tail_left = with_set widths (λ set. build_tail (widths_of set) n k level.entry.now tree.entry.now out.entry.now) out.entry.now

-- ---- checking one, against a claim

abbrev pub tail_answer : Key → Slice → ℕ → ℕ → ℕ → Slice → ℕ → Slice → ℕ
tail_answer key base widths n k root claim bytes =
    with_trees key widths (λ how. check_tail (scheme_of how base n k) root.entry.now claim bytes.entry.now) 4

-- ---- comparing two query records: the answer, and the two buffers afterwards

module _ (key : Key) (base : Slice) (widths n k position : ℕ) (challenges roots first second : Slice) (message message' : MutSlice) where
  abbrev pub compared_answer : Comparison
  compared_answer =
      with_trees key widths (λ how. compared_lent base how n k position challenges roots first second message message')
      (record { number = 4; first = 0; second = 0 })

  abbrev pub first_after : List ℕ
  first_after = with_trees key widths (λ how. first_left base how n k position challenges roots first second message message') message.entry.now

  abbrev pub second_after : List ℕ
  second_after = with_trees key widths (λ how. second_left base how n k position challenges roots first second message message') message'.entry.now
