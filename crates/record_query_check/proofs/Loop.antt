-- The loop over the levels of a query record.
use Prim.Native.Nat.{ℕ, ◌+◌, ◌-◌, ◌<◌, ◌≤◌}
use mathlib.Core.Path.{◌≡◌, ap}
use mathlib.Core.Bool.{true}
use mathlib.Core.List.{List}
use native.Mathlib.Omega.{arith}
use Rattle.std.specs.Prelude.{Some}
use lib.ListN.{length, drop}
use Rattle.record_reader.specs.helpers.Places.{level_at}
use Rattle.record_reader.specs.declared.Level.{Level}
use Rattle.record_reader.proofs.Places.{level-places, level-more}
use Rattle.theory_record.specs.Format.{level_form, level_read, whole_items, items_of, record_items}
use Rattle.theory_record.specs.Query.{Answer, accepted, level_number, check_levels}
use Rattle.theory_record.proofs.Reading.{check_from, check_step, check_stop, check_end, whole_counts, whole-items}
use Rattle.record_query_check.specs.helpers.Level.{Whole}
use Rattle.theory_record.specs.Scheme.{Scheme}

module _ (n : ℕ) (s : List ℕ) (z : Whole n s) where
  pub begin_within : 4 ≤ length s
  begin_within = whole_counts level_form s z.reads_whole

  pub begin_whole : whole_items level_form (n - 0) (drop 4 s) ≡ true
  begin_whole = whole-items level_form s n z.reads_whole z.levels_are

pub begin_check : (S : Scheme) (s : List ℕ) (position : ℕ) (challenges roots : List ℕ)
    → check_from S position challenges roots s 4 0 ≡ check_levels S position challenges roots 0 (record_items level_form S.n s)
unfolding record_items
begin_check S s position challenges roots =
    ap (λ (c : ℕ). check_levels S position challenges roots 0 (items_of level_form c (drop 4 s))) {x = S.n - 0} {y = S.n} (omega arith)

-- what follows the level read at place i is all there
module _ (n l : ℕ) (s : List ℕ) (i : ℕ) (v : Level) (ev : Some v ≡ level_at s i) (h : l < n) (w : whole_items level_form (n - l) (drop i s) ≡ true) where
  pub rest-there : whole_items level_form (n - (l + 1)) (drop v.next s) ≡ true
  rest-there = level-more s i n l true h w v ev

-- its number decides
module _ (S : Scheme) (position : ℕ) (challenges roots : List ℕ) (l : ℕ) (s : List ℕ) (i : ℕ) (v : Level) (q : ℕ) (r : Answer) (ev : Some v ≡ level_at s i)
    (eq : q ≡ level_number S position challenges roots l (level_read (drop i s))) (h : l < S.n) (e : check_from S position challenges roots s i l ≡ r) where
  pub level-refused : (q ≡ 0 → ⊥) → ◌≡◌ {A = Answer} (record { number = q; level = l }) r
  level-refused z = check_stop S position challenges roots s i l r q h eq z e

  pub level-passed : q ≡ 0 → check_from S position challenges roots s v.next (l + 1) ≡ r
  level-passed z = check_step S position challenges roots s i l r v.next q h eq z (level-places s i v ev).after e

pub all-passed : (S : Scheme) (position : ℕ) (challenges roots : List ℕ) (l : ℕ) (t : List ℕ) (r : Answer) → S.n ≤ l
    → check_levels S position challenges roots l (items_of level_form (S.n - l) t) ≡ r → accepted ≡ r
all-passed S position challenges roots l t r h e = check_end S position challenges roots t 0 l r h e
