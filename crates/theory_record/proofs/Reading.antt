-- Reading by offsets, as code does: what stands at a place of the lent bytes, and the loops over items, levels and groups. A loop's laws
-- are in the words of its needs: what is left to do from here gives the final answer r.
use Prim.Native.Nat.{ℕ, suc, ◌+◌, ◌-◌, ◌*◌, ◌<◌, ◌≤◌}
use mathlib.Core.Path.{◌≡◌, refl, sym, ◌∙◌, ap}
use mathlib.Core.Bool.{Bool, true, false}
use mathlib.Core.List.{List, [], ◌++◌, map}
use native.Mathlib.Omega.{arith}
use native.Mathlib.Numerals.{add-one}
use borrow.Author.Tests.{eq-eqb, ne_eqb, le-leb, lt-leb, leb-true, eqb-true, eqb-false}
use lib.Dec.{leb, eqb}
use lib.ListN.{length, get_or, take, drop, length-drop, get_or-map}
use lib.Seq.{drop-drop}
use Rattle.theory_laws.specs.Table.{at}
use Rattle.theory_laws.specs.Questions.{both, Question, first_no, on_done}
use Rattle.theory_laws.specs.Lists.{part, le_value}
use Rattle.theory_laws.proofs.Lists.{get_d_runs, both_true}
use Rattle.theory_laws.proofs.Questions.{first_no-append}
use Rattle.theory_record.specs.Format.{Form, level_form, tail_form, level_read, after_level, tail_group_of, after_tail_group, word_at}
use Rattle.theory_record.specs.Format.{run_count, run_size, run_fits, run_items, after_run, items_of, whole_items, record_whole}
use Rattle.theory_record.specs.Query.{Answer, accepted, level_number, check_levels}
use Rattle.theory_record.specs.Tail.{group_questions, groups_questions}
use Rattle.theory_record.specs.Scheme.{Scheme}

-- ---- at a place

module _ (s : List ℕ) (i : ℕ) where
  part_at : (n j : ℕ) → part n j (drop i s) ≡ part n (i + j) s
  unfolding part
  part_at n j = ap (take n) (drop-drop j i s)

  pub word-at : (j : ℕ) → word_at j (drop i s) ≡ le_value (part 16 (i + j) s)
  word-at j = ap le_value (part_at 16 j)

  pub count_at : run_count (drop i s) ≡ le_value (part 4 i s)
  unfolding run_count
  count_at = ap le_value (part_at 4 0 ∙ ap (λ (j : ℕ). part 4 j s) (let e : i + 0 ≡ i = omega arith in e))

  pub fits-at : (size : ℕ) → run_fits size (drop i s) ≡ both (leb 4 (length s - i)) (leb (4 + size * le_value (part 4 i s)) (length s - i))
  unfolding run_fits run_size
  fits-at size = rw (count_at, length-drop)

  pub after-at : (size : ℕ) → after_run size (drop i s) ≡ drop (i + (4 + size * le_value (part 4 i s))) s
  unfolding after_run run_size
  after-at size = rw count_at (drop-drop (4 + size * le_value (part 4 i s)) i s)

  pub item_at : (size j : ℕ) → j < run_count (drop i s) → get_or (run_items size (drop i s)) j [] ≡ part size (i + 4 + size * j) s
  unfolding run_items part
  item_at size j h =
      get_d_runs size (run_count (drop i s)) j (drop 4 (drop i s)) h ∙ ap (take size) (ap (drop (size * j)) (drop-drop 4 i s) ∙ drop-drop (size * j) (i + 4) s)

  pub value-at : (j : ℕ) → j < run_count (drop i s) → at (map le_value (run_items 16 (drop i s))) j ≡ le_value (part 16 (i + 4 + 16 * j) s)
  unfolding le_value
  value-at j h = get_or-map le_value (run_items 16 (drop i s)) j [] ∙ ap le_value (item_at 16 j h)

diff_zero : (m i : ℕ) → i ≤ m → eqb (m - i) 0 ≡ eqb i m
diff_zero m i h = go (eqb i m) refl
  where
    go : (b : Bool) → eqb i m ≡ b → eqb (m - i) 0 ≡ b
    go true e = let f = eqb-true i m e in eq-eqb (m - i) 0 (omega arith)
    go false e = ne_eqb (m - i) 0 (λ z. eqb-false i m e (omega arith))

-- ---- a loop that asks whether c items are all there, with nothing after them

module _ {A : Type 0} (form : Form A) (s : List ℕ) (from c l : ℕ) (r : Bool) where
  pub whole-step : (next : ℕ) → l < c → form.fits (drop from s) ≡ true → form.after (drop from s) ≡ drop next s
      → whole_items form (c - l) (drop from s) ≡ r → whole_items form (c - (l + 1)) (drop next s) ≡ r
  unfolding whole_items
  whole-step next h f g e =
      let z : c - l ≡ suc (c - (l + 1)) = omega arith in
      rw (z, f, g) at e

  pub whole_stop : l < c → form.fits (drop from s) ≡ false → whole_items form (c - l) (drop from s) ≡ r → false ≡ r
  unfolding whole_items
  whole_stop h f e =
      let z : c - l ≡ suc (c - (l + 1)) = omega arith in
      rw (z, f) at e

  pub whole_end : c ≤ l → from ≤ length s → whole_items form (c - l) (drop from s) ≡ r → eqb from (length s) ≡ r
  unfolding whole_items
  whole_end h k e =
      let z : c - l ≡ 0 = omega arith in
      sym (diff_zero (length s) from k) ∙ (rw (z, length-drop from s) at e)

pub whole_here : {A : Type 0} (form : Form A) (s : List ℕ) (from c l : ℕ) → l < c → whole_items form (c - l) (drop from s) ≡ true
    → form.fits (drop from s) ≡ true
unfolding whole_items
whole_here form s from c l h e =
    let z : c - l ≡ suc (c - (l + 1)) = omega arith in
    (both_true (form.fits (drop from s)) (whole_items form (c - (l + 1)) (form.after (drop from s))) (rw z at e)).0

module _ {A : Type 0} (form : Form A) (s : List ℕ) where
  pub whole_begin : (c : ℕ) → 4 ≤ length s → c ≡ run_count s → whole_items form (c - 0) (drop 4 s) ≡ record_whole form s
  unfolding record_whole
  whole_begin c h e =
      let z : c - 0 ≡ c = omega arith in
      rw (z, e, le-leb 4 (length s) h)

  pub whole-short : length s < 4 → false ≡ record_whole form s
  unfolding record_whole
  whole-short h = rw (lt-leb 4 (length s) h)

  -- a record that reads whole has its count
  pub whole_counts : record_whole form s ≡ true → 4 ≤ length s
  unfolding record_whole
  whole_counts e = leb-true 4 (length s) (both_true (leb 4 (length s)) (whole_items form (run_count s) (drop 4 s)) e).0

  -- and so all its items are there
  pub whole-items : (c : ℕ) → record_whole form s ≡ true → run_count s ≡ c → whole_items form (c - 0) (drop 4 s) ≡ true
  whole-items c e f = whole_begin c (whole_counts e) (sym f) ∙ e

-- ---- the loop over the levels of a query record

module _ (S : Scheme) (position : ℕ) (challenges roots s : List ℕ) where
  open S use {n}

  -- what is left of the check, from level l on, which starts at this place
  abbrev pub check_from : ℕ → ℕ → Answer
  check_from from l = check_levels S position challenges roots l (items_of level_form (n - l) (drop from s))

  module _ (from l : ℕ) (r : Answer) where
    pub check_step : (next q : ℕ) → l < n → q ≡ level_number S position challenges roots l (level_read (drop from s)) → q ≡ 0
        → after_level (drop from s) ≡ drop next s → check_from from l ≡ r → check_from next (l + 1) ≡ r
    unfolding check_levels items_of
    check_step next q h f g a e =
        let z : n - l ≡ suc (n - suc l) = omega arith in
        rw add-one (rw (z, ← f, eq-eqb q 0 g, a) at e)

    pub check_stop : (q : ℕ) → l < n → q ≡ level_number S position challenges roots l (level_read (drop from s)) → (q ≡ 0 → ⊥)
        → check_from from l ≡ r → ◌≡◌ {A = Answer} (record { number = q; level = l }) r
    unfolding check_levels items_of
    check_stop q h f g e =
        let z : n - l ≡ suc (n - suc l) = omega arith in
        rw (z, ← f, ne_eqb q 0 g) at e

    pub check_end : n ≤ l → check_from from l ≡ r → accepted ≡ r
    unfolding check_levels items_of
    check_end h e =
        let z : n - l ≡ 0 = omega arith in
        rw z at e

-- ---- the loop over the groups of a tail record

module _ (S : Scheme) (last_root s : List ℕ) (c : ℕ) (rest : List Question) where
  -- what is left of the check, from group g on, which starts at this place
  abbrev pub check_groups_from : ℕ → ℕ → ℕ
  check_groups_from from g = first_no (groups_questions S last_root g (items_of tail_form (c - g) (drop from s)) ++ rest)

  -- the questions put to group g, and those that are left after it
  abbrev here : ℕ → ℕ → List Question
  here from g = group_questions S last_root g (tail_group_of (drop from s))

  abbrev after : ℕ → ℕ → List Question
  after from g = groups_questions S last_root (suc g) (items_of tail_form (c - suc g) (after_tail_group (drop from s))) ++ rest

  groups-split : (from g : ℕ) → g < c
      → check_groups_from from g ≡ on_done (first_no (here from g)) (first_no (after from g)) (first_no (here from g))
  unfolding groups_questions items_of
  groups-split from g h =
      let z : c - g ≡ suc (c - suc g) = omega arith in
      rw z (first_no-append (here from g) (after from g) tt)

  module _ (from g r : ℕ) where
    pub groups-step : (next q : ℕ) → g < c → q ≡ first_no (group_questions S last_root g (tail_group_of (drop from s))) → q ≡ 0
        → after_tail_group (drop from s) ≡ drop next s → check_groups_from from g ≡ r → check_groups_from next (g + 1) ≡ r
    groups-step next q h f z a e = rw add-one (rw (← f, eq-eqb q 0 z, a) at (sym (groups-split from g h) ∙ e))

    pub groups_stop : (q : ℕ) → g < c → q ≡ first_no (group_questions S last_root g (tail_group_of (drop from s))) → (q ≡ 0 → ⊥) → check_groups_from from g ≡ r → q ≡ r
    groups_stop q h f z e = rw (← f, ne_eqb q 0 z) at (sym (groups-split from g h) ∙ e)

    pub groups_end : c ≤ g → check_groups_from from g ≡ r → first_no rest ≡ r
    unfolding groups_questions items_of
    groups_end h e =
        let z : c - g ≡ 0 = omega arith in
        rw z at e
