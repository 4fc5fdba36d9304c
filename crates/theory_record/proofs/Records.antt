-- The round trip, for any form of items: a record that was written reads whole and gives back its items, and a record that reads whole is
-- what writing its items gives. Rests on nothing but the two directions for one item.
use Prim.Native.Nat.{ℕ, zero, suc, ◌≤◌}
use mathlib.Core.Path.{◌≡◌, refl, sym, ◌∙◌, ap}
use mathlib.Core.Bool.{true}
use mathlib.Core.List.{List, [], ◌∷◌, ◌++◌}
use native.Mathlib.Omega.{arith}
use borrow.Author.Tests.{le-leb, leb-true, eqb-true}
use lib.Dec.{leb}
use lib.ListN.{length, take, drop, length-append, take-append-drop}
use lib.Seq.{take_at, drop_at}
use Rattle.theory_laws.specs.Lists.{part, le_bytes, le_value}
use Rattle.theory_laws.proofs.Lists.{Bytes, length-le_bytes, le_value-le_bytes, length_part, both_true}
pub use Rattle.theory_laws.specs.Lists.{All}
use Rattle.theory_record.specs.Format.{Form, run_count, items_bytes, record_bytes, items_of, whole_items, record_whole, record_items}
use Rattle.theory_record.proofs.Runs.{Few}
use Rattle.theory_laws.proofs.Bytes.{le_bytes-le_value, below-part, below-drop}
use Rattle.theory_laws.proofs.Questions.{true_both}

-- one item, both ways: Held says which items the form can hold
pub record Faithful {A : Type 0} (form : Form A) (Held : A → Type 0) : Type 0 where
  pub fits_written : (x : A) (t : List ℕ) → Held x → form.fits (form.write x ++ t) ≡ true
  pub read_written : (x : A) (t : List ℕ) → Held x → form.read (form.write x ++ t) ≡ x
  pub after_written : (x : A) (t : List ℕ) → Held x → form.after (form.write x ++ t) ≡ t
  pub written_read : (t : List ℕ) → Bytes t → form.fits t ≡ true → form.write (form.read t) ++ form.after t ≡ t
  pub held_read : (t : List ℕ) → Bytes t → form.fits t ≡ true → Held (form.read t)
  pub bytes_after : (t : List ℕ) → Bytes t → Bytes (form.after t)

pub length-items_of : {A : Type 0} (form : Form A) (c : ℕ) (t : List ℕ) → length (items_of form c t) ≡ c
unfolding items_of
length-items_of form zero t = refl
length-items_of form (suc c) t = ap suc (length-items_of form c _)

pub length-record_items : {A : Type 0} (form : Form A) (c : ℕ) (s : List ℕ) → length (record_items form c s) ≡ c
unfolding record_items
length-record_items form c s = length-items_of form c (drop 4 s)

-- what is known of a record that was written
pub record Written {A : Type 0} (form : Form A) (xs : List A) : Type 0 where
  pub reads_whole : record_whole form (record_bytes form xs) ≡ true
  pub count-is : run_count (record_bytes form xs) ≡ length xs
  pub items_are : record_items form (length xs) (record_bytes form xs) ≡ xs

module _ {A : Type 0} (form : Form A) (Held : A → Type 0) (f : Faithful form Held) where
  items-written : (xs : List A) → All Held xs → items_of form (length xs) (items_bytes form xs) ≡ xs
  unfolding items_of items_bytes
  items-written [] h = refl
  items-written (x ∷ xs) h =
      rw (f.read_written x (items_bytes form xs) h.0, f.after_written x (items_bytes form xs) h.0)
      (ap (λ (r : List A). x ∷ r) (items-written xs h.1))

  whole-written : (xs : List A) → All Held xs → whole_items form (length xs) (items_bytes form xs) ≡ true
  unfolding whole_items items_bytes
  whole-written [] h = refl
  whole-written (x ∷ xs) h =
      rw (f.fits_written x (items_bytes form xs) h.0, f.after_written x (items_bytes form xs) h.0) (whole-written xs h.1)

  pub record_written : (xs : List A) → All Held xs → Few xs → Written form xs
  unfolding record_whole record_items record_bytes run_count part
  record_written xs h few =
      let n : ℕ = length xs in
      let count : le_value (take 4 (le_bytes 4 n ++ items_bytes form xs)) ≡ n =
      ap le_value (take_at (le_bytes 4 n) (items_bytes form xs) 4 (length-le_bytes 4 n)) ∙ le_value-le_bytes 4 n few in
      let items : drop 4 (le_bytes 4 n ++ items_bytes form xs) ≡ items_bytes form xs = drop_at (le_bytes 4 n) (items_bytes form xs) 4 (length-le_bytes 4 n) in
      let long : 4 ≤ length (le_bytes 4 n ++ items_bytes form xs) = simp (length-append, length-le_bytes) (omega arith) in
      record {
        reads_whole = true_both _ _ (le-leb 4 (length (le_bytes 4 n ++ items_bytes form xs)) long) (rw (count, items) (whole-written xs h));
        count-is = count;
        items_are = rw items (items-written xs h);
      }

  items-read : (c : ℕ) (t : List ℕ) → Bytes t → whole_items form c t ≡ true → items_bytes form (items_of form c t) ≡ t
  unfolding items_bytes items_of whole_items
  items-read zero [] b w = refl
  items-read zero (x ∷ t) b w = absurd (omega (arith, eqb-true (length (x ∷ t)) 0 w))
  items-read (suc c) t b w =
      let p = both_true (form.fits t) (whole_items form c (form.after t)) w in
      ap (λ (r : List ℕ). form.write (form.read t) ++ r) (items-read c (form.after t) (f.bytes_after t b) p.1) ∙ f.written_read t b p.0

  held_items : (c : ℕ) (t : List ℕ) → Bytes t → whole_items form c t ≡ true → All Held (items_of form c t)
  unfolding items_of whole_items
  held_items zero t b w = tt
  held_items (suc c) t b w =
      let p = both_true (form.fits t) (whole_items form c (form.after t)) w in
      (f.held_read t b p.0, held_items c (form.after t) (f.bytes_after t b) p.1)

  -- the items of a record that reads whole are such as the form can hold
  pub record_held : (s : List ℕ) → Bytes s → record_whole form s ≡ true → All Held (record_items form (run_count s) s)
  unfolding record_items record_whole
  record_held s b w = held_items (run_count s) (drop 4 s) (below-drop 256 4 s b) (both_true (leb 4 (length s)) (whole_items form (run_count s) (drop 4 s)) w).1

  -- a record that reads whole is what writing its items gives
  pub record_read : (s : List ℕ) → Bytes s → record_whole form s ≡ true → record_bytes form (record_items form (run_count s) s) ≡ s
  unfolding record_bytes record_items record_whole run_count part
  record_read s b w =
      let c : ℕ = le_value (part 4 0 s) in
      let p = both_true (leb 4 (length s)) (whole_items form c (drop 4 s)) w in
      let long = leb-true 4 (length s) p.0 in
      let front : le_bytes 4 c ≡ part 4 0 s = le_bytes-le_value 4 (part 4 0 s) (length_part 4 0 s long) (below-part 256 4 0 s (omega arith) b) in
      rw (length-items_of, front, items-read c (drop 4 s) (below-drop 256 4 s b) p.1) (take-append-drop 4 s)

  -- two records that read whole and have the same items are the same bytes
  pub record_settles : (s t : List ℕ) → Bytes s → Bytes t → record_whole form s ≡ true → record_whole form t ≡ true
      → record_items form (run_count s) s ≡ record_items form (run_count t) t → s ≡ t
  record_settles s t bs bt ws wt e = sym (record_read s bs ws) ∙ ap (record_bytes form) e ∙ record_read t bt wt
