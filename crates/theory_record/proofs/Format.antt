-- The two forms of items, levels of a query record and groups of a tail record, read back what they write and write back what they read.
use Prim.Native.Nat.{ℕ, ◌+◌, ◌^◌, ◌<◌, ◌≤◌}
use mathlib.Core.Path.{◌≡◌, sym, ◌∙◌, ap}
use mathlib.Core.Bool.{true}
use mathlib.Core.List.{List, ◌++◌, map, append_assoc}
use native.Mathlib.Omega.{arith}
use borrow.Author.Tests.{le-leb, leb-true}
use lib.Dec.{leb}
use lib.ListN.{length, take, drop, length-append, take-append-drop}
use lib.Seq.{take_at, drop_at, drop-drop}
use Rattle.theory_laws.specs.Questions.{both}
use Rattle.theory_laws.specs.Lists.{part, le_value}
use Rattle.theory_laws.proofs.Lists.{Bytes, length-le_bytes, length_part, both_true}
pub use Rattle.theory_record.specs.Accepted.{GroupHeld, LevelHeld, TailGroupHeld}
use Rattle.theory_record.specs.Format.{LevelRecord, TailGroup, level_form, tail_form, word_bytes, word_at, run_bytes, run_fits, run_items}
use Rattle.theory_record.specs.Format.{level_bytes, from_aGroup, from_cGroup, from_aPath, from_cPath, after_level, level_fits, level_read}
use Rattle.theory_record.specs.Format.{tail_group_bytes, from_tail_path, after_tail_group, tail_group_fits, tail_group_of}
use Rattle.theory_record.proofs.Runs.{word_back, words_back, RunBack, run-back, word-run-back}
use Rattle.theory_record.proofs.Runs.{run-read, word-run-read, bytes-after_run, items-long, word-run-held, run-few}
use Rattle.theory_record.proofs.Records.{Faithful}
use Rattle.theory_laws.proofs.Bytes.{le_bytes-le_value, le_value-lt, below-part, below-drop}

-- ---- a level that was written

-- what stands from each of its runs on
abbrev c_path_on : LevelRecord → List ℕ → List ℕ
c_path_on x t = run_bytes x.c_path ++ t

abbrev a_path_on : LevelRecord → List ℕ → List ℕ
a_path_on x t = run_bytes x.a_path ++ c_path_on x t

abbrev c_group_on : LevelRecord → List ℕ → List ℕ
c_group_on x t = run_bytes (map word_bytes x.c_group) ++ a_path_on x t

abbrev a_group_on : LevelRecord → List ℕ → List ℕ
a_group_on x t = run_bytes (map word_bytes x.a_group) ++ c_group_on x t

word_first : (w : ℕ) (t : List ℕ) → w < 2 ^ 128 → le_value (part 16 0 (word_bytes w ++ t)) ≡ w
unfolding part
word_first w t h = ap le_value (take_at (word_bytes w) t 16 (length-le_bytes 16 w)) ∙ word_back w h

after-word : (w : ℕ) (t : List ℕ) → drop 16 (word_bytes w ++ t) ≡ t
after-word w t = drop_at (word_bytes w) t 16 (length-le_bytes 16 w)

part_further : (n i j : ℕ) (l : List ℕ) → part n (i + j) l ≡ part n j (drop i l)
unfolding part
part_further n i j l = ap (take n) (sym (drop-drop j i l))

three-words : (x : LevelRecord) (t : List ℕ) → level_bytes x ++ t ≡ word_bytes x.a ++ (word_bytes x.b ++ (word_bytes x.c ++ a_group_on x t))
unfolding level_bytes
three-words x t = simp append_assoc

module _ (x : LevelRecord) (h : LevelHeld x) (t : List ℕ) where
  a-is : word_at 0 (level_bytes x ++ t) ≡ x.a
  a-is = rw (three-words x t) (word_first x.a _ h.a_word)

  from-b : drop 16 (level_bytes x ++ t) ≡ word_bytes x.b ++ (word_bytes x.c ++ a_group_on x t)
  from-b = rw (three-words x t) (after-word x.a _)

  from-c : drop 32 (level_bytes x ++ t) ≡ word_bytes x.c ++ a_group_on x t
  from-c = sym (drop-drop 16 16 (level_bytes x ++ t)) ∙ rw from-b (after-word x.b _)

  b-is : word_at 16 (level_bytes x ++ t) ≡ x.b
  b-is = rw (part_further 16 16 0 (level_bytes x ++ t), from-b) (word_first x.b _ h.b_word)

  c-is : word_at 32 (level_bytes x ++ t) ≡ x.c
  c-is = rw (part_further 16 32 0 (level_bytes x ++ t), from-c) (word_first x.c _ h.c_word)

  -- its four runs
  a_group_back : RunBack 16 (map word_bytes x.a_group) (c_group_on x t)
  a_group_back = word-run-back x.a_group (c_group_on x t) h.a-held.values_few

  c_group_back : RunBack 16 (map word_bytes x.c_group) (a_path_on x t)
  c_group_back = word-run-back x.c_group (a_path_on x t) h.c-held.values_few

  a_path_back : RunBack 32 x.a_path (c_path_on x t)
  a_path_back = run-back 32 x.a_path (c_path_on x t) h.a-held.digests h.a-held.path_few

  c_path_back : RunBack 32 x.c_path t
  c_path_back = run-back 32 x.c_path t h.c-held.digests h.c-held.path_few

  a_group_from : from_aGroup (level_bytes x ++ t) ≡ a_group_on x t
  unfolding from_aGroup
  a_group_from = sym (drop-drop 16 32 (level_bytes x ++ t)) ∙ rw from-c (after-word x.c _)

  c_group_from : from_cGroup (level_bytes x ++ t) ≡ c_group_on x t
  unfolding from_cGroup
  c_group_from = rw a_group_from a_group_back.after

  a_path_from : from_aPath (level_bytes x ++ t) ≡ a_path_on x t
  unfolding from_aPath
  a_path_from = rw c_group_from c_group_back.after

  c_path_from : from_cPath (level_bytes x ++ t) ≡ c_path_on x t
  unfolding from_cPath
  c_path_from = rw a_path_from a_path_back.after

  level-after : after_level (level_bytes x ++ t) ≡ t
  unfolding after_level
  level-after = rw c_path_from c_path_back.after

  level-read : level_read (level_bytes x ++ t) ≡ x
  unfolding level_read
  level-read =
      let a-words = words_back x.a_group h.a-held.words in
      let c-words = words_back x.c_group h.c-held.words in
      rw (a-is, b-is, c-is, a_group_from, c_group_from, a_path_from, c_path_from)
      (rw (a_group_back.items, c_group_back.items, a_path_back.items, c_path_back.items, a-words, c-words))

  level-long : 48 ≤ length (level_bytes x ++ t)
  level-long = rw (three-words x t) (simp (length-append, length-le_bytes) (omega arith))

  level-fits : level_fits (level_bytes x ++ t) ≡ true
  unfolding level_fits
  level-fits =
      rw (le-leb 48 (length (level_bytes x ++ t)) level-long, a_group_from, c_group_from, a_path_from, c_path_from)
      (rw (a_group_back.fits, c_group_back.fits, a_path_back.fits, c_path_back.fits))

-- ---- a level that was read

word_read : (i : ℕ) (t : List ℕ) → i + 16 ≤ length t → Bytes t → word_bytes (word_at i t) ++ drop (i + 16) t ≡ drop i t
unfolding part
word_read i t h b =
    rw (le_bytes-le_value 16 (part 16 i t) (length_part 16 i t h) (below-part 256 16 i t (omega arith) b))
    (ap (λ (r : List ℕ). take 16 (drop i t) ++ r) (sym (drop-drop 16 i t)) ∙ take-append-drop 16 (drop i t))

module _ (t : List ℕ) (b : Bytes t) where
  bytes_a_group : Bytes (from_aGroup t)
  unfolding from_aGroup
  bytes_a_group = below-drop 256 48 t b

  bytes_c_group : Bytes (from_cGroup t)
  unfolding from_cGroup
  bytes_c_group = bytes-after_run 16 (from_aGroup t) bytes_a_group

  bytes_a_path : Bytes (from_aPath t)
  unfolding from_aPath
  bytes_a_path = bytes-after_run 16 (from_cGroup t) bytes_c_group

  bytes_c_path : Bytes (from_cPath t)
  unfolding from_cPath
  bytes_c_path = bytes-after_run 32 (from_aPath t) bytes_a_path

  bytes-level : Bytes (after_level t)
  unfolding after_level
  bytes-level = bytes-after_run 32 (from_cPath t) bytes_c_path

module _ (t : List ℕ) (b : Bytes t) (fits : level_fits t ≡ true) where
  all_fit : (leb 48 (length t) ≡ true) × (run_fits 16 (from_aGroup t) ≡ true) × (run_fits 16 (from_cGroup t) ≡ true)
      × (run_fits 32 (from_aPath t) ≡ true) × (run_fits 32 (from_cPath t) ≡ true)
  unfolding level_fits
  all_fit =
      let paths = both (run_fits 32 (from_aPath t)) (run_fits 32 (from_cPath t)) in
      let from-c = both (run_fits 16 (from_cGroup t)) paths in
      let p = both_true (leb 48 (length t)) (both (run_fits 16 (from_aGroup t)) from-c) fits in
      let q = both_true (run_fits 16 (from_aGroup t)) from-c p.1 in
      let r = both_true (run_fits 16 (from_cGroup t)) paths q.1 in
      let u = both_true (run_fits 32 (from_aPath t)) (run_fits 32 (from_cPath t)) r.1 in
      (p.0, q.0, r.0, u.0, u.1)

  level-written : level_bytes (level_read t) ++ after_level t ≡ t
  unfolding level_read after_level from_cPath from_aPath from_cGroup from_aGroup
  level-written =
      let long = leb-true 48 (length t) all_fit.0 in
      three-words (level_read t) (after_level t)
      ∙ rw (
        run-read 32 (from_cPath t) all_fit.4 (bytes_c_path t b),
        run-read 32 (from_aPath t) all_fit.3 (bytes_a_path t b),
        word-run-read (from_cGroup t) (bytes_c_group t b) all_fit.2,
        word-run-read (from_aGroup t) (bytes_a_group t b) all_fit.1,
        word_read 32 t long b,
        word_read 16 t (omega arith) b,
      )
      (word_read 0 t (omega arith) b)

-- words read from bytes, and a group and a path read from runs, can be held
word_held : (i : ℕ) (t : List ℕ) → i + 16 ≤ length t → Bytes t → word_at i t < 2 ^ 128
word_held i t h b = le_value-lt 16 (part 16 i t) (omega (arith, length_part 16 i t h)) (below-part 256 16 i t (omega arith) b)

group_held : (t u : List ℕ) → Bytes t → Bytes u → run_fits 16 t ≡ true → run_fits 32 u ≡ true → GroupHeld (map le_value (run_items 16 t)) (run_items 32 u)
group_held t u bt bu ft fu =
    let w = word-run-held t bt ft in
    record { words = w.0; values_few = w.1; digests = items-long 32 u fu; path_few = run-few 32 u bu }

level-held : (t : List ℕ) → Bytes t → level_fits t ≡ true → LevelHeld (level_read t)
unfolding level_read
level-held t b fits =
    let f = all_fit t b fits in
    let long = leb-true 48 (length t) f.0 in
    record {
      a_word = word_held 0 t (omega arith) b;
      b_word = word_held 16 t (omega arith) b;
      c_word = word_held 32 t long b;
      a-held = group_held (from_aGroup t) (from_aPath t) (bytes_a_group t b) (bytes_a_path t b) f.1 f.3;
      c-held = group_held (from_cGroup t) (from_cPath t) (bytes_c_group t b) (bytes_c_path t b) f.2 f.4;
    }

pub level_faithful : Faithful level_form LevelHeld
level_faithful =
    record {
      fits_written = λ x t h. level-fits x h t;
      read_written = λ x t h. level-read x h t;
      after_written = λ x t h. level-after x h t;
      written_read = λ t b fits. level-written t b fits;
      held_read = λ t b fits. level-held t b fits;
      bytes_after = λ t b. bytes-level t b;
    }

-- ---- groups of a tail record

module _ (x : TailGroup) (h : TailGroupHeld x) (t : List ℕ) where
  values-back : RunBack 16 (map word_bytes x.values) (run_bytes x.path ++ t)
  values-back = word-run-back x.values (run_bytes x.path ++ t) h.values_few

  path-back : RunBack 32 x.path t
  path-back = run-back 32 x.path t h.digests h.path_few

  two_runs : tail_group_bytes x ++ t ≡ run_bytes (map word_bytes x.values) ++ (run_bytes x.path ++ t)
  unfolding tail_group_bytes
  two_runs = append_assoc (run_bytes (map word_bytes x.values)) (run_bytes x.path) t

  path-from : from_tail_path (tail_group_bytes x ++ t) ≡ run_bytes x.path ++ t
  unfolding from_tail_path
  path-from = rw two_runs values-back.after

  group_after : after_tail_group (tail_group_bytes x ++ t) ≡ t
  unfolding after_tail_group
  group_after = rw path-from path-back.after

  group_read : tail_group_of (tail_group_bytes x ++ t) ≡ x
  unfolding tail_group_of
  group_read = rw (path-from, two_runs) (rw (values-back.items, path-back.items, words_back x.values h.words))

  group_fits : tail_group_fits (tail_group_bytes x ++ t) ≡ true
  unfolding tail_group_fits
  group_fits = rw (path-from, two_runs) (rw (values-back.fits, path-back.fits))

module _ (t : List ℕ) (b : Bytes t) where
  bytes-path : Bytes (from_tail_path t)
  unfolding from_tail_path
  bytes-path = bytes-after_run 16 t b

  bytes_group : Bytes (after_tail_group t)
  unfolding after_tail_group
  bytes_group = bytes-after_run 32 (from_tail_path t) bytes-path

  group_written : tail_group_fits t ≡ true → tail_group_bytes (tail_group_of t) ++ after_tail_group t ≡ t
  unfolding tail_group_fits tail_group_of tail_group_bytes after_tail_group from_tail_path
  group_written fits =
      let p = both_true (run_fits 16 t) (run_fits 32 (from_tail_path t)) fits in
      rw (append_assoc, run-read 32 (from_tail_path t) p.1 bytes-path) (word-run-read t b p.0)

  tail_group_held : tail_group_fits t ≡ true → TailGroupHeld (tail_group_of t)
  unfolding tail_group_fits tail_group_of
  tail_group_held fits =
      let p = both_true (run_fits 16 t) (run_fits 32 (from_tail_path t)) fits in
      group_held t (from_tail_path t) b bytes-path p.0 p.1

pub tail_faithful : Faithful tail_form TailGroupHeld
tail_faithful =
    record {
      fits_written = λ x t h. group_fits x h t;
      read_written = λ x t h. group_read x h t;
      after_written = λ x t h. group_after x h t;
      written_read = λ t b fits. group_written t b fits;
      held_read = λ t b fits. tail_group_held t b fits;
      bytes_after = λ t b. bytes_group t b;
    }
