-- Counted runs: reading what was written gives back the items and what follows, and writing what was read gives back the bytes.
use Prim.Native.Nat.{ℕ, zero, suc, ◌+◌, ◌*◌, ◌^◌, ◌<◌, ◌≤◌}
use mathlib.Core.Path.{◌≡◌, refl, sym, ◌∙◌, ap, ap₂}
use mathlib.Core.Bool.{true}
use mathlib.Core.List.{List, [], ◌∷◌, ◌++◌, map, append_assoc}
use native.Mathlib.Omega.{arith}
use borrow.Author.Tests.{le-leb, leb-true}
use lib.Dec.{leb}
use lib.Pow.{pow_pos}
use lib.ListN.{length, take, drop, length-append, length-drop, length-map, length-take, take-append-drop}
use lib.Seq.{take_at, drop_at, drop-drop, take-add}
use Rattle.theory_laws.specs.Lists.{part, runs, flat, le_bytes, le_value}
use Rattle.theory_laws.proofs.Lists.{AllLong, Bytes, length-le_bytes, le_value-le_bytes, length_part, both_true}
use Rattle.theory_laws.proofs.Lists.{length_runs, runs-flat, flat-runs, length-flat, runs-long, runs-take}
pub use Rattle.theory_record.specs.Accepted.{Few, Words}
use Rattle.theory_record.specs.Format.{word_bytes, run_bytes, run_count, run_size, run_fits, run_items, after_run}
use Rattle.theory_laws.proofs.Bytes.{le_bytes-le_value, le_value-lt, below-part, below-drop, below-take}
use Rattle.theory_laws.proofs.Questions.{true_both}

-- ---- words as items

pub word_back : (w : ℕ) → w < 2 ^ 128 → le_value (word_bytes w) ≡ w
word_back w h = le_value-le_bytes 16 w h

pub words_back : (ws : List ℕ) → Words ws → map le_value (map word_bytes ws) ≡ ws
words_back [] h = refl
words_back (w ∷ ws) h = ap₂ (λ (x : ℕ) (r : List ℕ). x ∷ r) (word_back w (h 0)) (words_back ws (λ j. h (suc j)))

pub words_long : (ws : List ℕ) → AllLong 16 (map word_bytes ws)
words_long [] = tt
words_long (w ∷ ws) = (length-le_bytes 16 w, words_long ws)

pub words-few : (ws : List ℕ) → Few ws → Few (map word_bytes ws)
words-few ws h = rw (length-map ws word_bytes) h

-- ---- what was written

pub length-run_bytes : (size : ℕ) (xs : List (List ℕ)) → AllLong size xs → length (run_bytes xs) ≡ 4 + size * length xs
unfolding run_bytes
length-run_bytes size xs long = rw (length-append, length-le_bytes, length-flat size xs long)

pub run-count : (xs : List (List ℕ)) (t : List ℕ) → Few xs → run_count (run_bytes xs ++ t) ≡ length xs
unfolding run_count run_bytes part
run-count xs t few = rw (append_assoc, take_at (le_bytes 4 (length xs)) (flat xs ++ t) 4 (length-le_bytes 4 (length xs))) (le_value-le_bytes 4 (length xs) few)

after-count : (xs : List (List ℕ)) (t : List ℕ) → drop 4 (run_bytes xs ++ t) ≡ flat xs ++ t
unfolding run_bytes
after-count xs t = rw append_assoc (drop_at (le_bytes 4 (length xs)) (flat xs ++ t) 4 (length-le_bytes 4 (length xs)))

-- a run that was written, with t behind it, is all there, gives back its items, and leaves t
pub record RunBack (size : ℕ) (xs : List (List ℕ)) (t : List ℕ) : Type 0 where
  pub fits : run_fits size (run_bytes xs ++ t) ≡ true
  pub items : run_items size (run_bytes xs ++ t) ≡ xs
  pub after : after_run size (run_bytes xs ++ t) ≡ t

module _ (size : ℕ) (xs : List (List ℕ)) (t : List ℕ) (long : AllLong size xs) (few : Few xs) where
  run-size : run_size size (run_bytes xs ++ t) ≡ length (run_bytes xs)
  unfolding run_size
  run-size = rw (run-count xs t few, length-run_bytes size xs long)

  run_fits_lem : run_fits size (run_bytes xs ++ t) ≡ true
  unfolding run_fits
  run_fits_lem =
      let e : length (run_bytes xs ++ t) ≡ length (run_bytes xs) + length t = length-append (run_bytes xs) t in
      true_both _ _ (le-leb 4 (length (run_bytes xs ++ t)) (omega (arith, length-run_bytes size xs long)))
      (le-leb (run_size size (run_bytes xs ++ t)) (length (run_bytes xs ++ t)) (omega (arith, run-size)))

  run-items : run_items size (run_bytes xs ++ t) ≡ xs
  unfolding run_items
  run-items = rw (run-count xs t few, after-count xs t) (runs-flat size xs t long)

  run-after : after_run size (run_bytes xs ++ t) ≡ t
  unfolding after_run
  run-after = drop_at (run_bytes xs) t (run_size size (run_bytes xs ++ t)) (sym run-size)

  pub run-back : RunBack size xs t
  run-back = record { fits = run_fits_lem; items = run-items; after = run-after }

-- a run of words
pub word-run-back : (ws t : List ℕ) → Few ws → RunBack 16 (map word_bytes ws) t
word-run-back ws t few = run-back 16 (map word_bytes ws) t (words_long ws) (words-few ws few)

-- ---- what was read

-- every item has bytes
abbrev pub AllBytes : List (List ℕ) → Type 0
AllBytes [] = Unit
AllBytes (x ∷ xs) = Bytes x × AllBytes xs

pub runs-bytes : (n c : ℕ) (l : List ℕ) → Bytes l → AllBytes (runs n c l)
unfolding runs
runs-bytes n zero l h = tt
runs-bytes n (suc c) l h = (below-take 256 n l (omega arith) h, runs-bytes n c (drop n l) (below-drop 256 n l h))

pub items-bytes : (size : ℕ) (t : List ℕ) → Bytes t → AllBytes (run_items size t)
unfolding run_items
items-bytes size t h = runs-bytes size (run_count t) (drop 4 t) (below-drop 256 4 t h)

pub length-run_items : (size : ℕ) (t : List ℕ) → length (run_items size t) ≡ run_count t
unfolding run_items
length-run_items size t = length_runs size (run_count t) (drop 4 t)

pub words-read : (xs : List (List ℕ)) → AllLong 16 xs → AllBytes xs → map word_bytes (map le_value xs) ≡ xs
words-read [] long bytes = refl
words-read (x ∷ xs) long bytes =
    ap₂ (λ (y : List ℕ) (r : List (List ℕ)). y ∷ r) (le_bytes-le_value 16 x long.0 bytes.0) (words-read xs long.1 bytes.1)

pub items-words : (xs : List (List ℕ)) → AllLong 16 xs → AllBytes xs → Words (map le_value xs)
items-words [] long bytes j = pow_pos 128
items-words (x ∷ xs) long bytes zero = le_value-lt 16 x (omega arith) bytes.0
items-words (x ∷ xs) long bytes (suc j) = items-words xs long.1 bytes.1 j

pub count-few : (t : List ℕ) → Bytes t → run_count t < 2 ^ 32
unfolding run_count part
count-few t h = le_value-lt 4 (take 4 t) (rw length-take (omega arith)) (below-take 256 4 t (omega arith) h)

both-parts : (t : List ℕ) (m : ℕ) → part 4 0 t ++ take m (drop 4 t) ++ drop (4 + m) t ≡ t
unfolding part
both-parts t m = rw (← (take-add 4 m t)) (take-append-drop (4 + m) t)

module _ (size : ℕ) (t : List ℕ) (fits : run_fits size t ≡ true) where
  pub fits_count : 4 ≤ length t
  unfolding run_fits
  fits_count = leb-true 4 (length t) (both_true (leb 4 (length t)) (leb (run_size size t) (length t)) fits).0

  pub fits-size : run_size size t ≤ length t
  unfolding run_fits
  fits-size = leb-true (run_size size t) (length t) (both_true (leb 4 (length t)) (leb (run_size size t) (length t)) fits).1

  pub items-long : AllLong size (run_items size t)
  unfolding run_items run_size
  items-long = runs-long size (run_count t) (drop 4 t) (simp length-drop (omega (arith, fits-size)))

  pub run-read : Bytes t → run_bytes (run_items size t) ++ after_run size t ≡ t
  unfolding run_bytes run_items after_run run_size run_count
  run-read h =
      let c : ℕ = le_value (part 4 0 t) in
      let long : length (part 4 0 t) ≡ 4 = length_part 4 0 t (omega (arith, fits_count)) in
      let front : le_bytes 4 c ≡ part 4 0 t = le_bytes-le_value 4 (part 4 0 t) long (below-part 256 4 0 t (omega arith) h) in
      rw (length_runs, front, flat-runs) (both-parts t (size * c))

pub word-run-read : (t : List ℕ) → Bytes t → run_fits 16 t ≡ true → run_bytes (map word_bytes (map le_value (run_items 16 t))) ++ after_run 16 t ≡ t
word-run-read t h fits = rw (words-read (run_items 16 t) (items-long 16 t fits) (items-bytes 16 t h)) (run-read 16 t fits h)

pub bytes-after_run : (size : ℕ) (t : List ℕ) → Bytes t → Bytes (after_run size t)
unfolding after_run
bytes-after_run size t h = below-drop 256 (run_size size t) t h

-- what was read can be held: words, a count of four bytes, digests
pub word-run-held : (t : List ℕ) → Bytes t → run_fits 16 t ≡ true → Words (map le_value (run_items 16 t)) × Few (map le_value (run_items 16 t))
word-run-held t h fits = (
  items-words (run_items 16 t) (items-long 16 t fits) (items-bytes 16 t h),
  rw (length-map (run_items 16 t) le_value, length-run_items 16 t) (count-few t h),
)

pub run-few : (size : ℕ) (t : List ℕ) → Bytes t → Few (run_items size t)
run-few size t h = rw (length-run_items size t) (count-few t h)

-- the items of the run at a place, by the bytes that they take
pub items-there : (size : ℕ) (s : List ℕ) (i c : ℕ) → run_count (drop i s) ≡ c → run_items size (drop i s) ≡ runs size c (part (size * c) (i + 4) s)
unfolding run_items part
items-there size s i c e = rw e (ap (runs size c) (drop-drop 4 i s) ∙ sym (runs-take size c (drop (i + 4) s)))
