-- What follows of the check of query records: its answer's number is 0 or that of a question it puts, an accepted record has the size that n, k
-- and the widths fix, and two accepted records with the same groups and paths are the same bytes.
use Prim.Native.Nat.{ℕ, suc, ◌+◌, ◌*◌}
use mathlib.Core.Path.{◌≡◌, refl, sym, ◌∙◌, ap, ap₂}
use mathlib.Core.Bool.{Bool, true, false}
use mathlib.Core.List.{List, [], ◌∷◌}
use lib.Dec.{eqb}
use lib.ListN.{length}
use Rattle.theory_laws.specs.Table.{at}
use Rattle.theory_laws.specs.Questions.{pick}
use Rattle.theory_laws.proofs.Lists.{Bytes}
use Rattle.theory_field.specs.Words.{words}
pub use Rattle.theory_record.specs.Accepted.{SameOpenings}
use Rattle.theory_record.specs.Widths.{level_width}
use Rattle.theory_record.specs.Format.{LevelRecord, level_form, record_items, record_bytes}
use Rattle.theory_record.specs.Sizes.{query_size}
use Rattle.theory_record.specs.Query.{Answer, refused, pair_of, value_at, root_at, level_questions, level_number, check_levels, query_questions, query_number, check_query}
use Rattle.theory_record.proofs.Records.{All, record_read, record_held, record_settles, length-record_items}
use Rattle.theory_record.proofs.Format.{LevelHeld, level_faithful}
use Rattle.theory_record.proofs.Sizes.{LevelsShaped, query_fills}
use Rattle.theory_record.proofs.Query.{LevelHolds, AllHold, QueryAccepted}
use Rattle.theory_laws.proofs.Questions.{numbers_pass, answer-passes}
use Rattle.theory_record.specs.Scheme.{Scheme}

-- ---- the numbers that it answers: a test that 0 and every question's number pass is passed by the answer

module _ (S : Scheme) (position : ℕ) (challenges roots : List ℕ) (t : ℕ → Bool) (zero-passes : t 0 ≡ true)
    (levels-asked : (l : ℕ) (x : LevelRecord) → numbers_pass t (level_questions S position challenges roots l x) ≡ true) where
  open S use {n}

  levels-pass : (l : ℕ) (xs : List LevelRecord) → t (check_levels S position challenges roots l xs).number ≡ true
  unfolding check_levels level_number
  levels-pass l [] = zero-passes
  levels-pass l (x ∷ xs) = go (eqb number 0) (levels-pass (suc l) xs)
    where
      number : ℕ
      number = level_number S position challenges roots l x

      rest : Answer
      rest = check_levels S position challenges roots (suc l) xs

      go : (b : Bool) → t rest.number ≡ true → t (pick b rest (record { number = number; level = l })).number ≡ true
      go true h = h
      go false h = answer-passes t zero-passes (level_questions S position challenges roots l x) (levels-asked l x)

  pub query_passes : (bytes : List ℕ) → numbers_pass t (query_questions S position challenges roots bytes) ≡ true
      → t (check_query S position challenges roots bytes).number ≡ true
  unfolding check_query query_number
  query_passes bytes asked = go (eqb number 0)
    where
      number : ℕ
      number = query_number S position challenges roots bytes

      rest : Answer
      rest = check_levels S position challenges roots 0 (record_items level_form n bytes)

      go : (b : Bool) → t (pick b rest (refused number)).number ≡ true
      go true = levels-pass 0 (record_items level_form n bytes)
      go false = answer-passes t zero-passes (query_questions S position challenges roots bytes) asked

-- ---- the size of an accepted record (SPECIFICATION 7.6)

module _ (S : Scheme) (position : ℕ) (challenges roots : List ℕ) where
  open S use {widths as s, n, k}

  hold_shaped : (l : ℕ) (xs : List LevelRecord) → AllHold S position challenges roots l xs → All LevelHeld xs → LevelsShaped s n k l xs
  hold_shaped l [] h held = tt
  hold_shaped l (x ∷ xs) h held = (
    (
      record { width = h.0.a_width; depth = h.0.a_path_there; digests = held.0.a-held.digests },
      record { width = h.0.c_width; depth = h.0.c_path_there; digests = held.0.c-held.digests },
    ),
    hold_shaped (suc l) xs h.1 held.1,
  )

  module _ (bytes : List ℕ) (b : Bytes bytes) (h : QueryAccepted S position challenges roots bytes) where
    pub accepted-held : All LevelHeld (record_items level_form n bytes)
    accepted-held = rw h.has_n_levels at (record_held level_form LevelHeld level_faithful bytes b h.reads_whole)

    pub accepted-bytes : record_bytes level_form (record_items level_form n bytes) ≡ bytes
    accepted-bytes = rw h.has_n_levels at (record_read level_form LevelHeld level_faithful bytes b h.reads_whole)

    pub accepted-size : length bytes ≡ query_size s n k
    accepted-size =
        ap length (sym accepted-bytes)
        ∙ query_fills s n k (record_items level_form n bytes) (length-record_items level_form n bytes)
        (hold_shaped 0 (record_items level_form n bytes) h.levels_hold accepted-held)

-- ---- a level is settled by its groups and paths: a, b and c stand in them

abbrev pub AllSame : List LevelRecord → List LevelRecord → Type 0
AllSame [] [] = Unit
AllSame [] (y ∷ ys) = ⊥
AllSame (x ∷ xs) [] = ⊥
AllSame (x ∷ xs) (y ∷ ys) = SameOpenings x y × AllSame xs ys

made : ℕ → ℕ → ℕ → List ℕ → List ℕ → List (List ℕ) → List (List ℕ) → LevelRecord
made a b c ag cg pa pc = record { a = a; b = b; c = c; a_group = ag; c_group = cg; a_path = pa; c_path = pc }

again : LevelRecord → LevelRecord
again x = made x.a x.b x.c x.a_group x.c_group x.a_path x.c_path

by_parts : {x y : LevelRecord} → x.a ≡ y.a → x.b ≡ y.b → x.c ≡ y.c → x.a_group ≡ y.a_group → x.c_group ≡ y.c_group
    → x.a_path ≡ y.a_path → x.c_path ≡ y.c_path → x ≡ y
unfolding made again
by_parts {x} {y} a b c ag cg pa pc =
    let e : again x ≡ again y = rw (a, b, c, ag, cg, pa, pc) in
    e

module _ (S : Scheme) (position : ℕ) (challenges roots : List ℕ) where
  open S use {widths as s, n, k}

  pub level-settled : (l : ℕ) (x y : LevelRecord) → LevelHolds S l (pair_of position l) (at (words challenges) l) (root_at roots l) (root_at roots (suc l)) x
      → LevelHolds S l (pair_of position l) (at (words challenges) l) (root_at roots l) (root_at roots (suc l)) y → SameOpenings x y → x ≡ y
  level-settled l x y hx hy e =
      let a : x.a ≡ y.a = sym hx.has_a ∙ ap (value_at (level_width s n k l) (2 * pair_of position l)) e.a_groups ∙ hy.has_a in
      let b : x.b ≡ y.b = sym hx.has_b ∙ ap (value_at (level_width s n k l) (2 * pair_of position l + 1)) e.a_groups ∙ hy.has_b in
      let c : x.c ≡ y.c = sym hx.has_c ∙ ap (value_at (level_width s n k (suc l)) (pair_of position l)) e.c_groups ∙ hy.has_c in
      by_parts a b c e.a_groups e.c_groups e.a_paths e.c_paths

  levels-settled : (l : ℕ) (xs ys : List LevelRecord) → AllHold S position challenges roots l xs → AllHold S position challenges roots l ys
      → AllSame xs ys → xs ≡ ys
  levels-settled l [] [] hx hy e = refl
  levels-settled l [] (y ∷ ys) hx hy e = absurd e
  levels-settled l (x ∷ xs) [] hx hy e = absurd e
  levels-settled l (x ∷ xs) (y ∷ ys) hx hy e =
      ap₂ (λ (z : LevelRecord) (zs : List LevelRecord). z ∷ zs) (level-settled l x y hx.0 hy.0 e.0)
      (levels-settled (suc l) xs ys hx.1 hy.1 e.1)

  -- two records that are accepted for one position and have the same groups and paths are the same bytes
  pub query_settled : (u v : List ℕ) → Bytes u → Bytes v → QueryAccepted S position challenges roots u → QueryAccepted S position challenges roots v
      → AllSame (record_items level_form n u) (record_items level_form n v) → u ≡ v
  query_settled u v bu bv hu hv e =
      let same = levels-settled 0 (record_items level_form n u) (record_items level_form n v) hu.levels_hold hv.levels_hold e in
      record_settles level_form LevelHeld level_faithful u v bu bv hu.reads_whole hv.reads_whole (rw (hu.has_n_levels, hv.has_n_levels) same)
