-- Counted runs and what records are made of, by the places at which they begin.
use Prim.Native.Nat.{ℕ, ◌+◌, ◌-◌, ◌*◌, ◌<◌, ◌≤◌}
use mathlib.Core.Path.{◌≡◌, refl, sym, ◌∙◌, ap}
use mathlib.Core.Bool.{Bool, true, false}
use mathlib.Core.List.{List}
use native.Mathlib.Omega.{arith}
use native.Mathlib.Nat.{mul-le-mul_right, le_trans}
use native.Mathlib.Decide.{dec_le}
use borrow.Author.Tests.{le-leb, lt-leb}
use lib.Dec.{leb}
use lib.ListN.{length, drop, length-drop, drop_of_length-le}
use lib.Seq.{drop-drop}
use Rattle.std.specs.Prelude.{Option, Some, None}
use Rattle.std.proofs.lemmas.Option.{none-some, same_Some}
use Rattle.theory_record.specs.Format.{run_count, run_size, run_fits, after_run, from_aGroup, from_cGroup}
use Rattle.theory_record.specs.Format.{from_aPath, from_cPath, after_level, level_fits, from_tail_path, after_tail_group, tail_group_fits}
use Rattle.record_reader.specs.helpers.Places.{where_there, place_of, run_parts, run_at, level_parts, level_at, group_parts, group_at}
use Rattle.record_reader.specs.declared.Run.{Run}
use Rattle.record_reader.specs.declared.Level.{Level}
use Rattle.record_reader.specs.declared.TailGroup.{TailGroup}

-- ---- there, or not

pub there_yes : {A : Type 0} (b : Bool) (x y : A) → Some x ≡ where_there b y → (b ≡ true) × (x ≡ y)
there_yes true x y e = (refl, same_Some x y e)
there_yes false x y e = absurd (none-some x (sym e))

pub there_no : {A : Type 0} (b : Bool) (y : A) → None ≡ where_there b y → b ≡ false
there_no true y e = absurd (none-some y e)
there_no false y e = refl

pub not-there : {A : Type 0} (b : Bool) (y : A) → b ≡ false → None ≡ where_there b y
not-there b y e = rw e refl

pub there : {A : Type 0} (b : Bool) (x y : A) → b ≡ true → x ≡ y → Some x ≡ where_there b y
there b x y e f = rw e (ap Some f)

-- ---- places

-- what begins at the place of a rest is that rest
pub rest-there : (s : List ℕ) (i : ℕ) → drop (place_of s (drop i s)) s ≡ drop i s
unfolding place_of
rest-there s i = rw (length-drop i s) (go (dec_le i (length s)))
  where
    go : Dec (i ≤ length s) → drop (length s - (length s - i)) s ≡ drop i s
    go (yes h) = ap (λ (j : ℕ). drop j s) (let e : length s - (length s - i) ≡ i = omega arith in e)
    go (no h) = drop_of_length-le s {i = length s - (length s - i)} (omega arith) ∙ sym (drop_of_length-le s {i = i} (omega arith))

pub place-le : (s t : List ℕ) → place_of s t ≤ length s
unfolding place_of
place-le s t = omega arith

-- the place m bytes further on, where there are as many
pub place_further : (s : List ℕ) (i m : ℕ) → i ≤ length s → m ≤ length s - i → i + m ≡ place_of s (drop m (drop i s))
unfolding place_of
place_further s i m h g = rw (length-drop m (drop i s), length-drop i s) (omega arith)

-- ---- a run

-- what a count may come to
pub product_small : (size c : ℕ) → size ≤ 32 → c < 4294967296 → size * c ≤ 137438953472
product_small size c h g = le_trans (mul-le-mul_right c h) (omega arith)

module _ (size : ℕ) (s : List ℕ) (i : ℕ) where
  pub no_count : length s - i < 4 → ◌≡◌ {A = Option Run} None (run_at size s i)
  unfolding run_at run_fits
  no_count g = not-there _ _ (rw (length-drop i s, lt-leb 4 (length s - i) g) refl)

  module _ (c : ℕ) (e : c ≡ run_count (drop i s)) (k : 4 ≤ length s - i) where
    pub no_items : length s - i < 4 + size * c → ◌≡◌ {A = Option Run} None (run_at size s i)
    unfolding run_at run_fits run_size
    no_items g = not-there _ _ (rw (length-drop i s, le-leb 4 (length s - i) k, ← e, lt-leb (4 + size * c) (length s - i) g) refl)

    pub all-items : i ≤ length s → 4 + size * c ≤ length s - i
        → ◌≡◌ {A = Option Run} (Some (record { count = c; next = i + (4 + size * c) })) (run_at size s i)
    unfolding run_at run_parts run_fits after_run run_size
    all-items h g =
        there _ _ _ (rw (length-drop i s, le-leb 4 (length s - i) k, ← e, le-leb (4 + size * c) (length s - i) g) refl)
        (rw (← e) (ap (λ (next : ℕ). run_with c next) (place_further s i (4 + size * c) h g)))
      where
        run_with : ℕ → ℕ → Run
        run_with count next = record { count = count; next = next }

-- a run r that is all there, read where the rest t begins
pub record RunFound (size : ℕ) (s t : List ℕ) (r : Run) : Type 0 where
  pub fits : run_fits size t ≡ true
  pub count-is : r.count ≡ run_count t
  pub next-is : r.next ≡ place_of s (after_run size t)
  pub rest : drop r.next s ≡ after_run size t
  pub within : r.next ≤ length s

after-there : (size : ℕ) (s : List ℕ) (i : ℕ) → drop (place_of s (after_run size (drop i s))) s ≡ after_run size (drop i s)
unfolding after_run
after-there size s i = rw (drop-drop (run_size size (drop i s)) i s) (rest-there s (i + run_size size (drop i s)))

pub run_found : (size : ℕ) (s : List ℕ) (i : ℕ) (r : Run) → Some r ≡ run_at size s i → RunFound size s (drop i s) r
unfolding run_at run_parts
run_found size s i r e =
    let p = there_yes _ _ _ e in
    let n : r.next ≡ place_of s (after_run size (drop i s)) = ap (λ (x : Run). x.next) p.1 in
    record {
      fits = p.0;
      count-is = ap (λ (x : Run). x.count) p.1;
      next-is = n;
      rest = ap (λ (j : ℕ). drop j s) n ∙ after-there size s i;
      within = rw n (place-le s (after_run size (drop i s)));
    }

run_of : (size : ℕ) (s t : List ℕ) (i : ℕ) (r : Run) → drop i s ≡ t → Some r ≡ run_at size s i → RunFound size s t r
run_of size s t i r f e = rw f at (run_found size s i r e)

run_missing : (size : ℕ) (s t : List ℕ) (i : ℕ) → drop i s ≡ t → ◌≡◌ {A = Option Run} None (run_at size s i) → run_fits size t ≡ false
unfolding run_at
run_missing size s t i f e = ap (run_fits size) (sym f) ∙ there_no _ _ e

-- ---- a level

pub no_words : (s : List ℕ) (i : ℕ) → length s - i < 48 → ◌≡◌ {A = Option Level} None (level_at s i)
unfolding level_at level_fits
no_words s i g = not-there _ _ (rw (length-drop i s, lt-leb 48 (length s - i) g) refl)

module _ (s : List ℕ) (i : ℕ) (h : i ≤ length s) (w : 48 ≤ length s - i) where
  words_yes : leb 48 (length (drop i s)) ≡ true
  words_yes = ap (leb 48) (length-drop i s) ∙ le-leb 48 (length s - i) w

  a_rest : drop (i + 48) s ≡ from_aGroup (drop i s)
  unfolding from_aGroup
  a_rest = sym (drop-drop 48 i s)

  a_place : i + 48 ≡ place_of s (from_aGroup (drop i s))
  unfolding from_aGroup
  a_place = place_further s i 48 h w

  pub no_a : ◌≡◌ {A = Option Run} None (run_at 16 s (i + 48)) → ◌≡◌ {A = Option Level} None (level_at s i)
  unfolding level_at level_fits
  no_a e = not-there _ _ (rw (words_yes, run_missing 16 s (from_aGroup (drop i s)) (i + 48) a_rest e) refl)

  module _ (a : Run) (ea : Some a ≡ run_at 16 s (i + 48)) where
    found_a : RunFound 16 s (from_aGroup (drop i s)) a
    found_a = run_of 16 s (from_aGroup (drop i s)) (i + 48) a a_rest ea

    c_rest : drop a.next s ≡ from_cGroup (drop i s)
    unfolding from_cGroup
    c_rest = found_a.rest

    pub no_c : ◌≡◌ {A = Option Run} None (run_at 16 s a.next) → ◌≡◌ {A = Option Level} None (level_at s i)
    unfolding level_at level_fits
    no_c e = not-there _ _ (rw (words_yes, found_a.fits, run_missing 16 s (from_cGroup (drop i s)) a.next c_rest e) refl)

    module _ (c : Run) (ec : Some c ≡ run_at 16 s a.next) where
      found_c : RunFound 16 s (from_cGroup (drop i s)) c
      found_c = run_of 16 s (from_cGroup (drop i s)) a.next c c_rest ec

      p_rest : drop c.next s ≡ from_aPath (drop i s)
      unfolding from_aPath
      p_rest = found_c.rest

      pub no_a_path : ◌≡◌ {A = Option Run} None (run_at 32 s c.next) → ◌≡◌ {A = Option Level} None (level_at s i)
      unfolding level_at level_fits
      no_a_path e = not-there _ _ (rw (words_yes, found_a.fits, found_c.fits, run_missing 32 s (from_aPath (drop i s)) c.next p_rest e) refl)

      module _ (p : Run) (ep : Some p ≡ run_at 32 s c.next) where
        found_p : RunFound 32 s (from_aPath (drop i s)) p
        found_p = run_of 32 s (from_aPath (drop i s)) c.next p p_rest ep

        q_rest : drop p.next s ≡ from_cPath (drop i s)
        unfolding from_cPath
        q_rest = found_p.rest

        pub no_c_path : ◌≡◌ {A = Option Run} None (run_at 32 s p.next) → ◌≡◌ {A = Option Level} None (level_at s i)
        unfolding level_at level_fits
        no_c_path e =
            not-there _ _ (rw (words_yes, found_a.fits, found_c.fits, found_p.fits, run_missing 32 s (from_cPath (drop i s)) p.next q_rest e) refl)

        pub level_there : (q : Run) → Some q ≡ run_at 32 s p.next
            → ◌≡◌ {A = Option Level}
            (Some (record { a = record { group_at = i + 48; path_at = c.next }; c = record { group_at = a.next; path_at = p.next }; next = q.next }))
            (level_at s i)
        unfolding level_at level_parts level_fits from_cGroup from_aPath from_cPath after_level
        level_there q eq =
            let found_q = run_of 32 s (from_cPath (drop i s)) p.next q q_rest eq in
            there _ _ _ (rw (words_yes, found_a.fits, found_c.fits, found_p.fits, found_q.fits) refl)
            (rw (a_place, found_a.next-is, found_c.next-is, found_p.next-is, found_q.next-is) refl)

-- ---- a group of a tail record

pub no_values : (s : List ℕ) (i : ℕ) → ◌≡◌ {A = Option Run} None (run_at 16 s i) → ◌≡◌ {A = Option TailGroup} None (group_at s i)
unfolding group_at tail_group_fits
no_values s i e = not-there _ _ (rw (run_missing 16 s (drop i s) i refl e) refl)

module _ (s : List ℕ) (i : ℕ) (v : Run) (ev : Some v ≡ run_at 16 s i) where
  found_v : RunFound 16 s (drop i s) v
  found_v = run_found 16 s i v ev

  path_rest : drop v.next s ≡ from_tail_path (drop i s)
  unfolding from_tail_path
  path_rest = found_v.rest

  pub no_path : ◌≡◌ {A = Option Run} None (run_at 32 s v.next) → ◌≡◌ {A = Option TailGroup} None (group_at s i)
  unfolding group_at tail_group_fits
  no_path e = not-there _ _ (rw (found_v.fits, run_missing 32 s (from_tail_path (drop i s)) v.next path_rest e) refl)

  pub group_there : (p : Run) → Some p ≡ run_at 32 s v.next
      → ◌≡◌ {A = Option TailGroup} (Some (record { opening = record { group_at = i; path_at = v.next }; next = p.next })) (group_at s i)
  unfolding group_at group_parts tail_group_fits from_tail_path after_tail_group
  group_there p ep =
      let found_p = run_of 32 s (from_tail_path (drop i s)) v.next p path_rest ep in
      there _ _ _ (rw (found_v.fits, found_p.fits) refl) (rw (found_v.next-is, found_p.next-is) refl)
