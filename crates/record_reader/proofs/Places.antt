-- The places of a level and of a tail's group that were read, and the loops that ask whether a record reads whole.
use Prim.Native.Nat.{ℕ, ◌+◌, ◌-◌, ◌<◌, ◌≤◌}
use mathlib.Core.Path.{◌≡◌, refl, sym, ◌∙◌, ap}
use mathlib.Core.Bool.{Bool, true, false}
use mathlib.Core.List.{List}
use lib.ListN.{length, drop}
use lib.Seq.{drop-drop}
use Rattle.std.specs.Prelude.{Option, Some, None}
use Rattle.theory_record.specs.Format.{level_form, tail_form, run_size, after_run, from_aGroup, from_cGroup}
use Rattle.theory_record.specs.Format.{from_aPath, from_cPath, after_level, level_fits, from_tail_path, after_tail_group, tail_group_fits, whole_items}
use Rattle.theory_record.proofs.Reading.{whole-step, whole_stop, whole_here}
use Rattle.record_reader.specs.helpers.Places.{place_of, level_parts, level_at, group_parts, group_at}
use Rattle.record_reader.specs.declared.Level.{Level}
use Rattle.record_reader.specs.declared.TailGroup.{TailGroup}
use Rattle.record_reader.proofs.Runs.{there_yes, there_no, there, rest-there, place-le}

-- t is what stands at its place in s
abbrev Rest : List ℕ → List ℕ → Type 0
Rest s t = drop (place_of s t) s ≡ t

rest-drop : (s t : List ℕ) (m : ℕ) → Rest s t → Rest s (drop m t)
rest-drop s t m h =
    let e : drop m t ≡ drop (place_of s t + m) s = ap (drop m) (sym h) ∙ drop-drop m (place_of s t) s in
    rw e (rest-there s (place_of s t + m))

rest-run : (size : ℕ) (s t : List ℕ) → Rest s t → Rest s (after_run size t)
unfolding after_run
rest-run size s t h = rest-drop s t (run_size size t) h

-- the level v read at place i: it is all there, and what stands at each of its places
pub record LevelPlaces (s : List ℕ) (i : ℕ) (v : Level) : Type 0 where
  pub fits : level_fits (drop i s) ≡ true
  pub a_group : drop v.a.group_at s ≡ from_aGroup (drop i s)
  pub c_group : drop v.c.group_at s ≡ from_cGroup (drop i s)
  pub a_path_there : drop v.a.path_at s ≡ from_aPath (drop i s)
  pub c_path_there : drop v.c.path_at s ≡ from_cPath (drop i s)
  pub after : after_level (drop i s) ≡ drop v.next s
  pub within : v.next ≤ length s

pub level-places : (s : List ℕ) (i : ℕ) (v : Level) → Some v ≡ level_at s i → LevelPlaces s i v
unfolding level_at level_parts from_aGroup from_cGroup from_aPath from_cPath after_level
level-places s i v e =
    let t : List ℕ = drop i s in
    let ra = rest-drop s t 48 (rest-there s i) in
    let rc = rest-run 16 s (from_aGroup t) ra in
    let rp = rest-run 16 s (from_cGroup t) rc in
    let rq = rest-run 32 s (from_aPath t) rp in
    let rn = rest-run 32 s (from_cPath t) rq in
    let p = there_yes _ _ _ e in
    rw p.1 (record {
      fits = p.0;
      a_group = ra;
      c_group = rc;
      a_path_there = rp;
      c_path_there = rq;
      after = sym rn;
      within = place-le s (after_level t);
    })

-- the group v read at place i
pub record GroupPlaces (s : List ℕ) (i : ℕ) (v : TailGroup) : Type 0 where
  pub fits : tail_group_fits (drop i s) ≡ true
  pub begins : v.opening.group_at ≡ i
  pub path : drop v.opening.path_at s ≡ from_tail_path (drop i s)
  pub after : after_tail_group (drop i s) ≡ drop v.next s
  pub within : v.next ≤ length s

pub group_places : (s : List ℕ) (i : ℕ) (v : TailGroup) → Some v ≡ group_at s i → GroupPlaces s i v
unfolding group_at group_parts from_tail_path after_tail_group
group_places s i v e =
    let t : List ℕ = drop i s in
    let rp = rest-run 16 s t (rest-there s i) in
    let rn = rest-run 32 s (from_tail_path t) rp in
    let p = there_yes _ _ _ e in
    rw p.1 (record { fits = p.0; begins = refl; path = rp; after = sym rn; within = place-le s (after_tail_group t) })

-- ---- whole

module _ (s : List ℕ) (i c l : ℕ) (r : Bool) (h : l < c) (w : whole_items level_form (c - l) (drop i s) ≡ r) where
  pub level-more : (v : Level) → Some v ≡ level_at s i → whole_items level_form (c - (l + 1)) (drop v.next s) ≡ r
  level-more v e = let p = level-places s i v e in whole-step level_form s i c l r v.next h p.fits p.after w

  pub level-less : ◌≡◌ {A = Option Level} None (level_at s i) → false ≡ r
  unfolding level_at
  level-less e = whole_stop level_form s i c l r h (there_no _ _ e) w

module _ (s : List ℕ) (i c g : ℕ) (r : Bool) (h : g < c) (w : whole_items tail_form (c - g) (drop i s) ≡ r) where
  pub group_more : (v : TailGroup) → Some v ≡ group_at s i → whole_items tail_form (c - (g + 1)) (drop v.next s) ≡ r
  group_more v e = let p = group_places s i v e in whole-step tail_form s i c g r v.next h p.fits p.after w

  pub group_less : ◌≡◌ {A = Option TailGroup} None (group_at s i) → false ≡ r
  unfolding group_at
  group_less e = whole_stop tail_form s i c g r h (there_no _ _ e) w

-- an item of a record that reads whole is there
pub level-here : (s : List ℕ) (i c l : ℕ) → l < c → whole_items level_form (c - l) (drop i s) ≡ true → (v : Level) × (Some v ≡ level_at s i)
unfolding level_at
level-here s i c l h w = (level_parts s i, there _ _ _ (whole_here level_form s i c l h w) refl)

pub group_here : (s : List ℕ) (i c g : ℕ) → g < c → whole_items tail_form (c - g) (drop i s) ≡ true → (v : TailGroup) × (Some v ≡ group_at s i)
unfolding group_at
group_here s i c g h w = (group_parts s i, there _ _ _ (whole_here tail_form s i c g h w) refl)
