-- A level of two records: its groups and paths are in the records, and what is found at their places is what is found of the levels read there.
use Prim.Native.Nat.{ℕ, suc, ◌+◌, ◌-◌, ◌*◌, ◌<◌, ◌≤◌}
use mathlib.Core.Path.{◌≡◌, refl, sym, ◌∙◌}
use mathlib.Core.Bool.{true}
use mathlib.Core.List.{List}
use Rattle.std.specs.Prelude.{Option, Some, None, IsSome}
use Rattle.compare_pick.proofs.Picked.{picked_first, picked_none, picked_later}
use native.Mathlib.Omega.{arith}
use native.Mathlib.Numerals.{add-one}
use lib.ListN.{length, drop}
use Rattle.theory_record.specs.Format.{level_form, level_read, whole_items, items_of, record_items}
use Rattle.theory_record.specs.Query.{pair_of}
use Rattle.theory_record.proofs.Query.{Holds, AllHold, QueryAccepted}
use Rattle.record_reader.specs.helpers.Places.{level_at}
use Rattle.record_reader.specs.declared.Level.{Level}
use Rattle.record_reader.proofs.Places.{level-places, level-here}
use Rattle.record_opening.specs.helpers.Opening.{values_at, digests_at, Readable, Sized}
use Rattle.record_opening.proofs.Numbers.{length-values, length-digests}
use Rattle.record_query_check.specs.helpers.Level.{Allowed, Whole}
use Rattle.record_query_check.proofs.Level.{pair_small, level-room}
use Rattle.record_query_check.proofs.Loop.{begin_within, begin_whole, rest-there}
use Rattle.theory_compare.specs.Compare.{pair_found}
use Rattle.compare_opening.specs.helpers.Messages.{found_at}
use Rattle.compare_pick.specs.helpers.Chains.{Picked}
use Rattle.compare_levels.specs.helpers.Levels.{places_found, LevelSized}
use Rattle.theory_record.specs.Scheme.{Scheme, width_at, depth_at}

pub places-found : (S : Scheme) (l q : ℕ) (s : List ℕ) (i : ℕ) (x : Level) (t : List ℕ) (j : ℕ) (y : Level) → Some x ≡ level_at s i → Some y ≡ level_at t j
    → places_found S l q s x t y ≡ pair_found S l q (level_read (drop i s)) (level_read (drop j t))
unfolding places_found pair_found values_at digests_at level_read
places-found S l q s i x t j y ex ey =
    let p = level-places s i x ex in
    let r = level-places t j y ey in
    rw (add-one, p.a_group, p.a_path_there, p.c_group, p.c_path_there, r.a_group, r.a_path_there, r.c_group, r.c_path_there)

-- what was picked at path a, or, where nothing was, at path c
module _ (S : Scheme) (l q : ℕ) (s : List ℕ) (x : Level) (t : List ℕ) (y : Level) {old old' mid mid' : List ℕ} {first : ℕ} (e : first ≡ 2 * q) where
  pub at-path-a : {m : ℕ} → Picked (found_at S l first s x.a.group_at x.a.path_at t y.a.group_at y.a.path_at) old old' mid mid' (Some m)
      → Picked (places_found S l q s x t y) old old' mid mid' (Some m)
  unfolding places_found
  at-path-a p = picked_first _ _ _ _ _ _ _ (rw e at p)

  pub at_path_c : {new new' : List ℕ} {r : Option ℕ}
      → Picked (found_at S l first s x.a.group_at x.a.path_at t y.a.group_at y.a.path_at) old old' mid mid' None
      → Picked (found_at S (l + 1) q s x.c.group_at x.c.path_at t y.c.group_at y.c.path_at) mid mid' new new' r
      → Picked (places_found S l q s x t y) old old' new new' r
  unfolding places_found
  at_path_c p = picked_later _ _ _ _ _ _ _ _ _ (picked_none _ _ _ _ _ (rw e at p))

-- what is left of an accepted record, from level l on, which starts at this place: it is there, and 16 to 26 hold of each level
pub record Rest (S : Scheme) (position l : ℕ) (s : List ℕ) (i : ℕ) : Type 0 where
  pub challenges : List ℕ
  pub roots : List ℕ
  pub allowed : Allowed S position challenges roots
  pub within : i ≤ length s
  pub whole : whole_items level_form (S.n - l) (drop i s) ≡ true
  pub hold : AllHold S position challenges roots l (items_of level_form (S.n - l) (drop i s))

pub rest_begin : {S : Scheme} {position : ℕ} {challenges roots s : List ℕ} → QueryAccepted S position challenges roots s → Rest S position 0 s 4
unfolding record_items
rest_begin {S} {position} {challenges} {roots} {s} a =
    let w : Whole S.n s = record { reads_whole = a.reads_whole; levels_are = a.has_n_levels } in
    let r = a.ranges in
    let z : S.n ≡ S.n - 0 = omega arith in
    record {
      challenges = challenges;
      roots = roots;
      allowed = record {
        n_most = r.sizes.n_most;
        k_most = r.sizes.k_most;
        n_least = r.sizes.n_least;
        challenges_long = r.challenges_long;
        roots_long = r.roots_long;
        base_short = r.base_short;
        position_low = a.position_low;
      };
      within = begin_within S.n s w;
      whole = begin_whole S.n s w;
      hold = rw (← z) a.levels_hold;
    }

-- a level of the width and depth that 16 and 17, or 22 and 23, ask for
sized_by : {S : Scheme} {l : ℕ} {s : List ℕ} {group path : ℕ} → Readable S l s group path → length (values_at s group) ≡ width_at S l
    → length (digests_at s path) ≡ depth_at S l → Sized S l s group path
sized_by {s = s} {group = group} {path = path} r w d =
    record { readable = r; width_is = sym (length-values s group) ∙ w; depth_is = sym (length-digests s path) ∙ d }

module _ {S : Scheme} {position l : ℕ} {s : List ℕ} {i : ℕ} (v : Level) (z : Rest S position l s i) (h : l < S.n) (ev : Some v ≡ level_at s i) where
  first_holds : Holds S position z.challenges z.roots l (level_read (drop i s))
      × AllHold S position z.challenges z.roots (suc l) (items_of level_form (S.n - suc l) (level_form.after (drop i s)))
  unfolding items_of
  first_holds = let e : S.n - l ≡ suc (S.n - suc l) = omega arith in rw e at z.hold

  pub level-sized : LevelSized S l s v
  unfolding level_read values_at digests_at
  level-sized =
      let room = level-room l s i v z.allowed h ev in
      let p = level-places s i v ev in
      let f = first_holds.0 in
      let one : l + 1 ≡ suc l = add-one l in
      record {
        a_sized = sized_by room.a_readable (rw p.a_group f.a_width) (rw p.a_path_there f.a_path_there);
        c_sized = sized_by room.c_readable (rw (p.c_group, one) f.c_width) (rw (p.c_path_there, one) f.c_path_there);
      }

  pub rest-next : Rest S position (l + 1) s v.next
  rest-next =
      let p = level-places s i v ev in
      record {
        challenges = z.challenges;
        roots = z.roots;
        allowed = z.allowed;
        within = p.within;
        whole = rest-there S.n l s i v ev h z.whole;
        hold = rw add-one (rw p.after at first_holds.1);
      }

  -- the pair is small
  pub pair-low : (q : ℕ) → q ≡ pair_of position l → q < 16777216
  pair-low q e = pair_small l q z.allowed h e

-- the level that code reads is there
pub read-there : {S : Scheme} {position l : ℕ} {s : List ℕ} {i : ℕ} → Rest S position l s i → l < S.n → (r : Option Level) → r ≡ level_at s i → IsSome r
read-there {S} {position} {l} {s} {i} z h r e =
    let v = level-here s i S.n l h z.whole in
    rw (e ∙ sym v.1) refl
