-- The groups of a tail record, one after the other, and the claim.
use Prim.Native.Nat.{ℕ, zero, suc, ◌+◌, ◌-◌, ◌*◌, ◌^◌, ◌<◌, ◌≤◌}
use mathlib.Core.Path.{◌≡◌, sym, ◌∙◌, ap}
use mathlib.Core.Bool.{Bool, true, false}
use mathlib.Core.List.{List, map}
use native.Mathlib.Nat.{mul-le-mul_left, mul-le-mul_right}
use native.Mathlib.Omega.{arith}
use lib.Dec.{eqb}
use lib.ListN.{length, drop}
use lib.Pow.{pow_mono}
use Rattle.theory_laws.specs.Table.{at}
use Rattle.theory_laws.specs.Questions.{first_no}
use Rattle.theory_laws.specs.Lists.{part, runs, le_value}
use Rattle.theory_laws.proofs.Lists.{both_true}
use Rattle.field_gf128.specs.Word.{word}
use Rattle.record_reader.specs.helpers.Places.{group_at}
use Rattle.record_reader.specs.declared.TailGroup.{TailGroup}
use Rattle.record_reader.proofs.Places.{group_places, group_more}
use Rattle.theory_record.specs.declared.Trees.{Trees}
use Rattle.theory_record.specs.Widths.{widths_of, level_width, level_groups}
use Rattle.theory_record.specs.Format.{tail_form, tail_group_of, tail_group_fits, from_tail_path, run_fits, run_count, run_items, whole_items, items_of, record_items}
use Rattle.theory_record.specs.Tail.{first_value, group_questions}
use Rattle.theory_record.proofs.Reading.{check_groups_from, groups-step, groups_stop, groups_end, whole_counts, whole-items, value-at}
use Rattle.theory_record.proofs.Offsets.{last-length}
use Rattle.theory_record.proofs.Widths.{powers, level-shape, groups-pos, groups-times-width, width-pos}
use Rattle.record_opening.specs.helpers.Opening.{values_at, digests_at, Readable, Known, opening_number}
use Rattle.record_tail_check.specs.helpers.Numbers.{claimed, groups_number, Allowed}
use Rattle.std.specs.Prelude.{Option, Some}
use Rattle.record_reader.specs.declared.Opening.{Opening}
use Rattle.record_known.specs.helpers.Known.{known_of, GroupsLent, GroupsKnown}
use Rattle.theory_record.specs.Scheme.{Scheme, scheme, width_at}

-- ---- the first value

module _ (s : List ℕ) (c m : ℕ) (h : 0 < c) (e : m ≡ run_count (drop 4 s)) where
  pub no_first : m ≡ 0 → word (record { lo = 0; hi = 0 }) ≡ first_value (record_items tail_form c s)
  unfolding first_value record_items items_of tail_group_of run_items runs word
  no_first z = go c h
    where
      go : (c : ℕ) → 0 < c → 0 ≡ first_value (record_items tail_form c s)
      go zero g = absurd (omega arith)
      go (suc c) g = ap (λ (j : ℕ). at (map le_value (runs 16 j (drop 4 (drop 4 s)))) 0) (sym z ∙ e)

  pub first-there : (x : ℕ) → (m ≡ 0 → ⊥) → x ≡ le_value (part 16 8 s) → x ≡ first_value (record_items tail_form c s)
  unfolding first_value record_items items_of tail_group_of
  first-there x z f = go c h
    where
      go : (c : ℕ) → 0 < c → x ≡ first_value (record_items tail_form c s)
      go zero g = absurd (omega arith)
      go (suc c) g = f ∙ sym (value-at s 4 0 (omega arith))

-- ---- what is read is there

module _ (how : Trees) {base : List ℕ} {n k : ℕ} {s : List ℕ} (z : Allowed (scheme how base n k) s) {c : ℕ} (ec : c ≡ level_groups (widths_of how.set) n k n) where
  pub begin_within : 4 ≤ length s
  begin_within = whole_counts tail_form s z.reads_whole

  pub begin_whole : whole_items tail_form (c - 0) (drop 4 s) ≡ true
  begin_whole = whole-items tail_form s c z.reads_whole (z.groups_are ∙ sym ec)

  pub some_group : 0 < c
  some_group = rw ec (groups-pos (widths_of how.set) n k n (level-shape (widths_of how.set) n k n (powers how.set)))

  pub groups-few : c ≤ 16
  groups-few =
      let shape = level-shape (widths_of how.set) n k n (powers how.set) in
      let e : level_groups (widths_of how.set) n k n * level_width (widths_of how.set) n k n ≡ 2 ^ k =
      groups-times-width (widths_of how.set) n k n shape ∙ last-length n k in
      let b : 2 ^ k ≤ 2 ^ 4 = pow_mono {i = k} {j = 4} z.k_most in
      let m : level_groups (widths_of how.set) n k n * 1 ≤ level_groups (widths_of how.set) n k n * level_width (widths_of how.set) n k n =
      mul-le-mul_left (level_groups (widths_of how.set) n k n) (width-pos (widths_of how.set) n k n shape) in
      omega arith

  -- what the first pass is lent
  pub groups-lent : GroupsLent (scheme how base n k) s c
  groups-lent = record {
    in_range = record { n_most = z.n_most; k_most = z.k_most; level_most = omega arith; base_short = z.base_short };
    counted = begin_within;
    count_most = omega (arith, groups-few);
  }

  pub place-small : (g : ℕ) {w : ℕ} → g < c → w ≡ level_width (widths_of how.set) n k n → g * w ≤ 16
  place-small g {w} h ew =
      let e : level_groups (widths_of how.set) n k n * level_width (widths_of how.set) n k n ≡ 2 ^ k =
      groups-times-width (widths_of how.set) n k n (level-shape (widths_of how.set) n k n (powers how.set)) ∙ last-length n k in
      let f : c * w ≡ 2 ^ k = rw (ec, ew) e in
      let b : 2 ^ k ≤ 2 ^ 4 = pow_mono {i = k} {j = 4} z.k_most in
      let m : g * w ≤ c * w = mul-le-mul_right w (omega arith) in
      omega arith

  module _ (g i : ℕ) {v : TailGroup} (ev : Some v ≡ group_at s i) (h : g < c) (w : whole_items tail_form (c - g) (drop i s) ≡ true) where
    pub rest-there : whole_items tail_form (c - (g + 1)) (drop v.next s) ≡ true
    rest-there = group_more s i c g true h w v ev

    pub group_readable : Readable (scheme how base n k) n s v.opening.group_at v.opening.path_at
    unfolding tail_group_fits
    group_readable =
        let p = group_places s i v ev in
        let b = both_true (run_fits 16 (drop i s)) (run_fits 32 (from_tail_path (drop i s))) p.fits in
        record {
          n_most = z.n_most;
          k_most = z.k_most;
          level_most = omega arith;
          base_short = z.base_short;
          group_fits = rw p.begins b.0;
          path_fits = ap (run_fits 32) p.path ∙ b.1;
        }

-- what the first pass knows of it
pub group_known : (S : Scheme) (root s : List ℕ) (ways : List (Option Opening)) (g w first : ℕ) → first ≡ g * w → w ≡ width_at S S.n → GroupsKnown S root s ways
    → Known S S.n first s (known_of ways g) root
group_known S root s ways g w first e ew z = rw (e, ew) (z.known_at g)

-- ---- the loop

-- what is left of the check, from group g on, of c, which starts at place i
unfoldable pub groups_left : Scheme → List ℕ → ℕ → List ℕ → ℕ → ℕ → ℕ → ℕ
groups_left S root claim s c i g = check_groups_from S root s c (claimed S claim s) i g

pub begin_groups : (S : Scheme) (root : List ℕ) (claim : ℕ) (s : List ℕ) (c : ℕ) → c ≡ level_groups S.widths S.n S.k S.n
    → groups_left S root claim s c 4 0 ≡ groups_number S root claim s
unfolding groups_left groups_number record_items
begin_groups S root claim s c e =
    let z : c - 0 ≡ level_groups S.widths S.n S.k S.n = omega arith in
    rw z

module _ (S : Scheme) (root : List ℕ) (claim : ℕ) (s : List ℕ) (c i g : ℕ) {r : ℕ}
    (e : groups_left S root claim s c i g ≡ r) where
  module _ {v : TailGroup} {q w first : ℕ} (ev : Some v ≡ group_at s i) (ef : first ≡ g * w)
      (eq : q ≡ opening_number S S.n first (values_at s v.opening.group_at) (digests_at s v.opening.path_at) root 28)
      (ew : w ≡ level_width S.widths S.n S.k S.n) (h : g < c) where
    number_is : q ≡ first_no (group_questions S root g (tail_group_of (drop i s)))
    unfolding opening_number values_at digests_at tail_group_of
    number_is =
        let p = group_places s i v ev in
        rw (← p.path, ← p.begins)
        (eq ∙ ap (λ (x : ℕ). opening_number S S.n x (values_at s v.opening.group_at) (digests_at s v.opening.path_at) root 28) (ef ∙ ap (λ (x : ℕ). g * x) ew))

    pub group_refused : (q ≡ 0 → ⊥) → q ≡ r
    unfolding groups_left
    group_refused z = groups_stop S root s c (claimed S claim s) i g r q h number_is z e

    pub group_passed : q ≡ 0 → groups_left S root claim s c v.next (g + 1) ≡ r
    unfolding groups_left
    group_passed z = groups-step S root s c (claimed S claim s) i g r v.next q h number_is z (group_places s i v ev).after e

  -- the claim
  module _ (h : c ≤ g) (ec : c ≡ level_groups S.widths S.n S.k S.n) {x : ℕ} {t : Bool} (ex : x ≡ first_value (record_items tail_form c s))
      (et : t ≡ eqb x claim) where
    claim-left : first_no (claimed S claim s) ≡ r
    unfolding groups_left
    claim-left = groups_end S root s c (claimed S claim s) i g r h e

    said : t ≡ eqb (first_value (record_items tail_form (level_groups S.widths S.n S.k S.n) s)) claim
    said = et ∙ ap (λ (y : ℕ). eqb y claim) (ex ∙ ap (λ (j : ℕ). first_value (record_items tail_form j s)) ec)

    pub not_claimed : t ≡ false → 31 ≡ r
    not_claimed f = rw (← said, f) at claim-left

    pub is-claimed : t ≡ true → 0 ≡ r
    is-claimed f = rw (← said, f) at claim-left
