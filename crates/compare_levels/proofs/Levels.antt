-- The loop over the levels of two records: nothing was found below level l, so that the buffers are as they were.
use Prim.Native.Nat.{ℕ, suc, ◌+◌, ◌-◌, ◌<◌, ◌≤◌}
use mathlib.Core.Path.{◌≡◌, refl, sym, ◌∙◌, ap}
use mathlib.Core.List.{List}
use Rattle.std.specs.Prelude.{Option, Some, None}
use native.Mathlib.Omega.{arith}
use native.Mathlib.Numerals.{add-one}
use lib.ListN.{drop}
use Rattle.theory_merkle.specs.Binding.{Found, none, or_else}
use Rattle.theory_record.specs.Format.{level_form, items_of, record_items}
use Rattle.theory_record.specs.Query.{pair_of}
use Rattle.record_reader.specs.helpers.Places.{level_at}
use Rattle.record_reader.specs.declared.Level.{Level}
use Rattle.record_reader.proofs.Places.{level-places}
use Rattle.theory_compare.specs.Compare.{levels_found, records_found}
use Rattle.compare_pick.specs.helpers.Chains.{Picked}
use Rattle.compare_pick.proofs.Picked.{picked_first, picked_none}
use Rattle.compare_levels.specs.helpers.Levels.{places_found}
use Rattle.compare_levels.proofs.Level.{places-found}
use Rattle.theory_record.specs.Scheme.{Scheme}

-- what is found from level l on, which starts at these places of two records
unfoldable pub found_from : Scheme → ℕ → ℕ → List ℕ → ℕ → List ℕ → ℕ → Found
found_from S position l s i t j = levels_found S position l (items_of level_form (S.n - l) (drop i s)) (items_of level_form (S.n - l) (drop j t))

pub found_begin : (S : Scheme) (position : ℕ) (s t : List ℕ) → found_from S position 0 s 4 t 4 ≡ records_found S position s t
unfolding found_from records_found record_items
found_begin S position s t = let z : S.n - 0 ≡ S.n = omega arith in rw z

-- nothing was found below level l: what is found from there on is found of the records, and the buffers are as they were
pub record NoneBelow (S : Scheme) (position l : ℕ) (s : List ℕ) (i : ℕ) (t : List ℕ) (j : ℕ) (F : Found) (old old' mid mid' : List ℕ) : Type 0 where
  pub from_here : found_from S position l s i t j ≡ F
  pub first_same : mid ≡ old
  pub second_same : mid' ≡ old'

-- the two levels that code read, and the messages that it picked of them
pub record LevelPicked (S : Scheme) (position l : ℕ) (s : List ℕ) (i : ℕ) (x : Level) (t : List ℕ) (j : ℕ) (y : Level)
    (mid mid' new new' : List ℕ) (m : Option ℕ) : Type 0 where
  pub first_read : Some x ≡ level_at s i
  pub second-read : Some y ≡ level_at t j
  pub picked : Picked (places_found S l (pair_of position l) s x t y) mid mid' new new' m

pub level-picked : {S : Scheme} {position l q : ℕ} {s : List ℕ} {i : ℕ} {x : Level} {t : List ℕ} {j : ℕ} {y : Level} {mid mid' new new' : List ℕ} {m : Option ℕ}
    → Some x ≡ level_at s i → Some y ≡ level_at t j → q ≡ pair_of position l → Picked (places_found S l q s x t y) mid mid' new new' m
    → LevelPicked S position l s i x t j y mid mid' new new' m
level-picked ex ey eq p = record { first_read = ex; second-read = ey; picked = rw (← eq) p }

module _ {S : Scheme} {position l : ℕ} {s : List ℕ} {i : ℕ} {t : List ℕ} {j : ℕ} {F : Found} {old old' mid mid' : List ℕ}
    (z : NoneBelow S position l s i t j F old old' mid mid') where
  module _ {x y : Level} {new new' : List ℕ} (h : l < S.n) where
    found-level : {m : Option ℕ} (p : LevelPicked S position l s i x t j y mid mid' new new' m) → found_from S position l s i t j
        ≡ or_else (places_found S l (pair_of position l) s x t y) (found_from S position (l + 1) s x.next t y.next)
    unfolding found_from levels_found items_of
    found-level p =
        let e : S.n - l ≡ suc (S.n - suc l) = omega arith in
        let ex = p.first_read in
        let ey = p.second-read in
        rw (add-one, e, places-found S l (pair_of position l) s i x t j y ex ey, (level-places s i x ex).after, (level-places t j y ey).after)

    pub level_stop : {m : ℕ} → LevelPicked S position l s i x t j y mid mid' new new' (Some m) → Picked F old old' new new' (Some m)
    level_stop p =
        rw (← z.first_same, ← z.second_same, sym z.from_here ∙ found-level p)
        (picked_first _ (found_from S position (l + 1) s x.next t y.next) mid mid' new new' _ p.picked)

    pub level-next : LevelPicked S position l s i x t j y mid mid' new new' None → NoneBelow S position (l + 1) s x.next t y.next F old old' new new'
    level-next p =
        let u = picked_none _ mid mid' new new' p.picked in
        record {
          from_here =
              ap (λ (f : Found). or_else f (found_from S position (l + 1) s x.next t y.next)) (sym u.found_none) ∙ sym (found-level p) ∙ z.from_here;
          first_same = u.first_same ∙ z.first_same;
          second_same = u.second_same ∙ z.second_same;
        }

  pub levels_end : S.n ≤ l → Picked F old old' mid mid' None
  unfolding found_from levels_found items_of
  levels_end h =
      let e : S.n - l ≡ 0 = omega arith in
      let f : none ≡ F = rw e at z.from_here in
      rw (← f) (record { first-is = z.first_same; second_is = z.second_same; answer = refl })
