-- The lanes of a first pass: one that goes nowhere, one of a group and a path that are sized, and what four of them lead to.
use Prim.Native.Nat.{ℕ, zero, suc, ◌+◌, ◌-◌, ◌*◌, ◌^◌, ◌≤◌, ◌<◌}
use mathlib.Core.Path.{◌≡◌, refl, sym, ◌∙◌, ap}
use mathlib.Core.Bool.{Bool, true, false}
use mathlib.Core.List.{List, [], ◌∷◌, map}
use native.Mathlib.Omega.{arith}
use lib.ListN.{length, get_or, take, drop}
use Rattle.theory_laws.specs.Table.{at}
use Rattle.theory_laws.specs.Lists.{part, stored, same, runs, le_value}
use Rattle.theory_laws.proofs.Lists.{length-stored, same_true}
use Rattle.theory_merkle.specs.Tree.{group_of, leaf_digest}
use Rattle.theory_record.specs.declared.Trees.{Trees}
use Rattle.theory_record.specs.Widths.{widths_of}
use Rattle.theory_record.proofs.Widths.{powers, level-shape, depth_le}
use Rattle.theory_record.specs.Scheme.{Scheme, scheme, length_at, width_at, depth_at, domain_at}
use Rattle.tree_four_messages.proofs.Filling.{part-before}
use Rattle.tree_four_ways.proofs.Ways.{part-stored}
use Rattle.tree_four_ways.specs.helpers.Ways.{domain_of, digest_of, Paths, way_up, lane_values, GroupsThere}
use Rattle.tree_walk.proofs.Climb.{root_by_path}
use Rattle.record_reader.specs.declared.Run.{Run}
use Rattle.record_reader.specs.helpers.Places.{run_at}
use Rattle.record_reader.specs.declared.Opening.{Opening}
use Rattle.record_reader.proofs.Runs.{run_found}
use Rattle.record_reader.specs.helpers.Places.{where_there}
use Rattle.std.specs.Prelude.{Option, Some, None}
use Rattle.std.specs.Option.{is_some}
use Rattle.record_opening.specs.helpers.Opening.{values_from, Sized, Known}
use Rattle.record_opening.proofs.Levels.{sized-room, leads_is}
use Rattle.record_opening.proofs.Numbers.{length-values, length-digests}
use Rattle.tree_four_ways.specs.declared.Lane.{Lane}
use Rattle.tree_four_ways.specs.helpers.Lists.{nowhere, lane_at, counts, groups, places, froms, depths}
use Rattle.record_known.specs.helpers.Known.{Sought, opened_by, LaneAt, EndAt, EndsAt}
use Rattle.record_known.specs.helpers.Lanes.{InRange, farthest, RunSized, or_nowhere, leaf_in, end_from, lane_end, LaneThere, LaneOf, MaybeLaneOf}
use Rattle.record_known.specs.helpers.Lanes.{maybe_at, is_there, OneWidth, FourThere, AllThere, FourDigests, FourLeaves, FourClimbed, end_read, end_at, FourEnds, Ended}

nowhere-there : (s : ℕ) → LaneThere s nowhere
nowhere-there s = record { wide = omega arith; values-there = omega arith; there = omega arith; deep = omega arith; low = omega arith }

-- a lane is there, or goes nowhere
pub maybe-there : (S : Scheme) (l place : ℕ) (s : List ℕ) (group path : ℕ) (lane : Option Lane) → MaybeLaneOf S l place s group path lane
    → LaneThere (length s) (or_nowhere lane)
maybe-there S l place s group path None z = nowhere-there (length s)
maybe-there S l place s group path (Some lane) z = z.lane_there

-- ---- a group and a path that are sized

pub run-sized : (size : ℕ) (s : List ℕ) (i count : ℕ) (v : Run) → i ≤ farthest → Some v ≡ run_at size s i → v.count ≡ count → RunSized size s i count
run-sized size s i count v h e c =
    let f = run_found size s i v e in
    record { near = h; fits = f.fits; count-is = sym f.count-is ∙ c }

pub runs-sized : (how : Trees) {base : List ℕ} {n k l : ℕ} {s : List ℕ} {group path width depth : ℕ} → InRange (scheme how base n k) l
    → RunSized 16 s group width → RunSized 32 s path depth → width ≡ width_at (scheme how base n k) l → depth ≡ depth_at (scheme how base n k) l
    → Sized (scheme how base n k) l s group path
runs-sized how i g p ew ed = record {
  readable = record {
    n_most = i.n_most;
    k_most = i.k_most;
    level_most = i.level_most;
    base_short = i.base_short;
    group_fits = g.fits;
    path_fits = p.fits;
  };
  width_is = g.count-is ∙ ew;
  depth_is = p.count-is ∙ ed;
}

pub sized-lane : (how : Trees) (base : List ℕ) (n k l place : ℕ) (s : List ℕ) (group path count width depth g : ℕ)
    → let S = scheme how base n k in Sized S l s group path → path ≤ farthest
    → count ≡ length_at S l → width ≡ width_at S l → depth ≡ depth_at S l → g ≡ group_of place width
    → LaneOf S l place s group path
    (record { count = count; width = width; group = g; values = group + 4; from = path + 4; depth = depth })
sized-lane how base n k l place s group path count width depth g z near ec ew eh eg =
    let S = scheme how base n k in
    let lane : Lane = record { count = count; width = width; group = g; values = group + 4; from = path + 4; depth = depth } in
    let room = sized-room how z in
    let most = depth_le (widths_of how.set) n k l (level-shape (widths_of how.set) n k l (powers how.set)) in
    let leads = leads_is S l s group path place count width depth (domain_at S l) (lane_end S.digest (domain_at S l) s lane) z
    (root_by_path S.digest (domain_at S l) count width place g (values_from s (group + 4) width) (leaf_in S.digest (domain_at S l) s lane)
    (runs 32 depth (drop (path + 4) s)) _ eg refl refl)
    refl ec ew eh in
    record {
      lane_there = record {
        wide = omega (arith, room.width-le, ew);
        values-there = omega (arith, room.group_room, ew);
        there = omega (arith, room.path_room, eh);
        deep = omega (arith, most, eh, z.readable.n_most, z.readable.k_most);
        low = omega arith;
      };
      both_sized = z;
      leads = leads;
    }

-- ---- four digests one after the other

put_here : (l bs r : List ℕ) (i : ℕ) → r ≡ stored l i bs → length bs ≡ 32 → i + 32 ≤ length l → part 32 i r ≡ bs
put_here l bs r i e n h = ap (part 32 i) e ∙ ap (λ (m : ℕ). part m i (stored l i bs)) (sym n) ∙ part-stored i l bs (omega arith)

put_later : (l bs r : List ℕ) (i j : ℕ) → r ≡ stored l i bs → j + 32 ≤ i → part 32 j r ≡ part 32 j l
put_later l bs r i j e h = ap (part 32 j) e ∙ part-before 32 j l i bs h

pub four_put : (z p q r t a b c d : List ℕ) → length z ≡ 128 → length a ≡ 32 → length b ≡ 32 → length c ≡ 32 → length d ≡ 32
    → p ≡ stored z 0 a → q ≡ stored p 32 b → r ≡ stored q 64 c → t ≡ stored r 96 d → FourDigests a b c d t
four_put z p q r t a b c d room la lb lc ld ep eq er et =
    let lp : length p ≡ 128 = ap length ep ∙ length-stored z 0 a ∙ room in
    let lq : length q ≡ 128 = ap length eq ∙ length-stored p 32 b ∙ lp in
    let lr : length r ≡ 128 = ap length er ∙ length-stored q 64 c ∙ lq in
    record {
      first = put_later r d t 96 0 et (omega arith) ∙ put_later q c r 64 0 er (omega arith) ∙ put_later p b q 32 0 eq (omega arith)
          ∙ put_here z a p 0 ep la (omega arith);
      second = put_later r d t 96 32 et (omega arith) ∙ put_later q c r 64 32 er (omega arith) ∙ put_here p b q 32 eq lb (omega arith);
      third = put_later r d t 96 64 et (omega arith) ∙ put_here q c r 64 er lc (omega arith);
      fourth = put_here r d t 96 et ld (omega arith);
    }

-- ---- four lanes

four : (P : ℕ → Type 0) → P 0 → P 1 → P 2 → P 3 → (k : ℕ) → k < 4 → P k
four P a b c d zero h = a
four P a b c d (suc zero) h = b
four P a b c d (suc (suc zero)) h = c
four P a b c d (suc (suc (suc zero))) h = d
four P a b c d (suc (suc (suc (suc k)))) h = absurd (omega arith)

-- what `larger` says of two depths
abbrev Larger : ℕ → ℕ → ℕ → Type 0
Larger a b r = (a ≤ r) × (b ≤ r) × (r ≤ 24)

pub paths_there : (v : List Lane) (s x y z : ℕ) → FourThere s v → Larger (lane_at v 0).depth (lane_at v 1).depth x
    → Larger (lane_at v 2).depth (lane_at v 3).depth y → Larger x y z → Paths (froms v) (depths v) z s
paths_there v s x y z f ab cd all =
    let t : (k : ℕ) → k < 4 → LaneThere s (lane_at v k) = f.there_at in
    record {
      deep = omega (arith, all.2);
      there = four (λ k. at (froms v) k + 32 * at (depths v) k ≤ s) (t 0 (omega arith)).there (t 1 (omega arith)).there (t 2 (omega arith)).there (t 3 (omega arith)).there;
      within = four (λ k. at (depths v) k ≤ z) (omega (arith, ab.0, all.0)) (omega (arith, ab.1, all.0)) (omega (arith, cd.0, all.1)) (omega (arith, cd.1, all.1));
      low = four (λ k. at (froms v) k < 2 ^ 62) (t 0 (omega arith)).low (t 1 (omega arith)).low (t 2 (omega arith)).low (t 3 (omega arith)).low;
    }

pub ends_of : (H : List ℕ → List ℕ) (domains : List ℕ) (size : ℕ) (s : List ℕ) (v : List Lane) (there : List Bool) (leaves r : List ℕ)
    → FourLeaves H domains size s v there leaves
    → ((k : ℕ) → k < 4 → digest_of r k ≡ way_up H domains size (groups v) leaves s (froms v) (depths v) k) → FourClimbed H domains size s v there r
ends_of H domains size s v there leaves r l e = record {
  climbed = four (λ k. is_there there k ≡ true → digest_of r k ≡ lane_end H (domain_of domains size k) s (lane_at v k))
      (λ h. e 0 (omega arith) ∙ ap (end_from H (domain_of domains size 0) s (lane_at v 0)) (l.leaf 0 (omega arith) h))
      (λ h. e 1 (omega arith) ∙ ap (end_from H (domain_of domains size 1) s (lane_at v 1)) (l.leaf 1 (omega arith) h))
      (λ h. e 2 (omega arith) ∙ ap (end_from H (domain_of domains size 2) s (lane_at v 2)) (l.leaf 2 (omega arith) h))
      (λ h. e 3 (omega arith) ∙ ap (end_from H (domain_of domains size 3) s (lane_at v 3)) (l.leaf 3 (omega arith) h));
}

-- ---- leaves

pub groups-there : (v : List Lane) (s : ℕ) → FourThere s v → OneWidth v → GroupsThere (places v) (lane_at v 0).width s
groups-there v s f w =
    let t : (k : ℕ) → k < 4 → LaneThere s (lane_at v k) = f.there_at in (
      (t 0 (omega arith)).wide,
      four (λ k. at (places v) k + 16 * (lane_at v 0).width ≤ s) (t 0 (omega arith)).values-there
          (let h = (t 1 (omega arith)).values-there in omega (arith, h, w.second))
          (let h = (t 2 (omega arith)).values-there in omega (arith, h, w.third))
          (let h = (t 3 (omega arith)).values-there in omega (arith, h, w.fourth)),
    )

pub leaves-at-once : (H : List ℕ → List ℕ) (domains : List ℕ) (size : ℕ) (s : List ℕ) (v : List Lane) (there : List Bool) (r : List ℕ) → OneWidth v
    → ((k : ℕ) → k < 4 → digest_of r k
    ≡ leaf_digest H (domain_of domains size k) (at (counts v) k) (lane_at v 0).width (at (groups v) k) (lane_values s (places v) (lane_at v 0).width k))
    → FourLeaves H domains size s v there r
unfolding values_from
leaves-at-once H domains size s v there r w e =
    let leaf : ℕ → Lane → ℕ → List ℕ =
    λ k lane width. leaf_digest H (domain_of domains size k) lane.count width lane.group (map le_value (runs 16 width (drop lane.values s))) in
    record {
      leaf = four (λ k. is_there there k ≡ true → digest_of r k ≡ leaf_in H (domain_of domains size k) s (lane_at v k))
          (λ h. e 0 (omega arith))
          (λ h. e 1 (omega arith) ∙ ap (leaf 1 (lane_at v 1)) (sym w.second))
          (λ h. e 2 (omega arith) ∙ ap (leaf 2 (lane_at v 2)) (sym w.third))
          (λ h. e 3 (omega arith) ∙ ap (leaf 3 (lane_at v 3)) (sym w.fourth));
    }

-- the domain of a lane, as it is lent
lent_as : (domains : List ℕ) (from to size k : ℕ) → from ≡ 256 * k → to ≡ from + size → take (to - from) (drop from domains) ≡ domain_of domains size k
unfolding part
lent_as domains from to size k e et =
    let z : to - from ≡ size = omega arith in
    rw (z, e)

pub leaves-one_by_one : (H : List ℕ → List ℕ) (domains : List ℕ) (size : ℕ) (s : List ℕ) (v : List Lane) (there : List Bool) (i j l m r : List ℕ)
    → (is_there there 0 ≡ true → i ≡ leaf_in H (take (size - 0) (drop 0 domains)) s (lane_at v 0))
    → (is_there there 1 ≡ true → j ≡ leaf_in H (take (256 + size - 256) (drop 256 domains)) s (lane_at v 1))
    → (is_there there 2 ≡ true → l ≡ leaf_in H (take (512 + size - 512) (drop 512 domains)) s (lane_at v 2))
    → (is_there there 3 ≡ true → m ≡ leaf_in H (take (768 + size - 768) (drop 768 domains)) s (lane_at v 3))
    → FourDigests i j l m r → FourLeaves H domains size s v there r
unfolding part
leaves-one_by_one H domains size s v there i j l m r ei ej el em f = record {
  leaf = four (λ k. is_there there k ≡ true → digest_of r k ≡ leaf_in H (domain_of domains size k) s (lane_at v k))
      (λ h. f.first ∙ ei h ∙ ap (λ (x : List ℕ). leaf_in H x s (lane_at v 0)) (lent_as domains 0 size size 0 refl (omega arith)))
      (λ h. f.second ∙ ej h ∙ ap (λ (x : List ℕ). leaf_in H x s (lane_at v 1)) (lent_as domains 256 _ size 1 refl refl))
      (λ h. f.third ∙ el h ∙ ap (λ (x : List ℕ). leaf_in H x s (lane_at v 2)) (lent_as domains 512 _ size 2 refl refl))
      (λ h. f.fourth ∙ em h ∙ ap (λ (x : List ℕ). leaf_in H x s (lane_at v 3)) (lent_as domains 768 _ size 3 refl refl));
}

-- ---- ends

-- four lanes, or nowhere where there is none
pub all_or_nowhere : (s : ℕ) (lanes : List (Option Lane)) (a b c d : Lane) → AllThere s lanes → a ≡ or_nowhere (maybe_at lanes 0) → b ≡ or_nowhere (maybe_at lanes 1)
    → c ≡ or_nowhere (maybe_at lanes 2) → d ≡ or_nowhere (maybe_at lanes 3) → FourThere s (a ∷ b ∷ c ∷ d ∷ [])
all_or_nowhere s lanes a b c d z ea eb ec ed = record {
  there_at = four (λ k. LaneThere s (lane_at (a ∷ b ∷ c ∷ d ∷ []) k)) (rw ea (z.there_at 0 (omega arith))) (rw eb (z.there_at 1 (omega arith)))
      (rw ec (z.there_at 2 (omega arith))) (rw ed (z.there_at 3 (omega arith)));
}

-- what is read of a lane that is there is where it leads to
read-lane : (H : List ℕ → List ℕ) (domain s digest : List ℕ) (o : Option Lane) (lane : Lane) (there : Bool) → there ≡ is_some o
    → (there ≡ true → digest ≡ lane_end H domain s lane) → lane ≡ or_nowhere o → end_read o digest ≡ end_at H domain s o
read-lane H domain s digest None lane there p e f = refl
read-lane H domain s digest (Some x) lane there p e f = ap (λ (d : List ℕ). Some d) (e p ∙ ap (lane_end H domain s) f)

pub ends_read : (H : List ℕ → List ℕ) (domains : List ℕ) (size : ℕ) (s : List ℕ) (lanes : List (Option Lane)) (a b c d : Lane) (p q u v : Bool)
    (digests : List ℕ) (i j l m : Option (List ℕ)) → p ≡ is_some (maybe_at lanes 0) → q ≡ is_some (maybe_at lanes 1) → u ≡ is_some (maybe_at lanes 2)
    → v ≡ is_some (maybe_at lanes 3) → a ≡ or_nowhere (maybe_at lanes 0) → b ≡ or_nowhere (maybe_at lanes 1) → c ≡ or_nowhere (maybe_at lanes 2)
    → d ≡ or_nowhere (maybe_at lanes 3) → FourClimbed H domains size s (a ∷ b ∷ c ∷ d ∷ []) (p ∷ q ∷ u ∷ v ∷ []) digests
    → i ≡ end_read (maybe_at lanes 0) (digest_of digests 0) → j ≡ end_read (maybe_at lanes 1) (digest_of digests 1)
    → l ≡ end_read (maybe_at lanes 2) (digest_of digests 2) → m ≡ end_read (maybe_at lanes 3) (digest_of digests 3)
    → FourEnds H domains size s lanes (i ∷ j ∷ l ∷ m ∷ [])
ends_read H domains size s lanes a b c d p q u v digests i j l m ep eq eu ev ea eb ec ed z ei ej el em = record {
  ends = four (λ k. get_or (i ∷ j ∷ l ∷ m ∷ []) k None ≡ end_at H (domain_of domains size k) s (maybe_at lanes k))
      (ei ∙ read-lane H _ s _ (maybe_at lanes 0) a p ep (z.climbed 0 (omega arith)) ea)
      (ej ∙ read-lane H _ s _ (maybe_at lanes 1) b q eq (z.climbed 1 (omega arith)) eb)
      (el ∙ read-lane H _ s _ (maybe_at lanes 2) c u eu (z.climbed 2 (omega arith)) ec)
      (em ∙ read-lane H _ s _ (maybe_at lanes 3) d v ev (z.climbed 3 (omega arith)) ed);
}

-- ---- what a lane makes known

pub lane-ended : (S : Scheme) (l place : ℕ) (s : List ℕ) (group path : ℕ) (lane : Option Lane) (domain : List ℕ) (end : Option (List ℕ))
    → MaybeLaneOf S l place s group path lane → end ≡ end_at S.digest domain s lane → domain ≡ domain_at S l → Ended S l place s group path end
lane-ended S l place s group path None domain end of e ed = rw e tt
lane-ended S l place s group path (Some lane) domain end of e ed =
    rw e (record { both_sized = of.both_sized; end_is = ap (λ (d : List ℕ). lane_end S.digest d s lane) ed ∙ of.leads })

pub ended-known : (S : Scheme) (l place : ℕ) (s : List ℕ) (at : Opening) (end : Option (List ℕ)) (root : List ℕ)
    → Ended S l place s at.group_at at.path_at end → Known S l place s (opened_by at end root) root
ended-known S l place s at None root of = tt
ended-known S l place s at (Some end) root came = go (same end root) refl
  where
    go : (b : Bool) → same end root ≡ b → Known S l place s (where_there b at) root
    go false z = tt
    go true z =
        record {
          group_fits = came.both_sized.readable.group_fits;
          path_fits = came.both_sized.readable.path_fits;
          width_is = length-values s at.group_at ∙ came.both_sized.width_is;
          depth_is = length-digests s at.path_at ∙ came.both_sized.depth_is;
          root_is = sym came.end_is ∙ same_true end root z;
        }

-- four lanes that led to their openings' ends
pub lanes-ended : (S : Scheme) (w : Sought) (s : List ℕ) (openings : List Opening) (which : ℕ → ℕ) (domains : List ℕ) (size : ℕ) (a b c d : Option Lane)
    (ends : List (Option (List ℕ))) → LaneAt S w s openings (which 0) a → LaneAt S w s openings (which 1) b → LaneAt S w s openings (which 2) c
    → LaneAt S w s openings (which 3) d → FourEnds S.digest domains size s (a ∷ b ∷ c ∷ d ∷ []) ends
    → ((j : ℕ) → j < 4 → domain_of domains size j ≡ domain_at S (w.level (which j))) → EndsAt S w s openings which ends
lanes-ended S w s openings which domains size a b c d ends la lb lc ld z e =
    record {
      end_of = four (λ j. EndAt S w s openings (which j) (get_or ends j None))
          (lane-ended S _ _ s _ _ a _ _ la (z.ends 0 (omega arith)) (e 0 (omega arith)))
          (lane-ended S _ _ s _ _ b _ _ lb (z.ends 1 (omega arith)) (e 1 (omega arith)))
          (lane-ended S _ _ s _ _ c _ _ lc (z.ends 2 (omega arith)) (e 2 (omega arith)))
          (lane-ended S _ _ s _ _ d _ _ ld (z.ends 3 (omega arith)) (e 3 (omega arith)));
    }

pub lanes-there : (S : Scheme) (w : Sought) (s : List ℕ) (openings : List Opening) (p q r t : ℕ) (a b c d : Option Lane) → LaneAt S w s openings p a
    → LaneAt S w s openings q b → LaneAt S w s openings r c → LaneAt S w s openings t d → AllThere (length s) (a ∷ b ∷ c ∷ d ∷ [])
lanes-there S w s openings p q r t a b c d la lb lc ld = record {
  there_at = four (λ k. LaneThere (length s) (or_nowhere (maybe_at (a ∷ b ∷ c ∷ d ∷ []) k))) (maybe-there S _ _ s _ _ a la) (maybe-there S _ _ s _ _ b lb)
      (maybe-there S _ _ s _ _ c lc) (maybe-there S _ _ s _ _ d ld);
}
