-- Two openings of one record with the same bytes: what is known of the one holds of the other.
use Prim.Native.Nat.{ℕ, ◌+◌, ◌*◌, ◌/◌, ◌<◌, ◌≤◌}
use mathlib.Core.Path.{◌≡◌, refl, sym, ◌∙◌, ap, ap₂}
use mathlib.Core.Bool.{Bool, true, false, ◌&&◌}
use mathlib.Core.List.{List, ◌++◌, map}
use native.Mathlib.Omega.{arith}
use borrow.Author.Tests.{eq-eqb, eqb-true}
use lib.Dec.{eqb}
use Rattle.std.specs.Prelude.{Option, Some}
use lib.ListN.{length, drop}
use Rattle.theory_laws.specs.Lists.{part, runs, same, le_value}
use Rattle.theory_laws.proofs.Lists.{part-add, same_true, same_refl}
use Rattle.theory_record.specs.Format.{run_count, run_fits, run_items}
use Rattle.theory_record.proofs.Runs.{items-there}
use Rattle.theory_record.proofs.Widths.{PowersOfTwo, level-shape, width-even}
use Rattle.record_reader.specs.declared.Opening.{Opening}
use Rattle.record_opening.specs.helpers.Opening.{values_at, digests_at, opening_number, Leads, Known}
use Rattle.record_opening.specs.helpers.Again.{SizedOld, Same}
use Rattle.record_opening.proofs.Levels.{run_room}
use Rattle.record_opening.proofs.Numbers.{length-values, length-digests}
use Rattle.theory_record.specs.Widths.{Widths, level_width}
use Rattle.theory_record.specs.Scheme.{Scheme, width_at, depth_at}

-- an answer of no claims nothing
pub no_claim : {A : Type 0} → false ≡ true → A
no_claim e = absurd (never e)
  where
    never : false ≡ true → ⊥
    never e = let z : ◌≡◌ {A = ℕ} 0 1 = cc in omega arith

-- ---- items of 32 bytes

module _ (s : List ℕ) (i j t : ℕ) (h : part (32 * t) i s ≡ part (32 * t) j s) where
  pub items-step : (d e : List ℕ) (b : Bool) → d ≡ part 32 (i + 32 * t) s → e ≡ part 32 (j + 32 * t) s → b ≡ same d e → b ≡ true
      → part (32 * (t + 1)) i s ≡ part (32 * (t + 1)) j s
  items-step d e b ed ee eb f =
      let z : 32 * (t + 1) ≡ 32 * t + 32 = omega arith in
      let q : d ≡ e = same_true d e (sym eb ∙ f) in
      rw z (part-add (32 * t) 32 i s ∙ ap₂ (λ (x y : List ℕ). x ++ y) h (sym ed ∙ q ∙ ee) ∙ sym (part-add (32 * t) 32 j s))

  pub items_end : (count : ℕ) → t ≤ count → count ≤ t → part (32 * count) i s ≡ part (32 * count) j s
  items_end count a b = let z : count ≡ t = omega arith in rw z h

pub items_begin : (s : List ℕ) (i j : ℕ) → part (32 * 0) i s ≡ part (32 * 0) j s
unfolding part
items_begin s i j = refl

-- ---- two openings

items-same : (size c : ℕ) (s : List ℕ) (i j : ℕ) → run_count (drop i s) ≡ c → run_count (drop j s) ≡ c
    → part (size * c) (i + 4) s ≡ part (size * c) (j + 4) s → run_items size (drop i s) ≡ run_items size (drop j s)
items-same size c s i j a b e = items-there size s i c a ∙ ap (runs size c) e ∙ sym (items-there size s j c b)

pub record BothRoom (len group path : ℕ) (old : Opening) (width depth : ℕ) : Type 0 where
  pub group_room : group + 4 + 32 * (width / 2) ≤ len
  pub old_group_room : old.group_at + 4 + 32 * (width / 2) ≤ len
  pub path_room : path + 4 + 32 * depth ≤ len
  pub old_path_room : old.path_at + 4 + 32 * depth ≤ len

pub both-room : (s : List ℕ) (group path : ℕ) (old : Opening) (width depth x y : ℕ) → run_fits 16 (drop group s) ≡ true
    → run_fits 32 (drop path s) ≡ true → width ≡ 2 * (width / 2) → SizedOld s old width depth
    → x ≡ run_count (drop group s) → x ≡ width → y ≡ run_count (drop path s) → y ≡ depth → BothRoom (length s) group path old width depth
both-room s group path old width depth x y fg fp even o ex zx ey zy =
    let a = run_room 16 s group fg in
    let b = run_room 16 s old.group_at o.group_fits in
    let c = run_room 32 s path fp in
    let d = run_room 32 s old.path_at o.path_fits in
    record {
      group_room = omega arith;
      old_group_room = omega (arith, o.width_is);
      path_room = omega arith;
      old_path_room = omega (arith, o.depth_is);
    }

pub openings_same : (s : List ℕ) (group path : ℕ) (old : Opening) (width depth x y : ℕ) → x ≡ run_count (drop group s)
    → x ≡ width → y ≡ run_count (drop path s) → y ≡ depth → SizedOld s old width depth → width ≡ 2 * (width / 2)
    → part (32 * (width / 2)) (group + 4) s ≡ part (32 * (width / 2)) (old.group_at + 4) s
    → part (32 * depth) (path + 4) s ≡ part (32 * depth) (old.path_at + 4) s
    → Same s group path old
unfolding values_at digests_at
openings_same s group path old width depth x y ex zx ey zy o even g p =
    let m : 32 * (width / 2) ≡ 16 * width = omega arith in
    record {
      values_same = ap (map le_value) (items-same 16 width s group old.group_at (sym ex ∙ zx) o.width_is (rw m at g));
      digests_same = items-same 32 depth s path old.path_at (sym ey ∙ zy) o.depth_is p;
    }

-- what is known leads to the root
pub known-leads : (S : Scheme) (l place : ℕ) (s : List ℕ) (known : Option Opening) (old : Opening) (root : List ℕ) → known ≡ Some old
    → Known S l place s known root → Leads S l place s old.group_at old.path_at root
known-leads S l place s known old root e z = rw e at z

module _ (S : Scheme) (l place : ℕ) (s : List ℕ) (old : Opening) (root : List ℕ) (z : Leads S l place s old.group_at old.path_at root) where
  pub sized-old : (width depth : ℕ) → width ≡ width_at S l → depth ≡ depth_at S l → SizedOld s old width depth
  sized-old width depth ew ed =
      record {
        group_fits = z.group_fits;
        path_fits = z.path_fits;
        width_is = sym (length-values s old.group_at) ∙ z.width_is ∙ sym ew;
        depth_is = sym (length-digests s old.path_at) ∙ z.depth_is ∙ sym ed;
      }

  pub again-right : (group path first : ℕ) → Same s group path old → 0 ≡ opening_number S l place (values_at s group) (digests_at s path) root first
  unfolding opening_number
  again-right group path first e =
      rw (
        e.values_same,
        e.digests_same,
        eq-eqb (length (values_at s old.group_at)) (width_at S l) z.width_is,
        eq-eqb (length (digests_at s old.path_at)) (depth_at S l) z.depth_is,
        z.root_is,
        same_refl root,
      )

-- every level but the last has an even width
pub even-width : (s : Widths) (p : PowersOfTwo s) (n k l width : ℕ) → l < n → width ≡ level_width s n k l → width ≡ 2 * (width / 2)
even-width s p n k l width h e = rw e (width-even s n k l (level-shape s n k l p) (omega arith))

both_yes : (x y : Bool) → true ≡ x && y → (x ≡ true) × (y ≡ true)
both_yes true true e = (refl, refl)
both_yes true false e = no_claim (sym e)
both_yes false y e = no_claim (sym e)

-- an opening that is another has its bytes
pub same_at : (s : List ℕ) (old at : Opening) → true ≡ eqb old.group_at at.group_at && eqb old.path_at at.path_at → Same s at.group_at at.path_at old
same_at s old at e =
    let b = both_yes _ _ e in
    record {
      values_same = ap (values_at s) (sym (eqb-true old.group_at at.group_at b.0));
      digests_same = ap (digests_at s) (sym (eqb-true old.path_at at.path_at b.1));
    }
