-- The three questions put to a group and a path.
use Prim.Native.Nat.{ℕ, ◌+◌}
use mathlib.Core.Path.{◌≡◌, sym, ◌∙◌, ap}
use mathlib.Core.Bool.{Bool, true, false}
use mathlib.Core.List.{List}
use borrow.Author.Tests.{eq-eqb, ne_eqb}
use lib.ListN.{length, drop, length-map}
use Rattle.theory_laws.specs.Lists.{same, le_value}
use Rattle.theory_record.specs.Trees.{leads_to}
use Rattle.theory_record.specs.Format.{run_count, run_items}
use Rattle.theory_record.proofs.Runs.{length-run_items}
use Rattle.record_opening.specs.helpers.Opening.{values_at, digests_at, Readable, Sized, opening_number}
use Rattle.theory_record.specs.Scheme.{Scheme, width_at, depth_at}

pub length-values : (s : List ℕ) (i : ℕ) → length (values_at s i) ≡ run_count (drop i s)
unfolding values_at
length-values s i = length-map (run_items 16 (drop i s)) le_value ∙ length-run_items 16 (drop i s)

pub length-digests : (s : List ℕ) (i : ℕ) → length (digests_at s i) ≡ run_count (drop i s)
unfolding digests_at
length-digests s i = length-run_items 32 (drop i s)

module _ (S : Scheme) (l place : ℕ) (s : List ℕ) (group path : ℕ) (root : List ℕ) (first x w y h : ℕ) (ex : x ≡ run_count (drop group s))
    (ew : w ≡ width_at S l) where
  pub wrong_width : (x ≡ w → ⊥) → first ≡ opening_number S l place (values_at s group) (digests_at s path) root first
  unfolding opening_number
  wrong_width z = rw (length-values s group, ← ex, ← ew, ne_eqb x w z)

  module _ (z : x ≡ w) (ey : y ≡ run_count (drop path s)) (eh : h ≡ depth_at S l) where
    pub wrong_depth : (y ≡ h → ⊥) → first + 1 ≡ opening_number S l place (values_at s group) (digests_at s path) root first
    unfolding opening_number
    wrong_depth u = rw (length-values s group, ← ex, ← ew, eq-eqb x w z, length-digests s path, ← ey, ← eh, ne_eqb y h u)

    module _ (u : y ≡ h) (d : List ℕ) (t : Bool) (ed : d ≡ leads_to S l place (values_at s group) (digests_at s path)) (et : t ≡ same d root) where
      said : t ≡ same (leads_to S l place (values_at s group) (digests_at s path)) root
      said = et ∙ ap (λ (r : List ℕ). same r root) ed

      pub wrong_root : t ≡ false → first + 2 ≡ opening_number S l place (values_at s group) (digests_at s path) root first
      unfolding opening_number
      wrong_root f = rw (length-values s group, ← ex, ← ew, eq-eqb x w z, length-digests s path, ← ey, ← eh, eq-eqb y h u, ← said, f)

      pub all_right : t ≡ true → 0 ≡ opening_number S l place (values_at s group) (digests_at s path) root first
      unfolding opening_number
      all_right f = rw (length-values s group, ← ex, ← ew, eq-eqb x w z, length-digests s path, ← ey, ← eh, eq-eqb y h u, ← said, f)

pub now_sized : (S : Scheme) (l : ℕ) (s : List ℕ) (group path x w y h : ℕ) → Readable S l s group path → x ≡ run_count (drop group s) → w ≡ width_at S l → x ≡ w
    → y ≡ run_count (drop path s) → h ≡ depth_at S l → y ≡ h → Sized S l s group path
now_sized S l s group path x w y h r ex ew z ey eh u = record { readable = r; width_is = sym ex ∙ z ∙ ew; depth_is = sym ey ∙ u ∙ eh }
