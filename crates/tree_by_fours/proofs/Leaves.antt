-- Four leaves of a tree at once: room for them, and a turn of the loop.
use Prim.Native.Nat.{ℕ, ◌+◌, ◌-◌, ◌*◌, ◌≤◌, ◌<◌}
use mathlib.Core.Path.{◌≡◌, sym, ◌∙◌, ap, ap₂}
use mathlib.Core.List.{List, ◌++◌}
use native.Mathlib.Nat.{le_refl, mul-le-mul_left}
use native.Mathlib.Omega.{arith}
use lib.ListN.{length, take, drop}
use lib.Seq.{drop-drop, take-take}
use Rattle.theory_laws.specs.Lists.{part, runs, flat, stored}
use Rattle.theory_laws.proofs.Lists.{part_same, flat_append, stored-nil}
use Rattle.theory_field.specs.Words.{words}
use Rattle.theory_merkle.specs.Message.{leaf_prefix, leaf_rest, leaf_message}
use Rattle.theory_merkle.specs.Tree.{leaf_digest, leaves_from}
use Rattle.bytes_numbers.specs.helpers.Put.{Put}
use Rattle.tree_four_messages.specs.helpers.Strides.{four, Each}
use Rattle.tree_four_messages.proofs.Values.{group_words, group_of_four}
use Rattle.tree_four_messages.proofs.Whole.{four-ext, four_hashed}
use Rattle.tree_by_fours.proofs.Walk.{put_then}
use Rattle.tree_by_fours.proofs.Splits.{four-leaves, leaves-split}

-- four groups that begin among some groups end within their values
pub four-room : (groups width g : ℕ) → g + 4 ≤ groups → width * g + 4 * width ≤ width * groups
four-room groups width g h =
    let e : width * (g + 4) ≡ width * g + 4 * width = omega arith in
    omega (arith, e, mul-le-mul_left width h)

-- no leaf by fours
pub leaves_none : (H : List ℕ → List ℕ) (domain : List ℕ) (count width first : ℕ) (ws out : List ℕ)
    → out ≡ stored out 0 (flat (leaves_from H domain count width first (runs width 0 ws)))
unfolding leaves_from runs flat
leaves_none H domain count width first ws out = sym (stored-nil out 0)

-- the first turn, and after the last
pub leaves_begin : (H : List ℕ → List ℕ) (domain : List ℕ) (count width first all : ℕ) (ws out : List ℕ)
    → stored out 0 (flat (leaves_from H domain count width (first + 0) (runs width (all - 0) (drop (width * 0) ws))))
    ≡ stored out 0 (flat (leaves_from H domain count width first (runs width all ws)))
leaves_begin H domain count width first all ws out =
    let f : first + 0 ≡ first = omega arith in
    let m : all - 0 ≡ all = omega arith in
    let z : width * 0 ≡ 0 = omega arith in
    rw (f, m, z)

pub leaves_end : (H : List ℕ → List ℕ) (domain : List ℕ) (count width groups g to number : ℕ) (l out r : List ℕ) → groups ≤ g
    → stored out to (flat (leaves_from H domain count width number (runs width (groups - g) l))) ≡ r → out ≡ r
unfolding leaves_from runs flat
leaves_end H domain count width groups g to number l out r h e = let m : groups - g ≡ 0 = omega arith in rw (m, stored-nil) at e

-- ---- a turn: four groups from the g-th of them on, whose number is first + g

module _ (H : List ℕ → List ℕ) (domain : List ℕ) (count width first g : ℕ) (values : List ℕ) (from : ℕ) (begun : from ≡ 2 * (width * g)) where
  -- group k of the four, among those that are left
  four-groups : (k : ℕ) → k < 4 → part width (width * k) (words (take (from + 8 * width - from) (drop from values)))
      ≡ part width (width * k) (drop (width * g) (words values))
  four-groups k h =
      let l : List ℕ = drop (width * g) (words values) in
      let e : words (take (from + 8 * width - from) (drop from values)) ≡ take (4 * width) l
      = group_words values from (8 * width) (4 * width) (width * g) begun (omega arith) in
      let f : width * k + width ≤ 4 * width = omega (arith, group_of_four width k h) in
      ap (part width (width * k)) e ∙ part_same (4 * width) width (width * k) (take (4 * width) l) l
      (take-take (4 * width) (4 * width) l (le_refl (4 * width))) f

  module _ (p : ℕ) (m m' : List ℕ) (sized : length (leaf_prefix domain count width) ≡ p) (kept : Each p m (λ k. leaf_prefix domain count width))
      (filled : Each (p + (24 + 16 * width)) m' (λ k. part p (1024 * k) m ++ leaf_rest width (first + g + k)
      (part width (width * k) (words (take (from + 8 * width - from) (drop from values)))))) where
    -- the digests of the four messages are those of the four groups
    leaves_hashed : flat (four (λ k. H (part (p + (24 + 16 * width)) (1024 * k) m')))
        ≡ flat (leaves_from H domain count width (first + g) (runs width 4 (drop (width * g) (words values))))
    unfolding leaf_digest leaf_message
    leaves_hashed =
        let l : List ℕ = drop (width * g) (words values) in
        let rest : ℕ → List ℕ = λ k. leaf_rest width (first + g + k) (part width (width * k) (words (take (from + 8 * width - from) (drop from values)))) in
        four_hashed (leaf_prefix domain count width) p (24 + 16 * width) rest m m' sized kept filled H
        ∙ ap flat (four-ext (λ k. H (leaf_prefix domain count width ++ rest k))
        (λ k. leaf_digest H domain count width (first + g + k) (part width (width * k) l))
        (λ k h. ap (λ (vs : List ℕ). H (leaf_prefix domain count width ++ leaf_rest width (first + g + k) vs)) (four-groups k h))
        ∙ sym (four-leaves H domain count width (first + g) l))

    pub leaves-turn : (all to next : ℕ) (tree tree' r : List ℕ) → g + 4 ≤ all
        → Put tree to 128 (flat (four (λ k. H (part (p + (24 + 16 * width)) (1024 * k) m')))) tree' next
        → stored tree to (flat (leaves_from H domain count width (first + g) (runs width (all - g) (drop (width * g) (words values))))) ≡ r
        → stored tree' next (flat (leaves_from H domain count width (first + (g + 4)) (runs width (all - (g + 4)) (drop (width * (g + 4)) (words values))))) ≡ r
    leaves-turn all to next tree tree' r lt put e =
        let l : List ℕ = drop (width * g) (words values) in
        let b : ℕ = all - (g + 4) in
        let s : all - g ≡ 4 + b = omega arith in
        let z : width * g + width * 4 ≡ width * (g + 4) = omega arith in
        let four' : List (List ℕ) = leaves_from H domain count width (first + g) (runs width 4 l) in
        let more : List (List ℕ) = leaves_from H domain count width (first + g + 4) (runs width b (drop (width * 4) l)) in
        let split : flat (leaves_from H domain count width (first + g) (runs width (all - g) l)) ≡ flat four' ++ flat more
        = ap (λ i. flat (leaves_from H domain count width (first + g) (runs width i l))) s ∙ ap flat (leaves-split H domain count width (first + g) 4 b l)
        ∙ flat_append four' more in
        ap₂ (λ (i : ℕ) (x : List ℕ). stored tree' next (flat (leaves_from H domain count width i (runs width b x))))
        (let y : first + (g + 4) ≡ first + g + 4 = omega arith in y)
        (ap (λ i. drop i (words values)) (sym z) ∙ sym (drop-drop (width * 4) (width * g) (words values)))
        ∙ put_then tree to 128 (flat four') tree' next (flat more) r (rw leaves_hashed at put) (ap (stored tree to) (sym split) ∙ e)
