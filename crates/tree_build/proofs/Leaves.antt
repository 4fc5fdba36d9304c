-- The turns of the loop that writes the leaves one by one, and the leaves made in two steps.
use Prim.Native.Nat.{ℕ, suc, ◌+◌, ◌-◌, ◌*◌, ◌/◌, ◌^◌, ◌≤◌, ◌<◌}
use mathlib.Core.Path.{◌≡◌, refl, sym, ◌∙◌, ap, ap₂}
use mathlib.Core.List.{List, ◌++◌}
use native.Mathlib.Omega.{arith}
use native.Mathlib.Nat.{mul-suc, mul_comm, mul-le-mul_left}
use native.Mathlib.Numerals.{add-one}
use lib.ListN.{length, take, drop}
use lib.Seq.{drop-drop}
use Rattle.theory_laws.specs.Lists.{runs, flat, stored}
use Rattle.theory_laws.proofs.Lists.{length_runs, flat_append, then_stored}
use Rattle.theory_field.specs.Words.{words}
use Rattle.theory_merkle.specs.Digests.{DigestsLong}
use Rattle.theory_merkle.specs.Message.{leaf_prefix, leaf_rest, leaf_message}
use Rattle.theory_merkle.specs.Shape.{Shape}
use Rattle.theory_merkle.specs.Tree.{depth_of, leaf_digest, leaves_from}
use Rattle.bytes_numbers.specs.helpers.Put.{Put}
use Rattle.tree_digest.specs.helpers.Hashed.{Hashed}
use Rattle.tree_four_messages.proofs.Values.{group_words}
use Rattle.tree_by_fours.proofs.Splits.{length-flat-leaves, leaves-split}
use Rattle.tree_by_fours.proofs.Walk.{put_then}

-- some groups of a tree have at most its values
pub groups-room : (count width groups : ℕ) → Shape count width → groups ≤ count / width → width * groups ≤ count
groups-room count width groups s h = omega (
  arith,
  s.whole,
  s.groups,
  mul-le-mul_left width h,
  ap (λ k. width * k) s.groups,
  mul_comm width (2 ^ depth_of count width),
)

-- one more group ends within the values of some groups
pub group_within : (groups width g : ℕ) → g < groups → width * g + width ≤ width * groups
group_within groups width g h =
    let e : width * suc g ≤ width * groups = mul-le-mul_left width h in
    omega (arith, e, mul-suc width g)

module _ (H : List ℕ → List ℕ) (domain : List ℕ) (count width first g : ℕ) (values : List ℕ) where
  -- the digest of the g-th of some groups, whose number is first + g, by the prefix that is kept
  group_hashed : (message message' d : List ℕ) (prefix from : ℕ) → from ≡ 2 * (width * g) → take prefix message ≡ leaf_prefix domain count width
      → Hashed H message prefix (leaf_rest width (first + g) (words (take (from + 2 * width - from) (drop from values)))) message' d
      → d ≡ leaf_digest H domain count width (first + g) (take width (drop (width * g) (words values)))
  unfolding leaf_digest leaf_message
  group_hashed message message' d prefix from a e h =
      h.digest ∙ ap₂ (λ (p : List ℕ) (vs : List ℕ). H (p ++ leaf_rest width (first + g) vs)) e (group_words values from (2 * width) width (width * g) a refl)

  pub leaves-step : (groups : ℕ) {message message' d tree tree' r : List ℕ} {prefix from to k : ℕ} → g < groups → from ≡ 2 * (width * g)
      → take prefix message ≡ leaf_prefix domain count width
      → Hashed H message prefix (leaf_rest width (first + g) (words (take (from + 2 * width - from) (drop from values)))) message' d
      → Put tree to (length d) d tree' k
      → stored tree to (flat (leaves_from H domain count width (first + g) (runs width (groups - g) (drop (width * g) (words values))))) ≡ r
      → stored tree' k (flat (leaves_from H domain count width (first + (g + 1)) (runs width (groups - (g + 1)) (drop (width * (g + 1)) (words values))))) ≡ r
  unfolding leaves_from runs flat
  leaves-step groups {message} {message'} {d} {tree} {tree'} {r} {prefix} {from} {to} {k} lt a e h p f =
      let x = group_hashed message message' d prefix from a e h in
      let m : groups - g ≡ suc (groups - (g + 1)) = omega arith in
      let z : width * g + width ≡ width * (g + 1) = rw (add-one g) (omega (arith, mul-suc width g)) in
      let rest : List ℕ = flat (leaves_from H domain count width (suc (first + g)) (runs width (groups - (g + 1)) (drop width (drop (width * g) (words values))))) in
      ap₂ (λ (i : ℕ) (ws : List ℕ). stored tree' k (flat (leaves_from H domain count width i (runs width (groups - (g + 1)) ws))))
      (let y : first + (g + 1) ≡ suc (first + g) = omega arith in y)
      (ap (λ i. drop i (words values)) (sym z) ∙ sym (drop-drop width (width * g) (words values)))
      ∙ put_then tree to (length d) d tree' k rest r p (ap (λ (y : List ℕ). stored tree to (y ++ rest)) x ∙ (rw m at f))

-- the leaves of the first groups, and of those after them, are all of them
pub leaves_join : (H : List ℕ → List ℕ) (sized : DigestsLong H) (domain : List ℕ) (count width first groups done : ℕ) (ws t t1 t2 : List ℕ) → done ≤ groups
    → t1 ≡ stored t 0 (flat (leaves_from H domain count width first (runs width done ws)))
    → t2 ≡ stored t1 (32 * done) (flat (leaves_from H domain count width (first + done) (runs width (groups - done) (drop (width * done) ws))))
    → t2 ≡ stored t 0 (flat (leaves_from H domain count width first (runs width groups ws)))
leaves_join H sized domain count width first groups done ws t t1 t2 h e f =
    let rest : ℕ = groups - done in
    let s : done + rest ≡ groups = omega arith in
    let a : List (List ℕ) = leaves_from H domain count width first (runs width done ws) in
    let b : List (List ℕ) = leaves_from H domain count width (first + done) (runs width rest (drop (width * done) ws)) in
    let n : length (flat a) ≡ 32 * done = length-flat-leaves H domain sized count width first (runs width done ws)
    ∙ ap (λ i. 32 * i) (length_runs width done ws) in
    let split : leaves_from H domain count width first (runs width groups ws) ≡ a ++ b
    = ap (λ i. leaves_from H domain count width first (runs width i ws)) (sym s) ∙ leaves-split H domain count width first done rest ws in
    then_stored t t1 t2 0 (32 * done) (flat a) (flat b) e (omega arith) f ∙ ap (stored t 0) (sym (flat_append a b) ∙ ap flat (sym split))
