-- The sizes of the last level and of a tail record, the room that each group has in it, and the numbers of its building.
use Prim.Native.Nat.{ℕ, suc, ◌+◌, ◌-◌, ◌*◌, ◌^◌, ◌<◌, ◌≤◌}
use mathlib.Core.Path.{◌≡◌, refl, sym, ◌∙◌, ap}
use mathlib.Core.List.{List, ◌++◌}
use native.Mathlib.Nat.{mul-le-mul_right, le-mul_of_pos_right}
use native.Mathlib.Omega.{arith}
use borrow.Author.Tests.{eq-eqb, ne_eqb}
use lib.ListN.{length}
use lib.Pow.{pow_mono}
use Rattle.theory_laws.specs.Lists.{stored, le_bytes}
use Rattle.theory_laws.proofs.Lists.{stored-append, stored-all}
use Rattle.theory_field.specs.Words.{words}
use Rattle.theory_field.proofs.Words.{Halves, length-words-even}
use Rattle.theory_laws.proofs.Questions.{first_stops, first_passes}
use Rattle.code_level.specs.Sizes.{size_number}
use Rattle.bytes_numbers.specs.helpers.Put.{Put}
use Rattle.theory_record.specs.declared.WidthSet.{WidthSet}
use Rattle.theory_record.specs.Widths.{Widths, widths_of, level_length, level_width, level_groups, level_depth, tree_length}
use Rattle.theory_record.specs.Sizes.{group_size, tail_size}
use Rattle.theory_record.specs.Query.{size_questions}
use Rattle.theory_record.specs.Build.{tail_bytes, build_tail_number, build_tail}
use Rattle.theory_record.proofs.Ranges.{SizesFit, sizes-small}
use Rattle.theory_record.proofs.Widths.{powers, level-shape, width-pos, width-le as level-width-le, groups_by_depth, groups-pos, groups-times-width}
use Rattle.theory_record.proofs.Widths.{depth_le as level-depth-le}
use Rattle.theory_record.proofs.Offsets.{last-length}
use Rattle.theory_record.proofs.Build.{built-tail-fills}
use Rattle.theory_record.proofs.BuildAllowed.{TailBuild, tail_build, words_of_halves}
use Rattle.record_tail_build.specs.helpers.Groups.{Room}
use Rattle.record_tail_build.specs.helpers.Numbers.{lengths, build_number}
use Rattle.record_tail_build.proofs.Groups.{groups_left, groups_bytes, tail-bytes}

-- ---- the last level

pub record Last (n k groups width depth : ℕ) : Type 0 where
  pub width-le : width ≤ 16
  pub some : 0 < groups
  pub groups_le : groups ≤ 16
  pub power : groups ≡ 2 ^ depth
  pub product : groups * width ≡ level_length n k n
  pub depth_le : depth ≤ 24

pub last-level : (set : WidthSet) {n k groups width depth : ℕ} → SizesFit n k → groups ≡ level_groups (widths_of set) n k n
    → width ≡ level_width (widths_of set) n k n → depth ≡ level_depth (widths_of set) n k n → Last n k groups width depth
last-level set {n} {k} {groups} {width} z eg ew ed =
    let s : Widths = widths_of set in
    let shape = level-shape s n k n (powers set) in
    let p : groups * width ≡ level_length n k n = rw (eg, ew) (groups-times-width s n k n shape) in
    let b : 2 ^ k ≤ 2 ^ 4 = pow_mono {i = k} {j = 4} z.k_most in
    let pos : 0 < width = rw ew (width-pos s n k n shape) in
    let m : groups ≤ groups * width = le-mul_of_pos_right groups pos in
    record {
      width-le = rw ew (omega (arith, level-width-le s n k n shape, last-length n k));
      some = rw eg (groups-pos s n k n shape);
      groups_le = omega (arith, last-length n k);
      power = rw (eg, ed) (groups_by_depth s n k n shape);
      product = p;
      depth_le = rw ed (omega (arith, level-depth-le s n k n shape, z.n_most, z.k_most));
    }

pub size_small : {n k groups width depth : ℕ} → Last n k groups width depth → groups * (8 + 16 * width + 32 * depth) ≤ 20000
size_small {groups = groups} {width = width} {depth = depth} z =
    let a : groups * (8 + 16 * width + 32 * depth) ≤ 16 * (8 + 16 * width + 32 * depth) = mul-le-mul_right (8 + 16 * width + 32 * depth) z.groups_le in
    let w = z.width-le in
    let d = z.depth_le in
    omega arith

pub size_is : (s : Widths) (n k groups width depth : ℕ) → groups ≡ level_groups s n k n → width ≡ level_width s n k n → depth ≡ level_depth s n k n
    → 4 + groups * (8 + 16 * width + 32 * depth) ≡ tail_size s n k
unfolding tail_size group_size
size_is s n k groups width depth eg ew ed = rw (eg, ew, ed)

-- ---- a group's room

module _ (set : WidthSet) {n k : ℕ} {level tree out : List ℕ} {groups width depth : ℕ} (t : TailBuild (widths_of set) n k level tree out)
    (eg : groups ≡ level_groups (widths_of set) n k n) (ew : width ≡ level_width (widths_of set) n k n) (ed : depth ≡ level_depth (widths_of set) n k n) where
  last : Last n k groups width depth
  last = last-level set t.sizes eg ew ed

  size_out : length out ≡ 4 + groups * (8 + 16 * width + 32 * depth)
  size_out = t.out_long ∙ sym (size_is (widths_of set) n k groups width depth eg ew ed)

  pub count_room : 0 + 4 ≤ length out
  count_room = omega (arith, size_out)

  trees_are : length tree ≡ 32 * (2 * groups - 1)
  unfolding tree_length level_groups
  trees_are = t.tree_long ∙ rw eg

  pub group_room : (g : ℕ) {at len : ℕ} → g < groups → at ≡ 4 + g * (8 + 16 * width + 32 * depth) → len ≡ length out
      → Room len at (length level) (length tree) width depth groups g
  group_room g h ea el =
      let z = last in
      let a : suc g * width ≤ groups * width = mul-le-mul_right width h in
      let b : suc g * (8 + 16 * width + 32 * depth) ≤ groups * (8 + 16 * width + 32 * depth) = mul-le-mul_right (8 + 16 * width + 32 * depth) h in
      let l = t.level-long in
      let p = z.product in
      let c : 2 ^ k ≤ 2 ^ 4 = pow_mono {i = k} {j = 4} t.sizes.k_most in
      let s : g * width ≤ 16 = omega (arith, last-length n k) in
      record {
        width-le = z.width-le;
        groups_are = z.power;
        groups_le = z.groups_le;
        group_lt = h;
        values-there = omega arith;
        small = s;
        tree_there = omega (arith, trees_are, z.some);
        fits = omega (arith, size_out);
      }

  pub first-groups : {o1 : List ℕ} {at : ℕ} → Put out 0 4 (le_bytes 4 groups) o1 at → Halves level
      → groups_left o1 at (words level) tree width depth groups 0 ≡ tail_bytes (widths_of set) n k (words level) tree
  unfolding groups_left
  first-groups {at = at} p hs =
      let small = sizes-small n k t.sizes in
      let long : length (words level) ≡ level_length n k n = length-words-even level (level_length n k n) t.level-long in
      let rest : List ℕ = groups_bytes (words level) tree width depth groups groups 0 in
      let e : at ≡ 0 + length (le_bytes 4 groups) = p.end ∙ ap (λ j. 0 + j) (sym p.size) in
      let z : groups - 0 ≡ groups = omega arith in
      let is : le_bytes 4 groups ++ rest ≡ tail_bytes (widths_of set) n k (words level) tree =
      rw (eg, ew, ed) (sym (tail-bytes (widths_of set) (powers set) n k small (words level) tree long)) in
      let fills : length (tail_bytes (widths_of set) n k (words level) tree) ≡ length out =
      built-tail-fills (widths_of set) (powers set) n k small (words level) (words_of_halves level hs) long tree t.tree_long ∙ sym t.out_long in
      rw (z, p.bytes, e)
      (sym (stored-append out 0 (le_bytes 4 groups) rest) ∙ ap (stored out 0) is ∙ stored-all out (tail_bytes (widths_of set) n k (words level) tree) fills)

pub next_place : (at at' g size : ℕ) → at ≡ 4 + g * size → at' ≡ at + size → at' ≡ 4 + (g + 1) * size
next_place at at' g size e f = omega arith

-- ---- the numbers

module _ (s : Widths) (n k level tree out x : ℕ) (ex : x ≡ size_number n k) where
  pub wrong_size : (x ≡ 0 → ⊥) → x ≡ build_number s n k level tree out
  unfolding build_number size_number
  wrong_size z = first_stops (size_questions n k) (lengths s n k level tree out) x tt ex z

  module _ (z : x ≡ 0) (len : ℕ) (el : len ≡ level_length n k n) where
    pub wrong_level : (level ≡ 2 * len → ⊥) → 5 ≡ build_number s n k level tree out
    unfolding build_number size_number
    wrong_level h = first_passes (size_questions n k) (lengths s n k level tree out) x tt ex 5 z (rw (← el, ne_eqb level (2 * len) h))

    module _ (a : level ≡ 2 * len) (groups : ℕ) (eg : groups ≡ level_groups s n k n) where
      tree_is : 32 * (2 * groups - 1) ≡ 32 * tree_length s n k n
      unfolding tree_length level_groups
      tree_is = rw eg

      pub wrong_tree : (tree ≡ 32 * (2 * groups - 1) → ⊥) → 5 ≡ build_number s n k level tree out
      unfolding build_number size_number
      wrong_tree h =
          first_passes (size_questions n k) (lengths s n k level tree out) x tt ex 5 z
          (rw (← el, eq-eqb level (2 * len) a, ← tree_is, ne_eqb tree (32 * (2 * groups - 1)) h))

      module _ (b : tree ≡ 32 * (2 * groups - 1)) (size : ℕ) (es : size ≡ tail_size s n k) where
        pub wrong_out : (out ≡ size → ⊥) → 5 ≡ build_number s n k level tree out
        unfolding build_number size_number
        wrong_out h =
            first_passes (size_questions n k) (lengths s n k level tree out) x tt ex 5 z
            (rw (← el, eq-eqb level (2 * len) a, ← tree_is, eq-eqb tree (32 * (2 * groups - 1)) b, ← es, ne_eqb out size h))

        pub none_says_no : out ≡ size → 0 ≡ build_number s n k level tree out
        unfolding build_number size_number
        none_says_no h =
            first_passes (size_questions n k) (lengths s n k level tree out) x tt ex 0 z
            (rw (← el, eq-eqb level (2 * len) a, ← tree_is, eq-eqb tree (32 * (2 * groups - 1)) b, ← es, eq-eqb out size h))

pub length-small : (n k len : ℕ) → SizesFit n k → len ≡ level_length n k n → len ≤ 16
length-small n k len z e = omega (arith, last-length n k, pow_mono {i = k} {j = 4} z.k_most)

pub groups-small : (set : WidthSet) (n k groups : ℕ) → SizesFit n k → groups ≡ level_groups (widths_of set) n k n → (0 < groups) × (groups ≤ 16)
groups-small set n k groups z e = let l = last-level set z e refl refl in (l.some, l.groups_le)

-- ---- the answer

module _ (s : Widths) (n k : ℕ) (level tree out : List ℕ) (q : ℕ) (e : q ≡ build_number s n k (length level) (length tree) (length out)) where
  pub number_is : q ≡ build_tail_number s n k level tree out
  unfolding build_number build_tail_number
  number_is = e

  pub refused : (q ≡ 0 → ⊥) → out ≡ build_tail s n k level tree out
  unfolding build_tail
  refused z = rw (← number_is, ne_eqb q 0 z)

  pub allowed : q ≡ 0 → TailBuild s n k level tree out
  allowed z = tail_build s n k level tree out (sym number_is ∙ z)

  pub done : (o : List ℕ) → q ≡ 0 → o ≡ tail_bytes s n k (words level) tree → o ≡ build_tail s n k level tree out
  unfolding build_tail
  done o z f = rw (← number_is, eq-eqb q 0 z) f
