-- A level of a query record put part after part, and the levels one after the other.
use Prim.Native.Nat.{ℕ, suc, ◌+◌, ◌-◌, ◌*◌, ◌/◌, ◌^◌, ◌<◌, ◌≤◌}
use mathlib.Core.Path.{◌≡◌, refl, sym, ◌∙◌, ap}
use mathlib.Core.List.{List, ◌++◌, map, append_assoc, append-nil}
use native.Mathlib.Omega.{arith}
use native.Mathlib.Numerals.{add-one}
use lib.ListN.{length}
use Rattle.theory_laws.specs.Table.{at}
use Rattle.theory_laws.specs.Lists.{part, flat, stored, le_bytes}
use Rattle.theory_laws.proofs.Lists.{stored-nil, stored-append, stored-all, part-cons}
use Rattle.theory_field.specs.Words.{words}
use Rattle.theory_field.proofs.Words.{Halves}
use Rattle.theory_merkle.specs.Tree.{group_of}
use Rattle.bytes_numbers.specs.helpers.Put.{Put}
use Rattle.bytes_numbers.proofs.Stores.{then_put, same_put}
use Rattle.theory_record.specs.declared.WidthSet.{WidthSet}
use Rattle.theory_record.specs.Widths.{Widths, widths_of, total}
use Rattle.theory_record.specs.Format.{word_bytes, run_bytes, level_bytes, level_form, items_bytes, record_bytes}
use Rattle.theory_record.specs.Sizes.{group_size, level_size, query_size}
use Rattle.theory_record.specs.Query.{pair_of}
use Rattle.theory_record.specs.Build.{level_start, tree_start, built_level, built_levels, query_bytes}
use Rattle.theory_record.proofs.Ranges.{SizesFit, sizes-small}
use Rattle.theory_record.proofs.Build.{length-built_levels, built_query_fills}
use Rattle.theory_record.proofs.BuildAllowed.{QueryBuild, query_lent}
use Rattle.theory_record.proofs.Widths.{powers}
use Rattle.tree_walk.specs.helpers.Paths.{path_from}
use Rattle.field_bytes.proofs.Puts.{words-there}
use Rattle.record_writer.specs.helpers.Groups.{ValuesPut}
use Rattle.record_query_build.specs.declared.Level.{Level}
use Rattle.record_query_build.specs.helpers.Levels.{lent_level, values_lent, path_lent, open_lent, pair_bytes, groups_bytes, paths_bytes}
use Rattle.record_query_build.specs.helpers.Levels.{groups_size, paths_size, open_bytes, open_size, PairRoom}
use Rattle.record_query_build.proofs.Levels.{built-is}

-- ---- the three words

one_word : (ws : List ℕ) (j : ℕ) → j < length ws → flat (map (le_bytes 16) (part 1 j ws)) ≡ word_bytes (at ws j)
unfolding part flat
one_word ws j h = rw (part-cons 0 j ws h) (append-nil (word_bytes (at ws j)))

two-words : (ws : List ℕ) (i : ℕ) → i + 1 < length ws → flat (map (le_bytes 16) (part 2 i ws)) ≡ word_bytes (at ws i) ++ word_bytes (at ws (i + 1))
unfolding flat
two-words ws i h = rw (add-one, part-cons 1 i ws (omega arith)) (ap (λ (l : List ℕ). word_bytes (at ws i) ++ l) (one_word ws (suc i) (omega arith)))

pub pair_put : {out from first next q i j : ℕ} {o o1 : List ℕ} {a : ℕ} {o2 : List ℕ} {r : ℕ} (values : List ℕ)
    → PairRoom out from (length values) first next q → i ≡ 2 * q → j ≡ q
    → Put o from 32 (flat (map (le_bytes 16) (part 2 (first + i) (words values)))) o1 a
    → Put o1 a 16 (flat (map (le_bytes 16) (part 1 (next + j) (words values)))) o2 r → Put o from 48 (pair_bytes (words values) first next q) o2 r
pair_put {from = from} {first = first} {next = next} {q = q} {o = o} {o1 = o1} {a = a} {o2 = o2} {r = r} values room ei ej p p' =
    let x = words-there values (first + 2 * q + 2) room.pair_there in
    let y = words-there values (next + q + 1) room.c_there in
    same_put o from 48 48 _ _ o2 r refl (rw (two-words (words values) (first + 2 * q) (omega arith), one_word (words values) (next + q) (omega arith)))
    (then_put o from 32 _ o1 a 16 _ o2 r (rw ei at p) (rw ej at p'))

-- ---- a level

-- the group of the pair's first place
pub first_group : {g i : ℕ} (q w : ℕ) → g ≡ group_of i w → i ≡ 2 * q → g ≡ group_of (2 * q) w
first_group q w e f = e ∙ ap (λ (p : ℕ). group_of p w) f

module _ {o : List ℕ} {from : ℕ} (x y : Level) (q : ℕ) {g h : ℕ} {o1 : List ℕ} {j : ℕ} {o2 : List ℕ} {r : ℕ} (eg : g ≡ group_of (2 * q) x.width)
    (eh : h ≡ group_of q y.width) where
  pub groups_put : (levels : List ℕ) → ValuesPut o from levels x.words_at x.width g o1 j → ValuesPut o1 j levels y.words_at y.width h o2 r
      → Put o from (groups_size x y) (groups_bytes (words levels) x y q) o2 r
  unfolding groups_bytes values_lent
  groups_put levels a c =
      same_put o from _ (groups_size x y) _ (groups_bytes (words levels) x y q) o2 r (omega arith) refl
      (then_put o from _ _ o1 j _ _ o2 r (rw eg at a) (rw eh at c))

  pub paths_put : (ts : List ℕ) → Put o from (4 + 32 * x.depth) (run_bytes (path_from x.depth ts x.tree_at x.groups g)) o1 j
      → Put o1 j (4 + 32 * y.depth) (run_bytes (path_from y.depth ts y.tree_at y.groups h)) o2 r
      → Put o from (paths_size x y) (paths_bytes ts x y q) o2 r
  unfolding paths_bytes path_lent
  paths_put ts a c =
      same_put o from _ (paths_size x y) _ (paths_bytes ts x y q) o2 r (omega arith) refl
      (then_put o from _ _ o1 j _ _ o2 r (rw eg at a) (rw eh at c))

pub level_put : {o : List ℕ} {from : ℕ} (ws ts : List ℕ) (x y : Level) (q : ℕ) {o1 : List ℕ} {j1 : ℕ} {o2 : List ℕ} {j2 : ℕ} {o3 : List ℕ} {r : ℕ}
    → Put o from 48 (pair_bytes ws x.words_at y.words_at q) o1 j1 → Put o1 j1 (groups_size x y) (groups_bytes ws x y q) o2 j2
    → Put o2 j2 (paths_size x y) (paths_bytes ts x y q) o3 r → Put o from (open_size x y) (open_bytes ws ts x y q) o3 r
unfolding level_bytes open_lent groups_bytes paths_bytes
level_put {o} {from} ws ts x y q {o1} {j1} {o2} {j2} {o3} {r} p g h =
    same_put o from _ (open_size x y) _ (open_bytes ws ts x y q) o3 r (omega arith) (simp append_assoc)
    (then_put o from _ _ o2 j2 _ _ o3 r (then_put o from _ _ o1 j1 _ _ o2 j2 p g) h)

-- ---- the levels

-- what is left to store, from level l on
unfoldable pub levels_left : Widths → List ℕ → ℕ → ℕ → ℕ → List ℕ → List ℕ → ℕ → ℕ → List ℕ
levels_left s out from n k ws ts position l = stored out from (items_bytes level_form (built_levels s n k ws ts position (n - l) l))

pub first-level : (s : Widths) (n k : ℕ) → SizesFit n k → (n + k ≤ 24) × (0 ≤ n) × (0 ≡ level_start n k 0) × (0 ≡ 32 * tree_start s n k 0)
unfolding level_start tree_start total
first-level s n k z = (sizes-small n k z, omega arith, refl, refl)

-- the place to which level l's pair folds
pub pair_is : (position l q : ℕ) → q ≡ position / 2 ^ (l + 1) → q ≡ pair_of position l
unfolding pair_of
pair_is position l q e = e ∙ rw add-one

pub next-from : (s : Widths) (n k l from from' : ℕ) (x y : Level) → x ≡ lent_level s n k l → y ≡ lent_level s n k (l + 1)
    → from ≡ 4 + total l (level_size s n k) → from' ≡ from + open_size x y → from' ≡ 4 + total (l + 1) (level_size s n k)
unfolding total level_size group_size lent_level
next-from s n k l from from' x y ex ey e f = rw (f, e, ex, ey, add-one) (omega arith)

pub levels_end : (s : Widths) (out : List ℕ) (from n k : ℕ) (ws ts : List ℕ) (position l : ℕ) (r : List ℕ) → levels_left s out from n k ws ts position l ≡ r
    → n ≤ l → out ≡ r
unfolding levels_left built_levels items_bytes
levels_end s out from n k ws ts position l r e h =
    let z : n - l ≡ 0 = omega arith in
    rw (z, stored-nil) at e

module _ (set : WidthSet) {n k : ℕ} {levels trees : List ℕ} {position : ℕ} {out₀ : List ℕ} (t : QueryBuild (widths_of set) n k levels trees position out₀) where
  abbrev s : Widths
  s = widths_of set

  pub levels-step : {out : List ℕ} {from : ℕ} (l : ℕ) {r : List ℕ} {x y : Level} {q : ℕ} {out' : List ℕ} {j m : ℕ}
      → levels_left s out from n k (words levels) trees position l ≡ r → Put out from m (open_bytes (words levels) trees x y q) out' j
      → x ≡ lent_level s n k l → y ≡ lent_level s n k (l + 1) → q ≡ pair_of position l → l < n → levels_left s out' j n k (words levels) trees position (l + 1) ≡ r
  unfolding levels_left built_levels items_bytes
  levels-step {out} {from} l {r} {x} {y} {q} {out'} {j} {m} e p ex ey eq h =
      let z : n - l ≡ suc (n - suc l) = omega arith in
      let bs : List ℕ = level_bytes (open_lent (words levels) trees x y q) in
      let f : j ≡ from + length bs = p.end ∙ ap (λ i. from + i) (sym p.size) in
      let b : level_bytes (built_level s n k (words levels) trees position l) ≡ bs =
      ap level_bytes (built-is s (powers set) n k (words levels) trees position l t.position_low (omega arith) ∙ rw (ex, ey, eq, add-one)) in
      rw (add-one, f, p.bytes, ← stored-append out from bs) (rw (z, b) at e)

  pub count_room : 0 + 4 ≤ length out₀
  unfolding query_size
  count_room = omega (arith, t.out_long)

  pub first-levels : {o1 : List ℕ} {from : ℕ} → Put out₀ 0 4 (le_bytes 4 n) o1 from → Halves levels
      → levels_left s o1 from n k (words levels) trees position 0 ≡ query_bytes s n k (words levels) trees position
  unfolding levels_left query_bytes record_bytes
  first-levels {o1} {from} p hs =
      let items : List ℕ = items_bytes level_form (built_levels s n k (words levels) trees position n 0) in
      let e : from ≡ 0 + length (le_bytes 4 n) = p.end ∙ ap (λ j. 0 + j) (sym p.size) in
      let z : n - 0 ≡ n = omega arith in
      let is : le_bytes 4 n ++ items ≡ query_bytes s n k (words levels) trees position =
      rw (length-built_levels s n k (words levels) trees position n 0) in
      let fills : length (query_bytes s n k (words levels) trees position) ≡ length out₀ =
      built_query_fills s (powers set) n k (words levels) trees (query_lent s n k levels trees position out₀ t hs) position t.position_low
      ∙ sym t.out_long in
      rw (z, p.bytes, e)
      (sym (stored-append out₀ 0 (le_bytes 4 n) items) ∙ ap (stored out₀ 0) is
      ∙ stored-all out₀ (query_bytes s n k (words levels) trees position) fills)
