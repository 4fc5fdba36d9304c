-- Records of levels and groups of the right shape fill their sizes exactly, and the sizes of SPECIFICATION 7.6 come out.
use Prim.Native.Nat.{ℕ, suc, ◌+◌, ◌-◌, ◌*◌, ◌^◌}
use mathlib.Core.Path.{◌≡◌, refl, sym, ap}
use mathlib.Core.List.{List, [], ◌∷◌, map}
use native.Mathlib.Omega.{arith}
use lib.ListN.{length, length-append, length-map}
use Rattle.theory_laws.proofs.Lists.{AllLong, length-le_bytes}
use Rattle.theory_merkle.specs.Tree.{halvings, log2}
use Rattle.theory_record.specs.Widths.{Widths, widths_of, level_width, level_groups, level_depth, total}
use Rattle.theory_record.specs.declared.WidthSet.{WidthSet}
use Rattle.theory_record.specs.Format.{LevelRecord, TailGroup, level_form, tail_form}
use Rattle.theory_record.specs.Format.{word_bytes, run_bytes, level_bytes, tail_group_bytes, items_bytes, record_bytes}
use Rattle.theory_record.specs.Sizes.{group_size, level_size, query_size, tail_size}
use Rattle.theory_record.proofs.Widths.{PowersOfTwo, tested_powers, powers, width_log_at, width_by_exponent, depth_by_exponent, level-shape, groups_by_depth}
use Rattle.theory_record.proofs.Totals.{total_ext, total_first}
use Rattle.theory_record.proofs.Runs.{words_long, length-run_bytes}

-- a group and a path of level l
pub record GroupShaped (s : Widths) (n k l : ℕ) (values : List ℕ) (path : List (List ℕ)) : Type 0 where
  pub width : length values ≡ level_width s n k l
  pub depth : length path ≡ level_depth s n k l
  pub digests : AllLong 32 path

module _ (s : Widths) (n k : ℕ) where
  pub length_group : (l : ℕ) (values : List ℕ) (path : List (List ℕ)) → GroupShaped s n k l values path
      → length (run_bytes (map word_bytes values)) + length (run_bytes path) ≡ group_size s n k l
  unfolding group_size
  length_group l values path h =
      let word-run = length-run_bytes 16 (map word_bytes values) (words_long values) in
      let path-run = length-run_bytes 32 path h.digests in
      rw (word-run, path-run, length-map values word_bytes, h.width, h.depth) (omega arith)

  -- ---- a query record

  abbrev pub LevelShaped : ℕ → LevelRecord → Type 0
  LevelShaped l x = GroupShaped s n k l x.a_group x.a_path × GroupShaped s n k (suc l) x.c_group x.c_path

  -- levels, the first of which is l
  abbrev pub LevelsShaped : ℕ → List LevelRecord → Type 0
  LevelsShaped l [] = Unit
  LevelsShaped l (x ∷ xs) = LevelShaped l x × LevelsShaped (suc l) xs

  length-level : (l : ℕ) (x : LevelRecord) → LevelShaped l x → length (level_bytes x) ≡ level_size s n k l
  unfolding level_bytes level_size
  length-level l x h =
      let a = length_group l x.a_group x.a_path h.0 in
      let c = length_group (suc l) x.c_group x.c_path h.1 in
      simp (length-append, length-le_bytes) (omega arith)

  length-levels : (l : ℕ) (xs : List LevelRecord) → LevelsShaped l xs → length (items_bytes level_form xs) ≡ total (length xs) (λ i. level_size s n k (l + i))
  unfolding items_bytes total
  length-levels l [] h = refl
  length-levels l (x ∷ xs) h =
      let f : ℕ → ℕ = λ i. level_size s n k (l + i) in
      let z : level_size s n k l ≡ f 0 = ap (level_size s n k) (let e : l ≡ l + 0 = omega arith in e) in
      let r : total (length xs) (λ i. level_size s n k (suc l + i)) ≡ total (length xs) (λ i. f (suc i)) =
      total_ext (length xs) (λ i. level_size s n k (suc l + i)) (λ i. f (suc i)) (λ i k. ap (level_size s n _) (omega arith)) in
      rw (length-append, length-level l x h.0, length-levels (suc l) xs h.1, r, z) (sym (total_first (length xs) f))

  -- a record of n levels of the right shape fills its size exactly
  pub query_fills : (xs : List LevelRecord) → length xs ≡ n → LevelsShaped 0 xs → length (record_bytes level_form xs) ≡ query_size s n k
  unfolding record_bytes query_size
  query_fills xs e h =
      let f : ℕ → ℕ = λ i. level_size s n k (0 + i) in
      let r : total n f ≡ total n (level_size s n k) = total_ext n f (level_size s n k) (λ i g. ap (level_size s n k) (omega arith)) in
      rw (length-append, length-le_bytes, length-levels 0 xs h, e, r)

  -- ---- a tail record

  abbrev pub GroupsShaped : List TailGroup → Type 0
  GroupsShaped [] = Unit
  GroupsShaped (x ∷ xs) = GroupShaped s n k n x.values x.path × GroupsShaped xs

  length-groups : (xs : List TailGroup) → GroupsShaped xs → length (items_bytes tail_form xs) ≡ length xs * group_size s n k n
  unfolding items_bytes tail_group_bytes
  length-groups [] h = omega arith
  length-groups (x ∷ xs) h = let g = length_group n x.values x.path h.0 in rw (length-append, length-append, length-groups xs h.1) (omega arith)

  pub tail-fills : (xs : List TailGroup) → length xs ≡ level_groups s n k n → GroupsShaped xs → length (record_bytes tail_form xs) ≡ tail_size s n k
  unfolding record_bytes tail_size
  tail-fills xs e h = rw (length-append, length-le_bytes, length-groups xs h, e)

-- ---- the sizes by exponents, which compute

-- a group of a level of 2^m values, and its path
abbrev pub group_bytes_at : {s : Widths} → PowersOfTwo s → ℕ → ℕ
group_bytes_at p m = 8 + 16 * 2 ^ width_log_at p m + 32 * (m - width_log_at p m)

module _ (s : Widths) (p : PowersOfTwo s) (n k : ℕ) where
  pub group_size_lem : (l : ℕ) → group_size s n k l ≡ group_bytes_at p (n + k - l)
  unfolding group_size
  group_size_lem l = rw (width_by_exponent s p n k l, depth_by_exponent s p n k l)

  pub query_size_lem : query_size s n k ≡ 4 + total n (λ l. 48 + group_bytes_at p (n + k - l) + group_bytes_at p (n + k - suc l))
  unfolding query_size level_size
  query_size_lem =
      let f : ℕ → ℕ = λ l. 48 + group_bytes_at p (n + k - l) + group_bytes_at p (n + k - suc l) in
      ap (λ (x : ℕ). 4 + x) (total_ext n (level_size s n k) f (λ l h. rw (group_size_lem l, group_size_lem (suc l))))

  -- the tail's size is fixed by k
  pub tail-size : tail_size s n k ≡ 4 + 2 ^ (k - width_log_at p k) * group_bytes_at p k
  unfolding tail_size
  tail-size =
      let e : n + k - n ≡ k = omega arith in
      rw (groups_by_depth s n k n (level-shape s n k n p), depth_by_exponent s p n k n, group_size_lem n, e)

-- the sizes of SPECIFICATION 7.6: of query records for (n, k) of (1, 0), (2, 1), (18, 2), (20, 4), and of tails for k from 0 to 4
abbrev QuerySizes : WidthSet → ℕ → ℕ → ℕ → ℕ → Type 0
QuerySizes set a b c d =
    let size = query_size (widths_of set) in
    (size 1 0 ≡ a) × (size 2 1 ≡ b) × (size 18 2 ≡ c) × (size 20 4 ≡ d)

pub query_sizes : QuerySizes WidthSet.Present 116 388 14884 20484 × QuerySizes WidthSet.Wide 116 388 24036 32228
unfolding total powers tested_powers widths_of log2 halvings
query_sizes =
    let present = query_size_lem _ (powers WidthSet.Present) in
    let wide = query_size_lem _ (powers WidthSet.Wide) in
    ((present 1 0, present 2 1, present 18 2, present 20 4), (wide 1 0, wide 2 1, wide 18 2, wide 20 4))

abbrev TailSizes : WidthSet → ℕ → ℕ → ℕ → ℕ → ℕ → Type 0
TailSizes set a b c d e =
    let size = tail_size (widths_of set) in
    (n : ℕ) → (size n 0 ≡ a) × (size n 1 ≡ b) × (size n 2 ≡ c) × (size n 3 ≡ d) × (size n 4 ≡ e)

pub tail-sizes : TailSizes WidthSet.Present 28 44 148 420 340 × TailSizes WidthSet.Wide 28 44 148 420 1092
unfolding powers tested_powers widths_of log2 halvings
tail-sizes =
    let present = tail-size _ (powers WidthSet.Present) in
    let wide = tail-size _ (powers WidthSet.Wide) in
    (λ n. (present n 0, present n 1, present n 2, present n 3, present n 4), λ n. (wide n 0, wide n 1, wide n 2, wide n 3, wide n 4))
