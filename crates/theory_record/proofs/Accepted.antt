-- Built records are accepted: a query record at the position it was built at, and a tail record exactly for the claim that is the first
-- value of the last level. Rests on merkle's law that the path read off a tree leads to its root, and on the next level being the fold.
use Prim.Native.Nat.{ℕ, zero, suc, ◌+◌, ◌-◌, ◌*◌, ◌/◌, ◌^◌, ◌<◌, ◌≤◌}
use mathlib.Core.Path.{◌≡◌, sym, ◌∙◌, ap}
use mathlib.Core.List.{List, []}
use native.Mathlib.Nat.{zero-mul, zero-div}
use native.Mathlib.Omega.{arith}
use lib.ListN.{length, get_or}
use Rattle.theory_laws.specs.Xor.{◌⊕◌}
use Rattle.theory_laws.specs.Table.{at}
use Rattle.theory_laws.proofs.Lists.{AllLong, get_d_part, get_d_long}
use Rattle.theory_field.specs.Field.{◌⊗◌}
use Rattle.theory_field.specs.Words.{words}
use Rattle.theory_merkle.specs.Digests.{DigestsLong}
use Rattle.theory_merkle.specs.Tree.{group_of, tree_size}
use Rattle.theory_merkle.proofs.Tree.{length-tree_of, tree_of-long, tree_of-root, path_of_tree_leads_to-root}
use Rattle.theory_record.specs.Trees.{group_at, path_at, tree_for, root_for, leads_to}
use Rattle.theory_record.specs.Widths.{level_length, level_width, level_groups, tree_length}
use Rattle.theory_record.specs.Domain.{level_domain}
use Rattle.theory_record.specs.Format.{LevelRecord, TailGroup, level_form, tail_form, record_items, record_bytes}
use Rattle.theory_record.specs.Query.{accepted, pair_of, root_at, check_query}
use Rattle.theory_record.specs.Tail.{first_value, check_tail}
use Rattle.theory_record.specs.Build.{level_values, level_tree, digests, open_pair, built_level, built_levels, query_bytes, open_group, open_groups, tail_bytes}
use Rattle.theory_record.proofs.Ranges.{SizesFit, sizes-small}
use Rattle.theory_record.proofs.Widths.{PowersOfTwo, level-shape, width-pos, width-even, groups-pos, pair_group}
use Rattle.theory_record.proofs.Offsets.{pair_lt, b_lt}
use Rattle.theory_record.proofs.Runs.{Words}
use Rattle.theory_record.proofs.Records.{Written}
use Rattle.theory_record.proofs.Build.{Lent, value_of_group, level_shaped, open_shaped, group_low}
use Rattle.theory_record.proofs.Build.{built_query_reads, open_groups-read, length-built_levels, length-open_groups}
use Rattle.theory_record.proofs.Query.{Ranges, LevelHolds, AllHold, accepted_query}
use Rattle.theory_record.proofs.Tail.{GroupHolds, AllGroupsHold, tail-accepted, accepted-tail}
use Rattle.theory_record.specs.Scheme.{Scheme}

module _ (S : Scheme) where
  open S use {digest as H, widths as s, base, n, k}

  -- what is read off a level's tree leads to its root
  pub opening_leads : (l place : ℕ) (values : List ℕ) → PowersOfTwo s → place < level_length n k l
      → leads_to S l place (group_at (level_width s n k l) place values) (path_at s n k l place (tree_for S l values)) ≡ root_for S l values
  unfolding leads_to group_at path_at tree_for root_for
  opening_leads l place values p h =
      path_of_tree_leads_to-root H (level_domain base l) (level_length n k l) (level_width s n k l) (level-shape s n k l p).tree values place h

  -- sizes of a level's tree and of its root, for digests of 32 bytes
  pub length-tree_for : (l : ℕ) (values : List ℕ) → PowersOfTwo s → length (tree_for S l values) ≡ tree_length s n k l
  unfolding tree_length tree_for
  length-tree_for l values p = length-tree_of H (level_domain base l) (level_length n k l) (level_width s n k l) (level-shape s n k l p).tree values

  module _ (sized : DigestsLong H) where
    pub tree_for-long : (l : ℕ) (values : List ℕ) → AllLong 32 (tree_for S l values)
    unfolding tree_for
    tree_for-long l values = tree_of-long H (level_domain base l) (level_length n k l) (level_width s n k l) sized values

    -- the root is the tree's last digest
    pub length-root_for : (l : ℕ) (values : List ℕ) → PowersOfTwo s → length (root_for S l values) ≡ 32
    unfolding level_groups tree_length tree_for root_for
    length-root_for l values p =
        let pos = groups-pos s n k l (level-shape s n k l p) in
        let t : List (List ℕ) = tree_for S l values in
        let i : ℕ = tree_size (level_length n k l) (level_width s n k l) - 1 in
        let e : get_or t i [] ≡ root_for S l values =
        tree_of-root H (level_domain base l) (level_length n k l) (level_width s n k l) (level-shape s n k l p).tree values in
        rw (← e) (get_d_long 32 i t (tree_for-long l values) (omega (arith, length-tree_for l values p)))

  -- ---- a query record

  -- the levels of a commitment with their trees, roots and challenges: each level is the fold of the one before
  pub record Levels (ws ts challenges roots : List ℕ) : Type 0 where
    pub lent : Lent s n k ws ts
    pub trees : (l : ℕ) → l ≤ n → level_tree s n k ts l ≡ tree_for S l (level_values n k ws l)
    pub roots_are : (l : ℕ) → l ≤ n → root_at roots l ≡ root_for S l (level_values n k ws l)
    pub folded : (l q : ℕ) → l < n → q < level_length n k (suc l)
        → at (level_values n k ws l) (2 * q) ⊕ at (words challenges) l ⊗ (at (level_values n k ws l) (2 * q) ⊕ at (level_values n k ws l) (2 * q + 1))
        ≡ at (level_values n k ws (suc l)) q

  module _ (p : PowersOfTwo s) (ws ts challenges roots : List ℕ) (z : Levels ws ts challenges roots) where
    leads_at : (l place : ℕ) → l ≤ n → place < level_length n k l
        → leads_to S l place (group_at (level_width s n k l) place (level_values n k ws l)) (path_at s n k l place (level_tree s n k ts l)) ≡ root_at roots l
    leads_at l place h low = rw (z.trees l h, z.roots_are l h) (opening_leads l place (level_values n k ws l) p low)

    module _ (position : ℕ) (low : position < 2 ^ (n + k)) where
      built-level_holds : (l : ℕ) → l < n
          → LevelHolds S l (pair_of position l) (at (words challenges) l) (root_at roots l) (root_at roots (suc l)) (built_level s n k ws ts position l)
      unfolding built_level open_pair group_at
      built-level_holds l h =
          let q : ℕ = pair_of position l in
          let w : ℕ = level_width s n k l in
          let sh = level-shape s n k l p in
          let pos = width-pos s n k l sh in
          let even = width-even s n k l sh (omega arith) in
          let one : group_of (2 * q + 1) w ≡ group_of (2 * q) w = pair_group w q pos even in
          let b = b_lt n k l position low (omega arith) in
          let c = pair_lt n k l position low (omega arith) in
          let g = level_shaped s p n k ws ts z.lent position low l h in
          record {
            a_width = g.0.width;
            a_path_there = g.0.depth;
            a_root = leads_at l (2 * q) (omega arith) (omega arith);
            has_a = value_of_group w (2 * q) (level_values n k ws l) pos;
            has_b = rw (← one) (value_of_group w (2 * q + 1) (level_values n k ws l) pos);
            c_width = g.1.width;
            c_path_there = g.1.depth;
            c_root = leads_at (suc l) q h c;
            has_c = value_of_group (level_width s n k (suc l)) q (level_values n k ws (suc l)) (width-pos s n k (suc l) (level-shape s n k (suc l) p));
            folds = z.folded l q h c;
          }

      built-levels_hold : (c l : ℕ) → l + c ≤ n → AllHold S position challenges roots l (built_levels s n k ws ts position c l)
      unfolding built_levels
      built-levels_hold zero l h = tt
      built-levels_hold (suc c) l h = (built-level_holds l (omega arith), built-levels_hold c (suc l) (omega arith))

      -- the record built at a position is accepted there
      pub built_query_accepted : Ranges base n k challenges roots → check_query S position challenges roots (query_bytes s n k ws ts position) ≡ accepted
      unfolding query_bytes
      built_query_accepted r =
          let xs : List LevelRecord = built_levels s n k ws ts position n 0 in
          let long : length xs ≡ n = length-built_levels s n k ws ts position n 0 in
          let w = built_query_reads s p n k ws ts z.lent position low in
          let items : record_items level_form n (record_bytes level_form xs) ≡ xs = rw long at w.items_are in
          accepted_query S position challenges roots (record_bytes level_form xs)
          (record {
            ranges = r;
            position_low = low;
            reads_whole = w.reads_whole;
            has_n_levels = w.count-is ∙ long;
            levels_hold = rw items (built-levels_hold n 0 (omega arith));
          })

  -- ---- a tail record, from the last level's values and the bytes of its tree

  -- the last level, with the bytes of its tree
  pub record LastLevel (values tree_bytes : List ℕ) : Type 0 where
    pub sizes : SizesFit n k
    pub all_words : Words values
    pub long : length values ≡ level_length n k n
    pub tree_is : digests (tree_length s n k n) 0 tree_bytes ≡ tree_for S n values

  module _ (sized : DigestsLong H) (p : PowersOfTwo s) (base_short : length base ≤ 200) (values tree_bytes : List ℕ)
      (z : LastLevel values tree_bytes) where
    built_group_holds : (g : ℕ) → g < level_groups s n k n → GroupHolds S (root_for S n values) g (open_group s n k values (tree_for S n values) g)
    unfolding open_group
    built_group_holds g h =
        let t = tree_for S n values in
        let small = sizes-small n k z.sizes in
        let low = group_low s p n k small values z.all_words z.long t (length-tree_for n values p) (tree_for-long sized n values) g h in
        let sh = open_shaped s p n k small values z.all_words z.long t (length-tree_for n values p) (tree_for-long sized n values) g h in
        record { width = sh.width; depth = sh.depth; leads = opening_leads n (g * level_width s n k n) values p low }

    built-groups_hold : (c g : ℕ) → g + c ≤ level_groups s n k n → AllGroupsHold S (root_for S n values) g (open_groups s n k values (tree_for S n values) c g)
    unfolding open_groups
    built-groups_hold zero g h = tt
    built-groups_hold (suc c) g h = (built_group_holds g (omega arith), built-groups_hold c (suc g) (omega arith))

    first_of_groups : (c : ℕ) → 0 < c → first_value (open_groups s n k values (tree_for S n values) c 0) ≡ at values 0
    unfolding first_value open_groups open_group group_at
    first_of_groups zero h = absurd (omega arith)
    first_of_groups (suc c) h =
        let w : ℕ = level_width s n k n in
        let pos = width-pos s n k n (level-shape s n k n p) in
        let e : w * group_of (0 * w) w + 0 ≡ 0 = start w in
        get_d_part w (w * group_of (0 * w) w) 0 values pos ∙ ap (at values) e
      where
        start : (w : ℕ) → w * (0 * w / w) + 0 ≡ 0
        start w = rw (zero-mul w, zero-div w) (omega arith)

    -- the built record's groups, and what they say of the record
    groups : List TailGroup
    groups = open_groups s n k values (tree_for S n values) (level_groups s n k n) 0

    groups-count : length groups ≡ level_groups s n k n
    unfolding groups
    groups-count = length-open_groups s n k values (tree_for S n values) (level_groups s n k n) 0

    written : Written tail_form groups
    unfolding groups
    written =
        open_groups-read s p n k (sizes-small n k z.sizes) values z.all_words z.long (tree_for S n values) (length-tree_for n values p)
        (tree_for-long sized n values)

    bytes_are : tail_bytes s n k values tree_bytes ≡ record_bytes tail_form groups
    unfolding tail_bytes groups
    bytes_are = rw z.tree_is

    items_are : record_items tail_form (level_groups s n k n) (record_bytes tail_form groups) ≡ groups
    items_are = rw groups-count at written.items_are

    first-is : first_value (record_items tail_form (level_groups s n k n) (record_bytes tail_form groups)) ≡ at values 0
    unfolding groups
    first-is = rw items_are (first_of_groups (level_groups s n k n) (groups-pos s n k n (level-shape s n k n p)))

    -- the built tail record is accepted for the first value of the last level
    pub built-tail-accepted : (claim : ℕ) → claim ≡ at values 0 → check_tail S (root_for S n values) claim (tail_bytes s n k values tree_bytes) ≡ 0
    unfolding groups
    built-tail-accepted claim e =
        rw bytes_are
        (accepted-tail S (root_for S n values) claim (record_bytes tail_form groups)
        (record {
          sizes = z.sizes;
          root_long = length-root_for sized n values p;
          base_short = base_short;
          reads_whole = written.reads_whole;
          has_all_groups = written.count-is ∙ groups-count;
          all_hold = rw items_are (built-groups_hold (level_groups s n k n) 0 (omega arith));
          claim_first = first-is ∙ sym e;
        }))

    -- and for no other claim
    pub built-tail-claim : (claim : ℕ) → check_tail S (root_for S n values) claim (tail_bytes s n k values tree_bytes) ≡ 0 → claim ≡ at values 0
    built-tail-claim claim e =
        sym (tail-accepted S (root_for S n values) claim (record_bytes tail_form groups) (rw bytes_are at e)).claim_first ∙ first-is
