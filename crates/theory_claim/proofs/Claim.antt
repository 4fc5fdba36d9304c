-- The single claim is proved, from nothing but the ranges.
use Prim.Native.Nat.{ℕ, suc, ◌+◌, ◌-◌, ◌*◌, ◌/◌, ◌^◌, ◌<◌, ◌≤◌}
use mathlib.Core.Path.{◌≡◌, refl, sym, ◌∙◌, ap, subst}
use mathlib.Core.Logic.{◌↔◌, ◌⊎◌, ⊎_elim, inl, inr}
use mathlib.Core.List.{List, []}
use mathlib.Core.Bool.{true}
use native.Mathlib.Omega.{arith}
use borrow.Author.Tests.{le-leb, eq-eqb}
use lib.ListN.{length, drop, get_or}
use Rattle.theory_laws.specs.Table.{at}
use Rattle.theory_laws.specs.Lists.{flat}
use Rattle.theory_laws.proofs.Questions.{yes_all}
use Rattle.theory_laws.proofs.Lists.{Bytes, length-flat}
use Rattle.theory_laws.proofs.Table.{length-tab}
use Rattle.theory_field.specs.Words.{words}
use Rattle.theory_field.proofs.Words.{length-words-even}
use Rattle.theory_multilinear.specs.Folds.{Fold, Folds, folds, folds_list, at_first, remaining, shifted}
use Rattle.theory_multilinear.specs.Multilinear.{mle}
use Rattle.theory_multilinear.specs.Points.{add_point}
use Rattle.theory_multilinear.specs.Codeword.{shift, all_coordinates, shift_over, block}
use Rattle.theory_multilinear.specs.Levels.{level}
use Rattle.theory_multilinear.proofs.Levels.{last-level-at}
use Rattle.theory_multilinear.proofs.Codeword.{length-encode, encode-lt, folds_code, folds_code_at}
use Rattle.theory_multilinear.proofs.Folds.{folds-first}
use Rattle.theory_merkle.proofs.Tree.{tree_of-root}
use Rattle.theory_blake3.specs.Digest.{hash}
use Rattle.theory_blake3.specs.Modes.{under}
use Rattle.theory_blake3.proofs.Modes.{length-under}
use Rattle.theory_code.specs.Gammas.{gammas}
use Rattle.theory_code.specs.Questions.{rising, fold_number}
use Rattle.theory_record.specs.declared.Trees.{Trees}
use Rattle.theory_record.specs.Widths.{Widths, widths_of, level_length, level_width, level_groups, tree_length}
use Rattle.theory_record.specs.Domain.{level_domain}
use Rattle.theory_record.specs.Trees.{tree_for, root_for, trees_lent}
use Rattle.theory_record.specs.Sizes.{query_size, tail_size}
use Rattle.theory_record.specs.Query.{Answer, accepted, check_query}
use Rattle.theory_record.specs.Tail.{check_tail}
use Rattle.theory_record.specs.Build.{tree_start, build_query_number, build_query, build_tail_number, build_tail}
use Rattle.theory_record.proofs.Ranges.{SizesFit, sizes-small}
use Rattle.theory_record.proofs.Runs.{Words}
use Rattle.theory_record.proofs.Chain.{length-trees_lent}
use Rattle.theory_record.proofs.Widths.{powers, narrow, level-shape}
use Rattle.theory_record.proofs.Accepted.{length-tree_for, tree_for-long}
use Rattle.theory_record.proofs.BuildAllowed.{QueryBuild, TailBuild, build_query_lem, build_query_done, build_tail_lem, build_tail-done}
use Rattle.theory_record.specs.Build.{levels_length}
use Rattle.theory_record.proofs.Committed.{codeword-sized, committed_query, committed-tail, claim-is-P}
use Rattle.theory_merkle.specs.Numbers.{build_number}
use Rattle.theory_record.proofs.Domain.{level_domain-fits}
use Rattle.theory_claim.specs.Commit.{commit_questions, commit_number, committed_codeword, committed_tree}
use Rattle.theory_record.proofs.LevelTree.{build_allowed, groups_some}
use Rattle.theory_record.proofs.Exactly.{query_exactly, tail_exactly}
use Rattle.theory_compare.proofs.Found.{leaves_fit}
use Rattle.theory_compare.proofs.Compare.{Equal, Different, compare_accepted}
use Rattle.theory_claim.specs.Calls.{Codeword, Call, done_folds, after_folds, left_by}
use Rattle.theory_claim.specs.Claim.{Deposit, committed, left, done, level_of, PartWay, Lent, LastLent, After, Collided, Outcome, Claim, Theorem, Unkeyed}
use Rattle.theory_claim.proofs.Calls.{
  left-done,
  after_list,
  left-level,
  done-folds,
  folds-count,
  refused-among,
  refused_exist,
  fold-lent,
  shift-lent,
  InUse,
  rising-all,
  rising-remaining,
  calls_exist,
}
use Rattle.theory_claim.proofs.Levels.{fold_done, level-is, levels-lent, trees_lent_lem, roots_lent_lem}
use Rattle.theory_compare.specs.Compare.{message_buffer}
use Rattle.theory_record.specs.Scheme.{Scheme, scheme}

module _ (how : Trees) (n k : ℕ) (base table challenges : List ℕ) (d : Deposit n k base table challenges) where
  abbrev S : Scheme
  S = scheme how base n k

  abbrev s : Widths
  s = widths_of how.set

  abbrev start : Codeword
  start = committed how n k base table challenges

  abbrev c : List ℕ
  c = start.values

  sizes : SizesFit n k
  sizes = record { n_most = d.n_most; k_most = d.k_most; n_least = d.n_least }

  r-long : length (words challenges) ≡ n
  r-long = length-words-even challenges n d.challenges_long

  c-long : length c ≡ 2 ^ (n + k)
  unfolding committed_codeword
  c-long = length-encode n k _ (words table)

  c-words : Words c
  unfolding committed_codeword
  c-words = encode-lt n k _ (words table)

  list_long : length start.coordinates ≡ n
  list_long = length-tab n (λ i. i)

  in_use : InUse k n n start
  in_use =
      record {
        m-most = d.n_most;
        k_most = d.k_most;
        original_most = d.n_most;
        values-long = c-long;
        list_long = list_long;
        list_rises = rising-all n;
      }

  -- ---- 0
  commit_done : commit_number s n k (length base) (length table) (2 * (k * n)) (2 * length c) (length start.coordinates) (32 * tree_length s n k 0) ≡ 0
  unfolding commit_number
  commit_done =
      yes_all (commit_questions s n k (length base) (length table) (2 * (k * n)) (2 * length c) (length start.coordinates) (32 * tree_length s n k 0)) (
        le-leb n 20 d.n_most,
        (
          le-leb k 4 d.k_most,
          (
            eq-eqb _ _ d.table_long,
            (
              eq-eqb (2 * (k * n)) _ refl,
              (
                eq-eqb _ _ (ap (λ (x : ℕ). 2 * x) c-long),
                (eq-eqb _ n list_long, (eq-eqb (32 * tree_length s n k 0) _ refl, (le-leb _ 200 d.base_short, tt))),
              ),
            ),
          ),
        ),
      )

  commit_leaves : committed_tree S (words table) ≡ flat (tree_for S 0 c)
  unfolding committed_tree
  commit_leaves = refl

  tree-done : (l : ℕ) → l ≤ n
      → build_number (length (level_domain base l)) (level_length n k l) (level_width s n k l) (2 * level_length n k l) (32 * tree_length s n k l) ≡ 0
  tree-done l h =
      build_allowed s (powers how.set) n k l (length (level_domain base l)) (2 * level_length n k l) (32 * tree_length s n k l)
      (omega (arith, narrow how.set)) (sizes-small n k sizes)
      (omega (arith, level_domain-fits base l d.base_short (omega (arith, d.n_most)))) refl refl

  root-last : (l : ℕ) (values : List ℕ) → get_or (tree_for S l values) (tree_length s n k l - 1) [] ≡ root_for S l values
  unfolding tree_for root_for tree_length
  root-last l values =
      tree_of-root (under how.mode) (level_domain base l) (level_length n k l) (level_width s n k l) (level-shape s n k l (powers how.set)).tree values

  query_done : (ls ts out : List ℕ) (position : ℕ) → length ls ≡ 2 * levels_length n k
      → length ts ≡ 32 * tree_start s n k (suc n) → length out ≡ query_size s n k
      → position < 2 ^ (n + k) → build_query_number s n k ls ts position out ≡ 0
  query_done ls ts out position l t o low =
      build_query_lem s n k ls ts position out (record { sizes = sizes; levels_long = l; trees_long = t; out_long = o; position_low = low })

  tail-done : (last tree out : List ℕ) → length last ≡ 2 * level_length n k n → length tree ≡ 32 * tree_length s n k n → length out ≡ tail_size s n k
      → build_tail_number s n k last tree out ≡ 0
  tail-done last tree out l t o = build_tail_lem s n k last tree out (record { sizes = sizes; level-long = l; tree_long = t; out_long = o })

  -- ---- 2: after any calls
  module _ (calls : List Call) where
    abbrev fs : List Fold
    fs = done how n k base table challenges calls

    abbrev m : ℕ
    m = length (left how n k base table challenges calls).coordinates

    values_are : (left how n k base table challenges calls).values ≡ folds_list fs c
    values_are = ap (λ (x : Codeword). x.values) (left-done calls start)

    list_is : (left how n k base table challenges calls).coordinates ≡ remaining fs (all_coordinates n)
    list_is = ap (λ (x : Codeword). x.coordinates) (left-done calls start)

    folds-done : Folds n m fs
    folds-done = subst (λ (i : ℕ). Folds i m fs) list_long (done-folds calls start)

    values-long : length (left how n k base table challenges calls).values ≡ 2 ^ (m + k)
    unfolding committed_codeword
    values-long = ap length (values_are ∙ folds_code fs k (gammas hash base n k) (words table) folds-done) ∙ length-tab (2 ^ (m + k)) _

    entry : (eps v : ℕ) → eps < 2 ^ k → v < 2 ^ m
        → at (left how n k base table challenges calls).values (eps * 2 ^ m + v)
        ≡ block (shift_over n k (gammas hash base n k) (left how n k base table challenges calls).coordinates eps)
        (folds (shifted fs (shift n k (gammas hash base n k) eps)) (at (words table))) v
    unfolding committed_codeword
    entry eps v he hv =
        ap (λ (x : List ℕ). at x (eps * 2 ^ m + v)) values_are
        ∙ folds_code_at fs k eps v (gammas hash base n k) (words table) folds-done he hv
        ∙ ap (λ (x : List ℕ). block (shift_over n k (gammas hash base n k) x eps) (folds (shifted fs (shift n k (gammas hash base n k) eps)) (at (words table))) v)
        (sym list_is)

    m-most : m ≤ 20
    m-most = omega (arith, folds-count fs folds-done, d.n_most)

    list_rises : rising 0 n (left how n k base table challenges calls).coordinates ≡ true
    list_rises = rw list_is (rising-remaining fs 0 n (all_coordinates n) (rising-all n))

    next-done : (var : ℕ) → var < m
        → fold_number m k n var (left how n k base table challenges calls).coordinates (2 * 2 ^ (m + k)) (2 * (2 ^ (m + k) / 2)) ≡ 0
    next-done var h =
        fold-lent m k n var (left how n k base table challenges calls).coordinates (2 * 2 ^ (m + k)) (2 * (2 ^ (m + k) / 2))
        (record {
          n_most = m-most;
          k_most = d.k_most;
          original_most = d.n_most;
          src_long = refl;
          out_long = refl;
          list_long = refl;
          list_rises = list_rises;
          below = h;
        })

    part_way : PartWay how n k base table challenges calls
    part_way =
        record {
          folds-done = folds-done;
          list_is = list_is;
          values-long = values-long;
          entry = entry;
          shift_done = shift-lent m k n _ (2 * (k * n)) (2 * m) m-most d.k_most d.n_most refl refl refl list_rises;
          next-done = next-done;
        }

  -- after calls whose done ones are n folds at variable 0 by r
  module _ (calls : List Call) (done : done_folds start calls ≡ at_first (words challenges)) where
    abbrev levels : ℕ → List ℕ
    levels = level_of how n k base table challenges calls

    abbrev folded : ℕ → List ℕ
    folded = level c (words challenges)

    level-long : (l : ℕ) → l ≤ n → length (levels l) ≡ level_length n k l
    level-long l h =
        ap length (level-is how n k base table challenges d.challenges_long calls done l h)
        ∙ (codeword-sized n k c (words challenges) c-long (sizes-small n k sizes) c-words).long l h

    level_list : (l : ℕ) → l ≤ n → (after_folds start calls l).coordinates ≡ drop l (all_coordinates n)
    level_list l h = after_list calls start (words challenges) done l (rw r-long h)

    last-left : (left_by start calls).values ≡ levels n
    last-left =
        left-level calls start (words challenges) done ∙ ap folded r-long
        ∙ sym (level-is how n k base table challenges d.challenges_long calls done n (omega arith))

    last_entry : (eps : ℕ) → eps < 2 ^ k → at (levels n) eps ≡ mle (at (words table)) (add_point (words challenges) (shift n k (gammas hash base n k) eps))
    unfolding committed_codeword
    last_entry eps h =
        ap (λ (x : List ℕ). at x eps) (level-is how n k base table challenges d.challenges_long calls done n (omega arith))
        ∙ last-level-at n k eps (gammas hash base n k) (words table) (words challenges) r-long h

    query_record : (ls ts roots : List ℕ) → Lent how n k base table challenges calls ls ts roots → (position : ℕ) → position < 2 ^ (n + k)
        → (out : List ℕ) → length out ≡ query_size s n k
        → check_query S position challenges roots (build_query s n k ls ts position out) ≡ accepted
    query_record ls ts roots z position low out long =
        let e : ts ≡ trees_lent S folded = z.trees_are ∙ trees_lent_lem how n k base table challenges d.challenges_long calls done in
        let sized = codeword-sized n k c (words challenges) c-long (sizes-small n k sizes) c-words in
        let t : length (trees_lent S folded) ≡ 32 * tree_start s n k (suc n) = length-trees_lent S (length-under how.mode) (powers how.set) folded sized in
        let b : QueryBuild s n k ls ts position out =
        record { sizes = sizes; levels_long = z.levels_long; trees_long = ap length e ∙ t; out_long = long; position_low = low } in
        let levels-same = levels-lent how n k base table challenges d.challenges_long calls done in
        let roots_same = roots_lent_lem how n k base table challenges d.challenges_long calls done in
        rw (build_query_done s n k ls ts position out b, z.levels_are, levels-same, e, z.roots_are, roots_same)
        (committed_query S (length-under how.mode) (powers how.set) d.base_short sizes c c-long c-words challenges d.challenges_long position low)

    tail_record : (last tree root : List ℕ) → LastLent how n k base table challenges calls last tree root → (out : List ℕ) → length out ≡ tail_size s n k
        → (claim : ℕ) → (check_tail S root claim (build_tail s n k last tree out) ≡ 0) ↔ (claim ≡ mle (at (words table)) (words challenges))
    unfolding committed_codeword
    tail_record last tree root z out long claim =
        let same : levels n ≡ folded n = level-is how n k base table challenges d.challenges_long calls done n (omega arith) in
        let t : length tree ≡ 32 * tree_length s n k n =
        ap length z.tree_is ∙ length-flat 32 (tree_for S n (levels n)) (tree_for-long S (length-under how.mode) n (levels n))
        ∙ ap (λ (x : ℕ). 32 * x) (length-tree_for S n (levels n) (powers how.set)) in
        let b : TailBuild s n k last tree out = record { sizes = sizes; level-long = z.level-long; tree_long = t; out_long = long } in
        let claim-is = claim-is-P n k (gammas hash base n k) (words table) challenges d.challenges_long in
        rw (build_tail-done s n k last tree out b, z.level-is, z.tree_is, z.root_is, same, ← claim-is)
        (committed-tail S (length-under how.mode) (powers how.set) d.base_short sizes c c-long c-words challenges d.challenges_long claim)

    after : After how n k base table challenges calls
    after =
        record {
          level-long = level-long;
          level_list = level_list;
          last-left = last-left;
          last_entry = last_entry;
          query_record = query_record;
          tail_record = tail_record;
        }

  -- ---- 4
  two_records : (position : ℕ) (rs roots u v old old' : List ℕ) → Bytes u → Bytes v → length old ≡ message_buffer → length old' ≡ message_buffer
      → check_query S position rs roots u ≡ accepted → check_query S position rs roots v ≡ accepted
      → Outcome how n k base table challenges position rs roots u v old old'
  two_records position rs roots u v old old' bu bv e e' au av =
      ⊎_elim
      (λ (x : Equal S position rs roots u v old old'). inl (x.gives_33, x.are_same))
      (λ (x : Different S position rs roots u v old old'). inr (collided x))
      (compare_accepted S position rs roots u v old old' (length-under how.mode) (powers how.set) (leaves_fit how.set) bu bv e e'
      (ap (λ (a : Answer). a.number) au) (ap (λ (a : Answer). a.number) av))
    where
      collided : Different S position rs roots u v old old' → Collided how n k base table challenges position rs roots u v old old'
      collided x =
          record {
            gives_0 = x.gives_0;
            unequal = x.are_not;
            differ = x.differ;
            one_digest = x.one_digest;
            lengths = (x.first-long, x.second_long);
            fit = (omega (arith, x.first-long, x.first_fits, e), omega (arith, x.second_long, x.second_fits, e'));
            nearest = x.nearest;
          }

  few-groups : level_groups s n k n < 2 ^ 32
  few-groups = omega (arith, (groups_some s (powers how.set) n k n (level_groups s n k n) (sizes-small n k sizes) refl).1)

  -- the whole
  parts : Claim how n k base table challenges
  parts =
      record {
        commit_done = commit_done;
        commit_leaves = commit_leaves;
        fold_done = λ l h. fold_done n k l d.n_most d.k_most h;
        tree-done = tree-done;
        root-last = λ l h values. root-last l values;
        query_done = query_done;
        tail-done = tail-done;
        calls_exist = calls_exist k n (at_first (words challenges)) start in_use (folds-first n 0 (words challenges) (omega (arith, r-long)));
        any_folds = λ fs hs. calls_exist k n fs start in_use hs;
        refused-among = λ before behind x bad. refused-among before behind start x bad;
        refused_exist = refused_exist;
        part_way = part_way;
        after_calls = after;
        query_exactly = λ position rs roots bytes b. query_exactly S position rs roots bytes b;
        tail_exactly = λ root claim bytes b. tail_exactly S root claim bytes b few-groups;
        two_records = two_records;
      }

pub claim : Theorem
claim = parts

pub unkeyed : Unkeyed
unkeyed how how' n k base table challenges = (refl, λ eps. refl, λ calls. refl)
