-- The single claim (SPECIFICATION 10), about a deposit, any list of fold calls on its codeword, the records after it, and any two accepted
-- records for one position. It speaks of the definitions that the contracts of `commit`, `fold`, `build` (of a
-- tree), `build_query`, `check_query`, `build_tail`, `check_tail` and `compare` cite. proofs/Claim proves it.
use Rattle.std.specs.Prelude.{ℕ, suc, ◌+◌, ◌-◌, ◌*◌, ◌/◌, ◌^◌, ◌<◌, ◌≤◌, ◌≡◌, ◌↔◌, ◌⊎◌, List, [], ◌∷◌, ◌++◌, length, take, drop, get_or}
use Rattle.theory_laws.specs.Table.{at}
use Rattle.theory_laws.specs.Lists.{flat, Bytes}
use Rattle.theory_field.specs.Words.{words}
use Rattle.theory_multilinear.specs.Multilinear.{mle}
use Rattle.theory_multilinear.specs.Folds.{Fold, Folds, folds, at_first, remaining, shifted}
use Rattle.theory_multilinear.specs.Codeword.{shift, all_coordinates, shift_over, block}
use Rattle.theory_multilinear.specs.Points.{add_point}
use Rattle.theory_blake3.specs.Digest.{hash}
use Rattle.theory_code.specs.Gammas.{gammas}
use Rattle.theory_code.specs.Questions.{shift_number, fold_number}
use Rattle.theory_merkle.specs.Numbers.{build_number}
use Rattle.theory_record.specs.declared.Trees.{Trees}
use Rattle.theory_record.specs.Widths.{level_length, level_width, tree_length}
use Rattle.theory_record.specs.Domain.{level_domain}
use Rattle.theory_record.specs.Trees.{tree_for, root_for, levels_lent, trees_lent, roots_lent}
use Rattle.theory_record.specs.Sizes.{query_size, tail_size}
use Rattle.theory_record.specs.Query.{accepted, check_query}
use Rattle.theory_record.specs.Tail.{check_tail}
use Rattle.theory_record.specs.Accepted.{AcceptedQuery, AcceptedTail}
use Rattle.theory_record.specs.Build.{levels_length, tree_start, build_query_number, build_query, build_tail_number, build_tail}
use Rattle.theory_claim.specs.Commit.{commit_number, committed_in_use, committed_tree}
use Rattle.theory_compare.specs.Compare.{Comparison, compared, first_message, second_message, message_buffer}
use Rattle.theory_compare.specs.Nearest.{NearestRoot}
use Rattle.theory_claim.specs.Calls.{Codeword, Call, call_number, done_folds, after_folds, left_by}
use Rattle.theory_record.specs.Scheme.{Scheme, scheme}

-- the ranges: n from 1 to 20, k at most 4, a base domain of at most 200 bytes, a table of 2^n words and n challenges, each word lent as two halves
pub record Deposit (n k : ℕ) (base table challenges : List ℕ) : Type 0 where
  pub n_least : 1 ≤ n
  pub n_most : n ≤ 20
  pub k_most : k ≤ 4
  pub base_short : length base ≤ 200
  pub table_long : length table ≡ 2 * 2 ^ n
  pub challenges_long : length challenges ≡ 2 * n

module _ (how : Trees) (n k : ℕ) (base table challenges : List ℕ) where
  -- what the deposit fixes: digest and widths of its trees, base domain, n and k
  abbrev pub S : Scheme
  S = scheme how base n k

  -- P and L of the table as committed, and r
  abbrev pub P : List ℕ → ℕ
  P z = mle (at (words table)) z

  abbrev pub L : ℕ → List ℕ
  L eps = shift n k (gammas hash base n k) eps

  abbrev pub r : List ℕ
  r = words challenges

  -- the codeword and its list as `commit` leaves them
  abbrev pub committed : Codeword
  committed = committed_in_use base n k (words table)

  -- ---- what a list of calls leaves, and the records after it

  module _ (calls : List Call) where
    -- the codeword and the list that are left, and the folds that were done
    abbrev pub left : Codeword
    left = left_by committed calls

    abbrev pub done : List Fold
    done = done_folds committed calls

    -- level l: the codeword after l done folds
    abbrev pub level_of : ℕ → List ℕ
    level_of l = (after_folds committed calls l).values

    -- levels, trees and roots lent end to end, level 0 first: each level's tree is built at the level's width under its level domain
    pub record Lent (levels trees roots : List ℕ) : Type 0 where
      pub levels_long : length levels ≡ 2 * levels_length n k
      pub levels_are : words levels ≡ levels_lent n level_of
      pub trees_are : trees ≡ trees_lent S level_of
      pub roots_are : roots ≡ roots_lent S level_of

    -- the last level and its tree, lent by themselves
    pub record LastLent (level tree root : List ℕ) : Type 0 where
      pub level-long : length level ≡ 2 * level_length n k n
      pub level-is : words level ≡ level_of n
      pub tree_is : tree ≡ flat (tree_for S n (level_of n))
      pub root_is : root ≡ root_for S n (level_of n)

    -- what holds after any calls, at any variables, m coordinates being left
    abbrev pub m : ℕ
    m = length left.coordinates

    -- the lengths of a codeword of m coordinates and of half of it, in halves
    abbrev pub whole : ℕ
    whole = 2 * 2 ^ (m + k)

    abbrev pub half : ℕ
    half = 2 * (2 ^ (m + k) / 2)

    pub record PartWay : Type 0 where
      -- the done calls are folds at variables that were still there; the list has the coordinates that they did not fold away
      pub folds-done : Folds n m done
      pub list_is : left.coordinates ≡ remaining done (all_coordinates n)
      pub values-long : length left.values ≡ 2 ^ (m + k)
      -- block eps is block eps of the encoding, under the coordinates that are left, of the table folded at the same variables, each challenge
      -- replaced by its sum with the entry of L(eps) at the folded coordinate
      pub entry : (eps v : ℕ) → eps < 2 ^ k → v < 2 ^ m
          → at left.values (eps * 2 ^ m + v)
          ≡ block (shift_over n k (gammas hash base n k) left.coordinates eps) (folds (shifted done (L eps)) (at (words table))) v
      -- so it can be taken up: reading L from the list is done, and folding it at each variable that is left
      pub shift_done : shift_number m k n left.coordinates (2 * (k * n)) (2 * m) ≡ 0
      pub next-done : (var : ℕ) → var < m → fold_number m k n var left.coordinates whole half ≡ 0

    -- what holds after calls whose done ones are n folds at variable 0 by r
    pub record After : Type 0 where
      -- what the calls leave is the last level, and its entry eps is P(r + L(eps)); level l has the coordinates from l on
      pub level-long : (l : ℕ) → l ≤ n → length (level_of l) ≡ level_length n k l
      pub level_list : (l : ℕ) → l ≤ n → (after_folds committed calls l).coordinates ≡ drop l (all_coordinates n)
      pub last-left : left.values ≡ level_of n
      pub last_entry : (eps : ℕ) → eps < 2 ^ k → at (level_of n) eps ≡ P (add_point r (L eps))
      -- the query record that is built at any position is accepted there
      pub query_record : (levels trees roots : List ℕ) → Lent levels trees roots → (position : ℕ) → position < 2 ^ (n + k)
          → (out : List ℕ) → length out ≡ query_size S.widths n k
          → check_query S position challenges roots (build_query S.widths n k levels trees position out) ≡ accepted
      -- the tail record that is built is accepted exactly for the claim P(r)
      pub tail_record : (level tree root : List ℕ) → LastLent level tree root → (out : List ℕ) → length out ≡ tail_size S.widths n k
          → (claim : ℕ) → (check_tail S root claim (build_tail S.widths n k level tree out) ≡ 0) ↔ (claim ≡ P r)

  -- ---- what comparing two records for one position leaves, lent two buffers

  module _ (position : ℕ) (rs roots u v old old' : List ℕ) where
    -- the number and the lengths, and the messages, each to its length in its buffer
    abbrev pub answer : Comparison
    answer = compared S position rs roots u v old old'

    abbrev pub message : List ℕ
    message = take answer.first (first_message S position rs roots u v old old')

    abbrev pub message' : List ℕ
    message' = take answer.second (second_message S position rs roots u v old old')

    -- 0: they are not equal, and the two messages differ, have one digest, have room in their buffers and are the ones nearest the root
    pub record Collided : Type 0 where
      pub gives_0 : answer.number ≡ 0
      pub unequal : u ≡ v → ⊥
      pub differ : message ≡ message' → ⊥
      pub one_digest : S.digest message ≡ S.digest message'
      pub lengths : (length message ≡ answer.first) × (length message' ≡ answer.second)
      pub fit : (answer.first ≤ length old) × (answer.second ≤ length old')
      pub nearest : NearestRoot S position u v message message'

    -- 33 and they are equal; or 0
    abbrev pub Outcome : Type 0
    Outcome = ((answer.number ≡ 33) × (u ≡ v)) ⊎ Collided

  -- ---- the claim

  pub record Claim : Type 0 where
    -- 0. lent their sizes, these answer 0: committing, which leaves level 0's tree; a fold of level l with its list; building its tree, of which
    -- the last digest is the root; building records
    pub commit_done :
        commit_number S.widths n k (length base) (length table) (2 * (k * n)) (2 * length committed.values) (length committed.coordinates)
        (32 * tree_length S.widths n k 0) ≡ 0
    pub commit_leaves : committed_tree S (words table) ≡ flat (tree_for S 0 committed.values)
    pub fold_done : (l : ℕ) → l < n
        → fold_number (n - l) k n 0 (drop l (all_coordinates n)) (2 * level_length n k l) (2 * level_length n k (suc l)) ≡ 0
    pub tree-done : (l : ℕ) → l ≤ n
        → build_number (length (level_domain base l)) (level_length n k l) (level_width S.widths n k l) (2 * level_length n k l)
        (32 * tree_length S.widths n k l) ≡ 0
    pub root-last : (l : ℕ) → l ≤ n → (values : List ℕ) → get_or (tree_for S l values) (tree_length S.widths n k l - 1) [] ≡ root_for S l values
    pub query_done : (levels trees out : List ℕ) (position : ℕ) → length levels ≡ 2 * levels_length n k → length trees ≡ 32 * tree_start S.widths n k (suc n)
        → length out ≡ query_size S.widths n k → position < 2 ^ (n + k) → build_query_number S.widths n k levels trees position out ≡ 0
    pub tail-done : (level tree out : List ℕ) → length level ≡ 2 * level_length n k n → length tree ≡ 32 * tree_length S.widths n k n
        → length out ≡ tail_size S.widths n k → build_tail_number S.widths n k level tree out ≡ 0
    -- 1. there is a list of calls whose done ones are n folds at variable 0 by r, and one for any folds at variables that are still there; a
    -- refused call anywhere in a list changes nothing, and there is one for every codeword
    pub calls_exist : (calls : List Call) × (done_folds committed calls ≡ at_first r)
    pub any_folds : {m : ℕ} (fs : List Fold) → Folds n m fs → (calls : List Call) × (done_folds committed calls ≡ fs)
    pub refused-among : (before after : List Call) (x : Call) → (call_number (left_by committed before) x ≡ 0 → ⊥)
        → done_folds committed (before ++ x ∷ after) ≡ done_folds committed (before ++ after)
    pub refused_exist : (c : Codeword) → (x : Call) × (call_number c x ≡ 4)
    -- 2. after every list of calls, and after every list whose done calls are n folds at variable 0 by r
    pub part_way : (calls : List Call) → PartWay calls
    pub after_calls : (calls : List Call) → done_folds committed calls ≡ at_first r → After calls
    -- 3. bytes are accepted exactly when every listed check holds, whatever the position, challenges, roots and claim
    pub query_exactly : (position : ℕ) (rs roots bytes : List ℕ) → Bytes bytes
        → (check_query S position rs roots bytes ≡ accepted) ↔ AcceptedQuery S position rs roots bytes
    pub tail_exactly : (root : List ℕ) (claim : ℕ) (bytes : List ℕ) → Bytes bytes → (check_tail S root claim bytes ≡ 0) ↔ AcceptedTail S root claim bytes
    -- 4. two byte strings that the check accepts for one position, whatever the challenges and roots, compared with buffers of 1,024 bytes
    pub two_records : (position : ℕ) (rs roots u v old old' : List ℕ) → Bytes u → Bytes v → length old ≡ message_buffer → length old' ≡ message_buffer
        → check_query S position rs roots u ≡ accepted → check_query S position rs roots v ≡ accepted
        → Outcome position rs roots u v old old'

-- The theorem, for either set of widths and any mode, one of each throughout: nothing is assumed but the ranges.
abbrev pub Theorem : Type 0
Theorem = (how : Trees) (n k : ℕ) (base table challenges : List ℕ) → Deposit n k base table challenges → Claim how n k base table challenges

-- Gammas are unkeyed: the codeword as committed, L, and what any calls leave are the same under every mode of the trees, and either set of widths.
abbrev pub Unkeyed : Type 0
Unkeyed = (how how' : Trees) (n k : ℕ) (base table challenges : List ℕ)
    → (committed how n k base table challenges ≡ committed how' n k base table challenges)
    × ((eps : ℕ) → L how n k base table challenges eps ≡ L how' n k base table challenges eps)
    × ((calls : List Call) → left how n k base table challenges calls ≡ left how' n k base table challenges calls)
