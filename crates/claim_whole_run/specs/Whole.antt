-- The whole run under one set of widths: a table committed, a list of fold calls on its codeword with its list, the levels' trees and roots, both records and their
-- checks, and two lent records compared. What is lent to it, what it leaves, and what the claim (SPECIFICATION 10.2) says of that, clause by clause.
use Rattle.std.specs.Prelude.{ℕ, suc, ◌+◌, ◌-◌, ◌*◌, ◌/◌, ◌^◌, ◌<◌, ◌≤◌, ◌≡◌, ◌↔◌, ◌⊎◌, Result, Ok, Err, List, [], ◌∷◌, ◌++◌, length, take, drop, get_or}
use denote.Triple.Both.{Both}
use Rattle.theory_laws.specs.Table.{tab, at}
use Rattle.theory_field.specs.Words.{words}
use Rattle.theory_multilinear.specs.Multilinear.{mle}
use Rattle.theory_multilinear.specs.Folds.{Fold, Folds, folds, at_first, remaining, shifted}
use Rattle.theory_multilinear.specs.Codeword.{shift, all_coordinates, shift_over, block}
use Rattle.theory_multilinear.specs.Points.{add_point}
use Rattle.theory_blake3.specs.Digest.{hash}
use Rattle.theory_code.specs.Gammas.{gammas}
use Rattle.theory_code.specs.Questions.{shift_number, fold_number}
use Rattle.theory_merkle.specs.Numbers.{build_number}
use Rattle.theory_record.specs.declared.Trees.{Trees}
use Rattle.theory_record.specs.declared.Deposit.{Deposit}
use Rattle.theory_laws.specs.Refusals.{number_of, answered}
use Rattle.theory_laws.specs.declared.Refusal.{Refusal}
use Rattle.theory_record.specs.Widths.{widths_of, level_length, level_width, tree_length}
use Rattle.theory_record.specs.Domain.{level_domain}
use Rattle.theory_record.specs.Trees.{tree_for}
use Rattle.theory_record.specs.Query.{Answer, accepted, root_at, check_query}
use Rattle.theory_record.specs.Tail.{check_tail}
use Rattle.theory_record.specs.Accepted.{AcceptedQuery, AcceptedTail}
use Rattle.theory_record.specs.Build.{level_values, build_query_number, build_query, build_tail_number, build_tail}
use Rattle.theory_record.specs.Scheme.{Scheme, scheme}
use Rattle.record_query_check.specs.Answer.{answer}
use Rattle.theory_compare.specs.Compare.{Comparison, compared, first_message, second_message, message_buffer}
use Rattle.theory_compare.specs.Nearest.{NearestRoot}
use Rattle.theory_compare.specs.Lent.{Slice, MutSlice}
use Rattle.compare_records.specs.Answers.{comparison}
use Rattle.theory_claim.specs.Commit.{commit_number, committed_in_use}
use Rattle.theory_claim.specs.Calls.{Codeword, Call, call_number, done_folds, after_folds, left_by}
use Rattle.claim_fold_calls.specs.Lent.{lent_calls}
use Rattle.claim_run_parts.specs.Questions.{run_number}
use Rattle.claim_run_parts.specs.Parts.{Deposited, last_level, last_tree, last_root}
use Rattle.claim_whole_run.specs.declared.Answers.{Answers}

-- ---- what is lent

-- how the trees are made, the numbers, and what is lent for reading: base domain, table, fold calls and their challenges, two records to compare
pub record Given : Type 0 where
  pub how : Trees
  pub n : ℕ
  pub k : ℕ
  pub position : ℕ
  pub claim : ℕ
  pub base : List ℕ
  pub table : List ℕ
  pub calls : List ℕ
  pub challenges : List ℕ
  pub first : List ℕ
  pub second : List ℕ

-- what is lent for writing: one buffer for each thing that a run leaves, and `half`, room for a fold
pub record Buffers : Type 0 where
  pub gammas : List ℕ
  pub levels : List ℕ
  pub coordinates : List ℕ
  pub half : List ℕ
  pub kept : List ℕ
  pub trees : List ℕ
  pub roots : List ℕ
  pub query : List ℕ
  pub tail : List ℕ
  pub one : List ℕ
  pub two : List ℕ

-- these, of the deposit and the slices that a contract names
abbrev pub given : Deposit → ℕ → ℕ → Slice → Slice → Slice → Slice → Slice → Given
given fixed position claim table calls challenges first second =
    record {
      how = fixed.how;
      n = fixed.n;
      k = fixed.k;
      position = position;
      claim = claim;
      base = fixed.base.now;
      table = table.entry.now;
      calls = calls.entry.now;
      challenges = challenges.entry.now;
      first = first.entry.now;
      second = second.entry.now;
    }

abbrev pub buffers :
    MutSlice → MutSlice → MutSlice → MutSlice → MutSlice → MutSlice → MutSlice → MutSlice → MutSlice → MutSlice → MutSlice → Both Buffers Buffers
buffers gammas levels coordinates half kept trees roots query tail one two =
    record {
      entry = record {
        gammas = gammas.entry.now;
        levels = levels.entry.now;
        coordinates = coordinates.entry.now;
        half = half.entry.now;
        kept = kept.entry.now;
        trees = trees.entry.now;
        roots = roots.entry.now;
        query = query.entry.now;
        tail = tail.entry.now;
        one = one.entry.now;
        two = two.entry.now;
      };
      exit = record {
        gammas = gammas.exit.now;
        levels = levels.exit.now;
        coordinates = coordinates.exit.now;
        half = half.exit.now;
        kept = kept.exit.now;
        trees = trees.exit.now;
        roots = roots.exit.now;
        query = query.exit.now;
        tail = tail.exit.now;
        one = one.exit.now;
        two = two.exit.now;
      };
    }

-- the number that a run answers
abbrev pub number_for : Given → Buffers → ℕ
number_for G B =
    run_number (widths_of G.how.set) G.n G.k G.position (length G.base) (length G.table) (length G.calls) (length G.challenges)
    (length B.gammas) (length B.levels) (length B.coordinates) (length B.half) (length B.kept) (length B.trees) (length B.roots)
    (length B.query) (length B.tail) (length B.one) (length B.two)

-- what a run answers, in numbers: its own; how many calls are done; what the check of the query record answered, and the number of the tail record's;
-- and what comparing the two lent records answered
pub record RunAnswer : Type 0 where
  pub number : ℕ
  pub done : ℕ
  pub query : Answer
  pub tail : ℕ
  pub compared : Comparison

-- ---- what a run leaves

module _ (G : Given) where
  open G use {how, n, k, position, claim, base, table, calls, challenges, first, second}

  -- what the deposit fixes, the codeword and its list as `commit` leaves them, and the calls on it
  abbrev pub S : Scheme
  S = scheme how base n k

  abbrev pub codeword : Codeword
  codeword = committed_in_use base n k (words table)

  abbrev pub made : List Call
  made = lent_calls calls (words challenges)

  abbrev pub folded : List Fold
  folded = done_folds codeword made

  -- from the buffers as they were to the buffers as they are
  module _ (old new : Buffers) where
    open new use {levels, coordinates, kept, trees, roots}

    abbrev pub level : ℕ → List ℕ
    level l = level_values n k (words levels) l

    -- level l with the coordinates from l on, and its fold by the challenge that is kept for it
    abbrev pub in_use : ℕ → Codeword
    in_use l = record { values = level l; coordinates = drop l (all_coordinates n) }

    abbrev pub kept_call : ℕ → Call
    kept_call l = record { n = n - l; k = k; original = n; var = 0; by = at (words kept) l; room = 2 * level_length n k (suc l) }

    -- after any calls, of which `done` are done, at any variables: they are folds at variables that were still there; the list has the coordinates that they
    -- did not fold away, zeros behind it; and block eps of the codeword that is left is block eps of the encoding, under those coordinates, of the table folded
    -- at the same variables, each challenge replaced by its sum with the entry of L(eps) at the folded coordinate; so it can be taken up: reading L from the list is
    -- done, and folding at each variable that is left
    pub record PartWay (done : ℕ) : Type 0 where
      pub count : done ≡ length folded
      pub folds-done : Folds n (n - done) folded
      pub list_is : coordinates ≡ remaining folded (all_coordinates n) ++ tab done (λ v. 0)
      pub left_is : left_by codeword made ≡ record { values = level done; coordinates = take (n - done) coordinates }
      pub entry : (eps v : ℕ) → eps < 2 ^ k → v < 2 ^ (n - done)
          → at (level done) (eps * 2 ^ (n - done) + v)
          ≡ block (shift_over n k (gammas hash base n k) (take (n - done) coordinates) eps)
          (folds (shifted folded (shift n k (gammas hash base n k) eps)) (at (words table))) v
      pub shift_done : shift_number (n - done) k n (take (n - done) coordinates) (2 * (k * n)) (2 * (n - done)) ≡ 0
      pub next-done : (var : ℕ) → var < n - done
          → fold_number (n - done) k n var (take (n - done) coordinates) (2 * 2 ^ (n - done + k)) (2 * (2 ^ (n - done + k) / 2)) ≡ 0

    -- where the done calls are n folds at variable 0 by r: r is kept, every level has its length, the calls leave the last one, its entry eps is
    -- P(r + L(eps)), the query record is accepted, and the tail record exactly for the claim P(r)
    pub record AfterCalls (r : List ℕ) (query : Answer) (tail : ℕ) : Type 0 where
      pub kept_are : words kept ≡ r
      pub level-long : (l : ℕ) → l ≤ n → length (level l) ≡ level_length n k l
      pub level_list : (l : ℕ) → l ≤ n → (after_folds codeword made l).coordinates ≡ drop l (all_coordinates n)
      pub last-left : (left_by codeword made).values ≡ level n
      pub last_entry : (eps : ℕ) → eps < 2 ^ k → at (level n) eps ≡ mle (at (words table)) (add_point r (shift n k (gammas hash base n k) eps))
      pub query_accepted : query ≡ accepted
      pub tail-accepted : (tail ≡ 0) ↔ (claim ≡ mle (at (words table)) r)

    -- the two messages that comparing left, each to its length: they differ, have one digest, and are the ones nearest the root
    module _ (found : Comparison) where
      abbrev pub message : List ℕ
      message = take found.first new.one

      abbrev pub message' : List ℕ
      message' = take found.second new.two

      pub record Differ : Type 0 where
        pub unequal : first ≡ second → ⊥
        pub differ : message ≡ message' → ⊥
        pub one_digest : S.digest message ≡ S.digest message'
        pub lengths : (length message ≡ found.first) × (length message' ≡ found.second)
        pub fit : (found.first ≤ message_buffer) × (found.second ≤ message_buffer)
        pub nearest : NearestRoot S position first second message message'

      -- 33 and the records are equal, or 0 and such messages
      abbrev pub Settled : Type 0
      Settled = ((found.number ≡ 33) × (first ≡ second)) ⊎ ((found.number ≡ 0) × Differ)

    -- what the claim says of a run, clause by clause: of the number of done calls, the query check's answer, the tail check's number and what comparing
    -- answered
    pub record Claimed (done : ℕ) (query : Answer) (tail : ℕ) (found : Comparison) : Type 0 where
      -- 0. committing, the fold of each level by its kept challenge, its tree and both records are done; the last digest of a tree is its root
      pub commit_done :
          commit_number S.widths n k (length base) (length table) (length old.gammas) (2 * length codeword.values) (length old.coordinates)
          (32 * tree_length S.widths n k 0) ≡ 0
      pub fold_done : (l : ℕ) → l < n → call_number (in_use l) (kept_call l) ≡ 0
      pub tree-done : (l : ℕ) → l ≤ n
          → build_number (length (level_domain base l)) (level_length n k l) (level_width S.widths n k l) (2 * level_length n k l)
          (32 * tree_length S.widths n k l) ≡ 0
      pub root-last : (l : ℕ) → l ≤ n → get_or (tree_for S l (level l)) (tree_length S.widths n k l - 1) [] ≡ root_at roots l
      pub query_done : build_query_number S.widths n k levels trees position old.query ≡ 0
      pub tail-done : build_tail_number S.widths n k (last_level n k levels) (last_tree S.widths n k trees) old.tail ≡ 0
      -- 1. there are calls that do n folds at variable 0 by what is kept, and calls for any folds at variables that are still there; a refused call anywhere
      -- among the lent ones changes nothing, and there is one for every level
      pub calls_exist : (xs : List Call) × (done_folds codeword xs ≡ at_first (words kept))
      pub any_folds : {m : ℕ} (fs : List Fold) → Folds n m fs → (xs : List Call) × (done_folds codeword xs ≡ fs)
      pub refused-among : (before after : List Call) (x : Call) → made ≡ before ++ x ∷ after → (call_number (left_by codeword before) x ≡ 0 → ⊥)
          → done_folds codeword made ≡ done_folds codeword (before ++ after)
      pub refused_exist : (l : ℕ) → (x : Call) × (call_number (in_use l) x ≡ 4)
      -- 2. after the lent calls, whatever they are, and where the done ones are n folds at variable 0
      pub part_way : PartWay done
      pub after_calls : (r : List ℕ) → length r ≡ n → done_folds codeword made ≡ at_first r → AfterCalls r query tail
      -- 3. what is in the buffers, and what was lent to compare, is accepted exactly when every listed check holds
      pub query_exactly : (query ≡ accepted) ↔ AcceptedQuery S position kept roots new.query
      pub first_exactly : (check_query S position kept roots first ≡ accepted) ↔ AcceptedQuery S position kept roots first
      pub second_exactly : (check_query S position kept roots second ≡ accepted) ↔ AcceptedQuery S position kept roots second
      pub tail_exactly : (tail ≡ 0) ↔ AcceptedTail S (last_root roots) claim new.tail
      -- 4. the two lent records, where both are accepted under what is kept and the roots
      pub two_records : check_query S position kept roots first ≡ accepted → check_query S position kept roots second ≡ accepted → Settled found

    -- the run: what is left, what the records are and what their checks answer, what comparing answers and leaves, and the claim of all that
    pub record Ran (r : RunAnswer) : Type 0 where
      pub deposited : Deposited how n k base table calls challenges old.levels old.kept new.gammas levels coordinates kept trees roots r.done
      pub half_cleared : new.half ≡ tab (length old.half) (λ v. 0)
      pub query_is : new.query ≡ build_query S.widths n k levels trees position old.query
      pub tail_is : new.tail ≡ build_tail S.widths n k (last_level n k levels) (last_tree S.widths n k trees) old.tail
      pub answer_is : r.query ≡ check_query S position kept roots new.query
      pub number_is : r.tail ≡ check_tail S (last_root roots) claim new.tail
      pub compared_is : r.compared ≡ compared S position kept roots first second old.one old.two
      pub one_is : new.one ≡ first_message S position kept roots first second old.one old.two
      pub two_is : new.two ≡ second_message S position kept roots first second old.one old.two
      pub claimed : Claimed r.done r.query r.tail r.compared

-- the answer of a refused run: every field but the number is 0
abbrev pub refusal : ℕ → RunAnswer
refusal number =
    record {
      number = number;
      done = 0;
      query = record { number = 0; level = 0 };
      tail = 0;
      compared = record { number = 0; first = 0; second = 0 };
    }

-- the answer of the code, in numbers
abbrev pub of_done : Answers → RunAnswer
of_done a = record { number = 0; done = a.done; query = answer a.query; tail = answered a.tail; compared = comparison a.compared }

abbrev pub in_numbers : Result Answers Refusal → RunAnswer
in_numbers (Ok a) = of_done a
in_numbers (Err e) = refusal (number_of e)

-- what the entry ensures: its number; refused, every other field 0 and every buffer as it was; done, what a run leaves
pub record RunLeft (G : Given) (B : Both Buffers Buffers) (r : RunAnswer) : Type 0 where
  pub number_is : r.number ≡ number_for G B.entry
  pub refused : (r.number ≡ 0 → ⊥) → (r ≡ refusal r.number) × (B.exit ≡ B.entry)
  pub done : r.number ≡ 0 → Ran G B.entry B.exit r
