-- What is lent to the parts of a run, by its length: n, k and the base domain within their ranges, what is read, and room for what is left.
use Rattle.std.specs.Prelude.{ℕ, suc, ◌+◌, ◌*◌, ◌^◌, ◌<◌, ◌≤◌, ◌≡◌, List, length, take, drop}
use Rattle.std.specs.Borrow.{Bor, MutBor}
use Rattle.theory_field.specs.Words.{words}
use Rattle.theory_multilinear.specs.Codeword.{all_coordinates}
use Rattle.theory_blake3.specs.Digest.{hash}
use Rattle.theory_code.specs.Gammas.{gammas}
use Rattle.theory_record.specs.declared.Trees.{Trees}
use Rattle.theory_record.specs.declared.Deposit.{Deposit}
use Rattle.theory_record.specs.Widths.{Widths, widths_of, level_length, tree_length}
use Rattle.theory_record.specs.Accepted.{SizesFit}
use Rattle.theory_record.specs.Sizes.{query_size, tail_size}
use Rattle.theory_record.specs.Build.{levels_length, tree_start, level_values, build_tail}
use Rattle.theory_record.specs.Trees.{tree_for}
use Rattle.theory_record.specs.Scheme.{scheme}
use Rattle.theory_laws.specs.Lists.{flat}
use Rattle.theory_claim.specs.Commit.{committed_codeword}
use Rattle.theory_compare.specs.Compare.{message_buffer}
use Rattle.theory_compare.specs.Lent.{Slice, MutSlice}
use Rattle.claim_fold_calls.specs.helpers.Laid.{CallsLent}
use Rattle.claim_run_parts.specs.Parts.{Deposited, last_level, last_tree}

-- for committing: a table of 2^n words, room for the gammas and the list of coordinates, and at least for level 0 and its tree
pub record CommitRoom (s : Widths) (n k base table gammas levels coordinates trees : ℕ) : Type 0 where
  pub sizes : SizesFit n k
  pub base_short : base ≤ 200
  pub table_long : table ≡ 2 * 2 ^ n
  pub gammas_long : gammas ≡ 2 * (k * n)
  pub levels_long : levels ≡ 2 * levels_length n k
  pub list_long : coordinates ≡ n
  pub trees_long : trees ≡ 32 * tree_start s n k (suc n)

-- and for the levels: five numbers and a challenge for each call, room for a fold, n challenges and all roots
pub record Room (s : Widths) (n k base table calls challenges gammas levels coordinates half kept trees roots : ℕ) : Type 0 where
  pub commit : CommitRoom s n k base table gammas levels coordinates trees
  pub calls_lent : CallsLent calls challenges
  pub half_long : half ≡ 2 ^ (n + k)
  pub kept_long : kept ≡ 2 * n
  pub roots_long : roots ≡ 32 * (n + 1)

-- and for the records: a position, room for both, and for two messages
pub record RecordRoom (s : Widths) (n k position query tail one two : ℕ) : Type 0 where
  pub position_low : position < 2 ^ (n + k)
  pub query_long : query ≡ query_size s n k
  pub tail_long : tail ≡ tail_size s n k
  pub one_long : one ≡ message_buffer
  pub two_long : two ≡ message_buffer

-- what is lent to the tail record: at least the last level, its tree and its root
pub record LastRoom (s : Widths) (n k levels trees roots : ℕ) : Type 0 where
  pub small : n + k ≤ 24
  pub levels_least : 2 * level_length n k n ≤ levels
  pub trees_least : 32 * tree_length s n k n ≤ trees
  pub roots_least : 32 ≤ roots

-- the same of what a contract names: slices that a function reads, and slices that it may write
abbrev pub Ref : Type 0
Ref = Bor (List ℕ)

abbrev pub MutRef : Type 0
MutRef = MutBor (List ℕ)

abbrev pub CommitLent : Deposit → Ref → MutRef → MutRef → MutRef → MutRef → Type 0
CommitLent d table gammas levels coordinates trees =
    CommitRoom (widths_of d.how.set) d.n d.k (length d.base.now) (length table.now) (length gammas.now) (length levels.now) (length coordinates.now)
    (length trees.now)

abbrev pub DepositLent : Deposit → Ref → Ref → Ref → MutRef → MutRef → MutRef → MutRef → MutRef → MutRef → MutRef → Type 0
DepositLent d table calls challenges gammas levels coordinates half kept trees roots =
    Room (widths_of d.how.set) d.n d.k (length d.base.now) (length table.now) (length calls.now) (length challenges.now) (length gammas.now)
    (length levels.now) (length coordinates.now) (length half.now) (length kept.now) (length trees.now) (length roots.now)

abbrev pub RecordLent : Deposit → ℕ → MutRef → MutRef → MutRef → MutRef → Type 0
RecordLent d position query tail one two =
    RecordRoom (widths_of d.how.set) d.n d.k position (length query.now) (length tail.now) (length one.now) (length two.now)

-- what committing leaves: the gammas, level 0 at the front of the levels, its list and its tree at the front of the trees, and what was behind level 0
pub record Committed (how : Trees) (n k : ℕ) (base table old gammas' levels coordinates trees : List ℕ) : Type 0 where
  pub gammas_are : words gammas' ≡ gammas hash base n k
  pub level-is : level_values n k (words levels) 0 ≡ committed_codeword base n k (words table)
  pub behind : drop (level_length n k 0) (words levels) ≡ drop (level_length n k 0) (words old)
  pub list_is : coordinates ≡ all_coordinates n
  pub tree_is : take (32 * tree_length (widths_of how.set) n k 0) trees ≡ flat (tree_for (scheme how base n k) 0 (committed_codeword base n k (words table)))

abbrev pub CommitLeft : Deposit → Slice → MutSlice → MutSlice → MutSlice → MutSlice → Type 0
CommitLeft d table gammas levels coordinates trees =
    Committed d.how d.n d.k d.base.now table.entry.now levels.entry.now gammas.exit.now levels.exit.now coordinates.exit.now trees.exit.now

abbrev pub DepositLeft : Deposit → Slice → Slice → Slice → MutSlice → MutSlice → MutSlice → MutSlice → MutSlice → MutSlice → ℕ → Type 0
DepositLeft d table calls challenges gammas levels coordinates kept trees roots done =
    Deposited d.how d.n d.k d.base.now table.entry.now calls.entry.now challenges.entry.now levels.entry.now kept.entry.now
    gammas.exit.now levels.exit.now coordinates.exit.now kept.exit.now trees.exit.now roots.exit.now done

-- a buffer after the tail record of the last level and its tree was built into it
abbrev pub tail_lent : Deposit → Slice → Slice → MutSlice → List ℕ
tail_lent d levels trees out =
    build_tail (widths_of d.how.set) d.n d.k (last_level d.n d.k levels.entry.now) (last_tree (widths_of d.how.set) d.n d.k trees.entry.now) out.entry.now
