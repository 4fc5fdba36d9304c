-- The records of a codeword folded at variable 0 (SPECIFICATION 10.2): the query record built at any position is
-- accepted there, and the tail record exactly for the first value of the last level, which is P(r) for the codeword of a table.
use Prim.Native.Nat.{ℕ, ◌+◌, ◌-◌, ◌*◌, ◌^◌, ◌<◌, ◌≤◌}
use mathlib.Core.Path.{◌≡◌, sym, ◌∙◌, ap}
use mathlib.Core.Logic.{◌↔◌}
use mathlib.Core.List.{List}
use native.Mathlib.Omega.{arith}
use lib.ListN.{length}
use Rattle.theory_laws.specs.Table.{at}
use Rattle.theory_laws.specs.Lists.{flat}
use Rattle.theory_field.specs.Words.{words}
use Rattle.theory_field.proofs.Words.{length-words-even}
use Rattle.theory_merkle.specs.Digests.{DigestsLong}
use Rattle.theory_multilinear.specs.Multilinear.{mle}
use Rattle.theory_multilinear.specs.Fold.{line}
use Rattle.theory_multilinear.specs.Codeword.{encode}
use Rattle.theory_multilinear.specs.Levels.{level}
use Rattle.theory_multilinear.proofs.Levels.{length-level, level-lt, level-pair, last-level-first}
use Rattle.theory_record.specs.Widths.{level_length, tree_length}
use Rattle.theory_record.specs.Trees.{tree_for, root_for, levels_lent, trees_lent, roots_lent}
use Rattle.theory_record.specs.Query.{accepted, check_query}
use Rattle.theory_record.specs.Tail.{check_tail}
use Rattle.theory_record.specs.Build.{query_bytes, tail_bytes}
use Rattle.theory_record.proofs.Ranges.{SizesFit, sizes-small}
use Rattle.theory_record.proofs.Widths.{PowersOfTwo}
use Rattle.theory_record.proofs.Offsets.{level-halves, digests-flat}
use Rattle.theory_record.proofs.Runs.{Words}
use Rattle.theory_record.proofs.Query.{Ranges}
use Rattle.theory_record.proofs.Accepted.{LastLevel, length-tree_for, tree_for-long, built_query_accepted, built-tail-accepted, built-tail-claim}
use Rattle.theory_record.proofs.Chain.{Sized, Folded, length-roots_lent, chain_levels}
use Rattle.theory_record.specs.Scheme.{Scheme}

module _ (n k : ℕ) (c r : List ℕ) (long : length c ≡ 2 ^ (n + k)) where
  length_of_level : (l : ℕ) → l ≤ n → length (level c r l) ≡ level_length n k l
  unfolding level_length
  length_of_level l h = length-level l (n + k - l) c r (long ∙ ap (λ (i : ℕ). 2 ^ i) {x = n + k} {y = l + (n + k - l)} (omega arith))

  pub codeword-sized : n + k ≤ 24 → Words c → Sized n k (level c r)
  codeword-sized small w = record { small = small; long = length_of_level; all_words = λ l h. level-lt l c r w }

  pub codeword-folded : Folded n k (level c r) r
  unfolding line
  codeword-folded l q h g =
      let twice : q * 2 ≡ 2 * q = omega arith in
      let e = length_of_level l (omega arith) in
      let f = level-halves n k l (omega arith) in
      sym (rw twice at (level-pair l q c r (omega arith)))

-- ---- the records of a codeword of 2^(n+k) words, folded n times by the challenges

module _ (S : Scheme) (sized : DigestsLong S.digest) (p : PowersOfTwo S.widths) (base_short : length S.base ≤ 200)
    (sizes : SizesFit S.n S.k) (c : List ℕ) (long : length c ≡ 2 ^ (S.n + S.k)) (all_words : Words c)
    (challenges : List ℕ) (challenges_long : length challenges ≡ 2 * S.n) where
  open S use {widths as s, base, n, k}

  abbrev folded : ℕ → List ℕ
  folded = level c (words challenges)

  ranges : Ranges base n k challenges (roots_lent S folded)
  ranges = record { sizes = sizes; challenges_long = challenges_long; roots_long = length-roots_lent S sized p folded; base_short = base_short }

  -- a query record is accepted at the position it was built at
  pub committed_query : (position : ℕ) → position < 2 ^ (n + k)
      → check_query S position challenges (roots_lent S (level c (words challenges)))
      (query_bytes s n k (levels_lent n (level c (words challenges))) (trees_lent S (level c (words challenges))) position) ≡ accepted
  committed_query position low =
      let z = codeword-sized n k c (words challenges) long (sizes-small n k sizes) all_words in
      built_query_accepted S p (levels_lent n folded) (trees_lent S folded) challenges (roots_lent S folded)
      (chain_levels S sized p folded z challenges (codeword-folded n k c (words challenges) long))
      position low ranges

  -- the tail record is accepted for the first value of the last level, and for no other
  abbrev last : List ℕ
  last = level c (words challenges) n

  last-level-is : LastLevel S last (flat (tree_for S n last))
  last-level-is =
      let z = codeword-sized n k c (words challenges) long (sizes-small n k sizes) all_words in
      record {
        sizes = sizes;
        all_words = z.all_words n (omega arith);
        long = z.long n (omega arith);
        tree_is = digests-flat (tree_length s n k n) (tree_for S n last) (length-tree_for S n last p) (tree_for-long S sized n last);
      }

  pub committed-tail : (claim : ℕ)
      → (check_tail S (root_for S n last) claim (tail_bytes s n k last (flat (tree_for S n last))) ≡ 0) ↔ (claim ≡ at last 0)
  committed-tail claim = (
    built-tail-claim S sized p base_short last (flat (tree_for S n last)) last-level-is claim,
    built-tail-accepted S sized p base_short last (flat (tree_for S n last)) last-level-is claim,
  )

-- for the codeword of a table that first value is P(r)
pub claim-is-P : (n k : ℕ) (gammas t challenges : List ℕ) → length challenges ≡ 2 * n
    → at (level (encode n k gammas t) (words challenges) n) 0 ≡ mle (at t) (words challenges)
claim-is-P n k gammas t challenges long = last-level-first n k gammas t (words challenges) (length-words-even challenges n long)
