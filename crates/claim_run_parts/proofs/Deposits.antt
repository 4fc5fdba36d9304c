-- Committing, the calls and the trees, one after the other: no step is refused, and each finds what the one before left.
use Prim.Native.Nat.{ℕ, zero, suc, ◌+◌, ◌-◌, ◌*◌, ◌≤◌}
use mathlib.Core.Path.{◌≡◌, refl, sym, ◌∙◌, ap, ap₂, subst}
use mathlib.Core.List.{List, ◌++◌}
use native.Mathlib.Omega.{arith}
use lib.ListN.{length, take, drop, length-drop}
use lib.Seq.{take_at, take_all, drop_at}
use Rattle.theory_laws.specs.Lists.{part, flat}
use Rattle.theory_laws.specs.Table.{tab}
use Rattle.theory_laws.proofs.Table.{length-tab}
use Rattle.theory_field.specs.Words.{words}
use Rattle.theory_field.proofs.Words.{words_append, drop-words, length-words-even}
use Rattle.theory_multilinear.proofs.Codeword.{length-encode}
use Rattle.theory_record.specs.declared.Trees.{Trees}
use Rattle.theory_record.specs.Widths.{Widths, widths_of, level_length, tree_length, total}
use Rattle.theory_record.specs.Trees.{tree_for}
use Rattle.theory_record.specs.Tail.{check_tail}
use Rattle.theory_record.specs.Build.{level_start, tree_start, level_values, build_tail}
use Rattle.theory_record.specs.Scheme.{Scheme, scheme}
use Rattle.theory_record.proofs.Ranges.{sizes-small}
use Rattle.theory_record.proofs.Offsets.{first-length, level-within, tree-within}
use Rattle.theory_claim.specs.Commit.{commit_number, committed_codeword, committed_tree}
use Rattle.theory_claim.specs.Calls.{Codeword, Call, after_folds}
use Rattle.theory_claim.specs.Claim.{Deposit, Claim}
use Rattle.theory_claim.proofs.Claim.{claim}
use Rattle.code_levels.proofs.Laying.{behind_more}
use Rattle.claim_fold_calls.specs.Left.{Left}
use Rattle.claim_run_parts.specs.Parts.{last_level, last_tree, last_root}
use Rattle.claim_run_parts.specs.helpers.Room.{CommitRoom}

-- ---- level 0 and its tree, at the front

module _ {s : Widths} {n k base table gammas levels coordinates trees : ℕ}
    (r : CommitRoom s n k base table gammas levels coordinates trees) where
  pub small : n + k ≤ 24
  small = sizes-small n k r.sizes

  pub front_fits : (size : ℕ) → size ≡ level_length n k 0 → 2 * size ≤ levels
  unfolding level_start total
  front_fits size e = omega (arith, r.levels_long, level-within n k 0 (omega arith))

  pub tree-fits : (bytes : ℕ) → bytes ≡ 32 * tree_length s n k 0 → bytes ≤ trees
  unfolding tree_start total
  tree-fits bytes e = omega (arith, r.trees_long, tree-within s n k 0 (omega arith))

-- a table that is lent, with any challenges, is within the claim's ranges
pub deposit_of : {s : Widths} {n k gammas levels coordinates trees : ℕ} (base table challenges : List ℕ)
    → CommitRoom s n k (length base) (length table) gammas levels coordinates trees → length challenges ≡ 2 * n → Deposit n k base table challenges
deposit_of base table challenges r long =
    record {
      n_least = r.sizes.n_least;
      n_most = r.sizes.n_most;
      k_most = r.sizes.k_most;
      base_short = r.base_short;
      table_long = r.table_long;
      challenges_long = long;
    }

-- the claim of it
pub claim_of : (how : Trees) {n k gammas levels coordinates trees : ℕ} (base table challenges : List ℕ)
    → CommitRoom (widths_of how.set) n k (length base) (length table) gammas levels coordinates trees → length challenges ≡ 2 * n
    → Claim how n k base table challenges
claim_of how {n} {k} base table challenges r long = claim how n k base table challenges (deposit_of base table challenges r long)

codeword-long : (n k : ℕ) (base table : List ℕ) → length (committed_codeword base n k table) ≡ level_length n k 0
unfolding committed_codeword
codeword-long n k base table = length-encode n k _ table ∙ sym (first-length n k)

module _ (how : Trees) {n k gammas levels coordinates trees : ℕ} (base table : List ℕ)
    (r : CommitRoom (widths_of how.set) n k (length base) (length table) gammas levels coordinates trees) where
  abbrev C : Claim how n k base table (tab (2 * n) (λ v. 0))
  C = claim_of how base table (tab (2 * n) (λ v. 0)) r (length-tab (2 * n) (λ v. 0))

  -- committing is not refused
  pub commit_allowed : (size bytes : ℕ) → size ≡ 2 * level_length n k 0 → bytes ≡ 32 * tree_length (widths_of how.set) n k 0
      → commit_number (widths_of how.set) n k (length base) (length table) gammas size coordinates bytes ≡ 0
  commit_allowed size bytes es eb =
      let s : size ≡ 2 * length (committed_codeword base n k (words table)) = es ∙ ap (λ (x : ℕ). 2 * x) (sym (codeword-long n k base (words table))) in
      rw (r.gammas_long, s, r.list_long ∙ sym (length-tab n (λ i. i)), eb) C.commit_done

  -- and leaves level 0's tree
  pub tree-left : {tree : List ℕ} → tree ≡ committed_tree (scheme how base n k) (words table)
      → tree ≡ flat (tree_for (scheme how base n k) 0 (committed_codeword base n k (words table)))
  tree-left e = e ∙ C.commit_leaves

-- the next levels start behind level 0
first-before : (n k l : ℕ) → level_length n k 0 ≤ level_start n k (suc l)
unfolding level_start total
first-before n k zero = omega arith
first-before n k (suc l) = omega (arith, first-before n k l)

-- what stands at the front is level 0
pub first-level : (n k : ℕ) (front rest : List ℕ) → length front ≡ 2 * level_length n k 0 → level_values n k (words (front ++ rest)) 0 ≡ words front
unfolding level_values level_start total part
first-level n k front rest e =
    ap (take (level_length n k 0)) (words_append front rest (level_length n k 0) e)
    ∙ take_at (words front) (words rest) (level_length n k 0) (length-words-even front (level_length n k 0) e)

-- what was behind it stays
pub same-behind : (n k : ℕ) {size : ℕ} (front xs : List ℕ) → size ≡ level_length n k 0 → length front ≡ 2 * level_length n k 0
    → drop (level_length n k 0) (words (front ++ drop (2 * size) xs)) ≡ drop (level_length n k 0) (words xs)
same-behind n k {size} front xs es el =
    ap (drop (level_length n k 0)) (words_append front (drop (2 * size) xs) (level_length n k 0) el)
    ∙ drop_at (words front) _ (level_length n k 0) (length-words-even front (level_length n k 0) el)
    ∙ drop-words size xs ∙ ap (λ (i : ℕ). drop i (words xs)) es

-- the calls are on the committed codeword with its list, and behind level 0 stands what was there before
pub calls_left : {n k : ℕ} {c : Codeword} {old first list oldKept : List ℕ} {calls : List Call} {done : ℕ} {levels coordinates kept : List ℕ}
    → level_values n k first 0 ≡ c.values → list ≡ c.coordinates → drop (level_length n k 0) first ≡ drop (level_length n k 0) old
    → Left n k (record { values = level_values n k first 0; coordinates = list }) first oldKept calls done levels coordinates kept
    → Left n k c old oldKept calls done levels coordinates kept
calls_left {n} {k} {c} {old} {first} {list} {oldKept} {calls} {done} {levels} {coordinates} {kept} e f b h =
    let same : record { values = level_values n k first 0; coordinates = list } ≡ c = ap₂ (λ (vs cs : List ℕ). record { values = vs; coordinates = cs }) e f in
    let here = subst (λ (x : Codeword). Left n k x first oldKept calls done levels coordinates kept) same h in
    let m : ℕ = level_start n k (suc done) - level_length n k 0 in
    record {
      count = here.count;
      each = here.each;
      behind = here.behind ∙ behind_more (level_length n k 0) m (level_start n k (suc done)) first old (omega (arith, first-before n k done)) b;
      list_is = here.list_is;
      kept_are = here.kept_are;
    }

-- before any call
pub after_none : (c : Codeword) (calls : List Call) → (after_folds c calls 0).values ≡ c.values
unfolding after_folds
after_none c calls = refl

-- the tree that committing left is that of level 0
pub first-tree : (how : Trees) (n k : ℕ) (base trees : List ℕ) {c values : List ℕ}
    → take (32 * tree_length (widths_of how.set) n k 0) trees ≡ flat (tree_for (scheme how base n k) 0 c) → values ≡ c
    → take (32 * tree_length (widths_of how.set) n k 0) trees ≡ flat (tree_for (scheme how base n k) 0 values)
first-tree how n k base trees e f = e ∙ ap (λ (x : List ℕ). flat (tree_for (scheme how base n k) 0 x)) (sym f)

-- ---- the last level, its tree and its root, from a place to the end

to_end : (i : ℕ) (xs : List ℕ) → take (length xs - i) (drop i xs) ≡ drop i xs
to_end i xs = take_all (length xs - i) (drop i xs) (omega (arith, length-drop i xs))

-- as code takes them
abbrev taken : ℕ → List ℕ → List ℕ
taken i xs = take (length xs - (length xs - i)) (drop (length xs - i) xs)

-- the sizes as code computes them
pub tail-built : (s : Widths) (n k size bytes : ℕ) (levels trees out out' : List ℕ) → size ≡ level_length n k n → bytes ≡ 32 * tree_length s n k n
    → out' ≡ build_tail s n k (taken (2 * size) levels) (taken bytes trees) out
    → out' ≡ build_tail s n k (last_level n k levels) (last_tree s n k trees) out
tail-built s n k size bytes levels trees out out' es eb e =
    rw (to_end (length levels - 2 * size) levels, to_end (length trees - bytes) trees, es, eb) at e

pub tail-checked : (S : Scheme) (claim number : ℕ) (roots out : List ℕ) → number ≡ check_tail S (taken 32 roots) claim out
    → number ≡ check_tail S (last_root roots) claim out
tail-checked S claim number roots out e = rw (to_end (length roots - 32) roots) at e
