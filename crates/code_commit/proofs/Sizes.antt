-- What the questions of `commit` and `level_tree`, all answered yes, say of sizes and lengths; with them no step of the work is refused.
use Prim.Native.Nat.{ℕ, ◌+◌, ◌-◌, ◌*◌, ◌^◌, ◌≤◌}
use mathlib.Core.Path.{◌≡◌, refl, sym, ◌∙◌, ap}
use mathlib.Core.List.{List, ◌++◌}
use native.Mathlib.Omega.{arith}
use borrow.Author.Tests.{leb-true, eqb-true, le-leb, eq-eqb}
use Rattle.theory_laws.specs.Lists.{flat}
use Rattle.theory_laws.specs.Questions.{on_done}
use Rattle.theory_laws.proofs.Questions.{all_yes}
use Rattle.std.specs.Prelude.{Result, Ok, Err, IsOk}
use Rattle.theory_laws.specs.Refusals.{answered}
use Rattle.theory_laws.specs.declared.Refusal.{Refusal}
use Rattle.theory_laws.proofs.Refusals.{never}
use Rattle.theory_blake3.specs.Digest.{hash}
use Rattle.theory_multilinear.specs.Codeword.{encode}
use Rattle.theory_code.specs.Questions.{encode_number}
use Rattle.code_codeword.proofs.Lengths.{encode-accepts}
use Rattle.theory_code.specs.Gammas.{gammas}
use Rattle.theory_code.specs.Questions.{derive_number}
use Rattle.theory_record.specs.declared.Trees.{Trees}
use Rattle.theory_record.specs.Widths.{Widths, level_length, tree_length}
use Rattle.theory_record.specs.Trees.{tree_for}
use Rattle.theory_record.specs.Query.{size_questions}
use Rattle.theory_record.proofs.Ranges.{sizes_fit, sizes-small}
use Rattle.theory_claim.specs.Commit.{commit_questions, commit_number, committed_codeword, committed_tree}
use Rattle.code_commit.specs.Level.{level_questions, level_tree_number}
use Rattle.code_commit.specs.helpers.LevelTree.{LevelTree}
use Rattle.theory_record.specs.Scheme.{scheme}

pub record CommitSizes (s : Widths) (n k base table gammas codeword coordinates tree : ℕ) : Type 0 where
  pub n≤ : n ≤ 20
  pub k≤ : k ≤ 4
  pub table= : table ≡ 2 * 2 ^ n
  pub gammas= : gammas ≡ 2 * (k * n)
  pub codeword= : codeword ≡ 2 * 2 ^ (n + k)
  pub list= : coordinates ≡ n
  pub tree= : tree ≡ 32 * tree_length s n k 0
  pub base≤ : base ≤ 200

module _ {s : Widths} {n k base table gammas codeword coordinates tree : ℕ} where
  pub commit_sizes : {number : ℕ} → number ≡ commit_number s n k base table gammas codeword coordinates tree → number ≡ 0
      → CommitSizes s n k base table gammas codeword coordinates tree
  unfolding commit_number
  commit_sizes e z =
      let y = all_yes (commit_questions s n k base table gammas codeword coordinates tree) tt (sym e ∙ z) in
      record {
        n≤ = leb-true n 20 y.0;
        k≤ = leb-true k 4 y.1.0;
        table= = eqb-true _ _ y.1.1.0;
        gammas= = eqb-true _ _ y.1.1.1.0;
        codeword= = eqb-true _ _ y.1.1.1.1.0;
        list= = eqb-true _ _ y.1.1.1.1.1.0;
        tree= = eqb-true _ _ y.1.1.1.1.1.1.0;
        base≤ = leb-true base 200 y.1.1.1.1.1.1.1.0;
      }

  module _ (h : CommitSizes s n k base table gammas codeword coordinates tree) where
    pub derive_allowed : derive_number n k base gammas ≡ 0
    unfolding derive_number
    derive_allowed = rw (le-leb n 20 h.n≤, le-leb k 4 h.k≤, eq-eqb gammas (2 * (k * n)) h.gammas=, le-leb base 200 h.base≤)

    pub encode-allowed : {lent : ℕ} → lent ≡ gammas → encode_number n k table lent codeword ≡ 0
    encode-allowed {lent} e =
        encode-accepts n k table lent codeword (record { shifts = record { n≤ = h.n≤; k≤ = h.k≤; gammas= = e ∙ h.gammas= }; table= = h.table= })
        h.codeword=

    -- level 0 is the codeword
    pub tree-allowed : {lent : ℕ} → lent ≡ codeword → LevelTree s n k 0 base lent tree
    unfolding level_length
    tree-allowed f =
        let e : n + k - 0 ≡ n + k = omega arith in
        record { small = omega (arith, h.n≤, h.k≤); level-le = omega arith; base_le = h.base≤; values_are = rw e (f ∙ h.codeword=); tree_is = h.tree= }

-- what a call that is not refused can be unwrapped by
pub not-refused : {A : Type 0} (r : Result A Refusal) → answered r ≡ 0 → IsOk r
not-refused (Ok x) z = refl
not-refused (Err e) z = never e z

-- a step that is not refused leaves what it made
pub made : {A : Type 0} (q v : ℕ) (x y z : A) → q ≡ v → v ≡ 0 → z ≡ on_done q x y → z ≡ x
made q v x y z e f h = rw (e, f) at h

-- the codeword by the gammas that the first step left, and the tree over that
module _ (base table : List ℕ) (n k : ℕ) {g c : List ℕ} (eg : g ≡ gammas hash base n k) (ec : c ≡ encode n k g table) where
  pub codeword-made : c ≡ committed_codeword base n k table
  unfolding committed_codeword
  codeword-made = ec ∙ ap (λ (x : List ℕ). encode n k x table) eg

  pub tree-made : (how : Trees) (t : List ℕ) → t ≡ flat (tree_for (scheme how base n k) 0 c) → t ≡ committed_tree (scheme how base n k) table
  unfolding committed_tree
  tree-made how t e = e ∙ ap (λ (x : List ℕ). flat (tree_for (scheme how base n k) 0 x)) codeword-made

-- ---- the tree of a level

-- where no question of its entry said no
pub level-allowed : (s : Widths) (n k l base values tree : ℕ) {number : ℕ} → number ≡ level_tree_number s n k l base values tree → number ≡ 0
    → LevelTree s n k l base values tree
unfolding level_tree_number
level-allowed s n k l base values tree e z =
    let y = sizes_fit n k (all_yes (size_questions n k ++ level_questions s n k l base values tree) tt (sym e ∙ z)) in
    record {
      small = sizes-small n k y.0;
      level-le = leb-true l n y.1.0;
      base_le = leb-true base 200 y.1.1.1.1.0;
      values_are = eqb-true _ _ y.1.1.0;
      tree_is = eqb-true _ _ y.1.1.1.0;
    }
