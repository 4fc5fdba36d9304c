-- `claim_run_parts::commit_first` meets its contract.
use Prim.Native.Nat.{ℕ, ◌*◌}
use mathlib.Core.Path.{sym, ◌∙◌, ap}
use lib.Seq.{length-take-le, take_at}
use Rattle.code_commit.proofs.Sizes.{not-refused, made}
use Rattle.theory_record.proofs.Ranges.{sizes-small}
use Rattle.claim_run_parts.proofs.Deposits.{front_fits, tree-fits, commit_allowed, tree-left, first-level, same-behind}
use borrow.Author.Rules.{rules}
use Rattle.claim_run_parts.proofs.commit_first.Goals as goal

pub level_length-size-requires : goal.level_length-size-requires
level_length-size-requires c = (sizes-small _ _ c.requires.sizes, search rules)

pub overflow_mul-size : goal.overflow_mul-size
overflow_mul-size c =
    let w = front_fits c.requires _ c.level_length-size.ensures in
    search rules

pub tree_bytes-bytes-requires : goal.tree_bytes-bytes-requires
tree_bytes-bytes-requires c = (sizes-small _ _ c.requires.sizes, search rules)

pub slice_bounds-commit-end : goal.slice_bounds-commit-end
slice_bounds-commit-end c =
    front_fits c.requires _ c.level_length-size.ensures

pub slice_bounds-commit-end-2 : goal.slice_bounds-commit-end-2
slice_bounds-commit-end-2 c =
    sym (length-take-le _ _ (front_fits c.requires _ c.level_length-size.ensures))

pub slice_bounds-commit-end-3 : goal.slice_bounds-commit-end-3
slice_bounds-commit-end-3 c =
    tree-fits c.requires _ c.tree_bytes-bytes.ensures

pub slice_bounds-commit-end-4 : goal.slice_bounds-commit-end-4
slice_bounds-commit-end-4 c =
    sym (length-take-le _ _ (tree-fits c.requires _ c.tree_bytes-bytes.ensures))

pub unwrap-requires : goal.unwrap-requires
unwrap-requires c =
    let a = c.args in
    let size = length-take-le _ _ (front_fits c.requires _ c.level_length-size.ensures) ∙ ap (λ (x : ℕ). 2 * x) c.level_length-size.ensures in
    let bytes = length-take-le _ _ (tree-fits c.requires _ c.tree_bytes-bytes.ensures) ∙ c.tree_bytes-bytes.ensures in
    not-refused _ (c.commit.ensures.value ∙ commit_allowed a.deposit.how a.deposit.base.now a.table.now c.requires _ _ size bytes)

pub returns : goal.returns
returns c =
    let a = c.args in let es = c.level_length-size.ensures in let size = length-take-le _ _ (front_fits c.requires _ es) ∙ ap (λ (x : ℕ). 2 * x) es in
    let eb = c.tree_bytes-bytes.ensures in let bytes = length-take-le _ _ (tree-fits c.requires _ eb) ∙ eb in
    let e = c.commit.ensures in let kept = c.commit.auto in let z = commit_allowed a.deposit.how a.deposit.base.now a.table.now c.requires _ _ size bytes in
    let front = kept.codeword ∙ size in
    record {
      gammas_are = made _ _ _ _ _ e.value z e.gammas_after;
      level-is = first-level _ _ c.commit.new.codeword _ front ∙ made _ _ _ _ _ e.value z e.codeword_after;
      behind = same-behind _ _ c.commit.new.codeword a.levels.now es front;
      list_is = made _ _ _ _ _ e.value z e.coordinates_after;
      tree_is =
          take_at c.commit.new.tree _ _ (kept.tree ∙ bytes)
          ∙ tree-left a.deposit.how a.deposit.base.now a.table.now c.requires (made _ _ _ _ _ e.value z e.tree_after);
    }
