-- `claim_run_parts::deposit` meets its contract.
use mathlib.Core.Path.{◌∙◌}
use native.Mathlib.Omega.{arith}
use Rattle.theory_record.proofs.Ranges.{sizes-small}
use Rattle.claim_run_parts.proofs.Deposits.{calls_left, after_none, first-tree}
use borrow.Author.Rules.{rules}
use Rattle.claim_run_parts.proofs.deposit.Goals as goal

-- the places of the code, from its end to its start

pub commit_first-requires : goal.commit_first-requires
commit_first-requires c = c.requires.commit

pub fold_calls-done-requires : goal.fold_calls-done-requires
fold_calls-done-requires c =
    let p = c.requires in let s = p.commit.sizes in
    record {
      room = record { n_most = s.n_most; k_most = s.k_most; levels_long = search rules; half_long = p.half_long };
      list_long = c.commit_first.auto.coordinates ∙ p.commit.list_long;
      kept_long = p.kept_long;
      calls_lent = p.calls_lent;
    }

pub level_trees-requires : goal.level_trees-requires
level_trees-requires c =
    let e = c.commit_first.ensures in let left = calls_left e.level-is e.list_is e.behind c.fold_calls-done.ensures.calls_left in
    let p = c.requires in (
      record {
        small = sizes-small _ _ p.commit.sizes;
        base_le = p.commit.base_short;
        levels_long = c.fold_calls-done.auto.levels ∙ c.commit_first.auto.levels ∙ p.commit.levels_long;
        trees_long = c.commit_first.auto.trees ∙ p.commit.trees_long;
      },
      p.roots_long,
      first-tree _ _ _ _ _ e.tree_is (left.each 0 (omega arith) ∙ after_none _ _),
    )

pub returns : goal.returns
returns c =
    let e = c.commit_first.ensures in let left = calls_left e.level-is e.list_is e.behind c.fold_calls-done.ensures.calls_left in
    let t = c.level_trees.ensures in record { deposit_left = record { gammas_are = e.gammas_are; left = left; trees_are = t.trees_after; roots_are = t.roots_after }; half_after = c.fold_calls-done.ensures.half_after }
