-- `claim_run_parts::tail_record` meets its contract.
use Rattle.field_gf128.specs.Word.{word}
use Rattle.claim_run_parts.proofs.Deposits.{tail-built, tail-checked}
use borrow.Author.Rules.{rules}
use Rattle.claim_run_parts.proofs.tail_record.Goals as goal

pub returns : goal.returns
returns c =
    let a = c.args in record {
      out_after = tail-built _ _ _ _ _ a.levels.now a.trees.now a.out.now _ c.level_length.ensures c.tree_bytes.ensures
          c.build_tail.ensures.out_after;
      value = tail-checked _ (word a.claim) _ a.roots.now _ c.check_tail.ensures;
    }
