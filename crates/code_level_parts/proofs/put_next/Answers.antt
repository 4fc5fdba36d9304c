-- `code_level_parts::put_next` meets its contract.
use mathlib.Core.Path.{◌∙◌}
use lib.ListN.{length}
use Rattle.code_commit.proofs.Sizes.{not-refused}
use Rattle.code_level_parts.proofs.Allowed.{next-allowed, done}
use Rattle.code_level_parts.proofs.put_next.Goals as goal

pub unwrap-requires : goal.unwrap-requires
unwrap-requires c =
    let a = c.args in not-refused _ (c.fold_part.ensures.value ∙ next-allowed a.n a.k a.l a.first (length a.values.now) (length a.out.now) c.requires)

pub returns : goal.returns
returns c =
    let a = c.args in let e = c.fold_part.ensures in done _ _ _ _ _ e.value (next-allowed a.n a.k a.l a.first (length a.values.now) (length a.out.now) c.requires) e.out_after
