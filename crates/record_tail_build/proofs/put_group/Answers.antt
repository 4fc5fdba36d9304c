-- `record_tail_build::put_group` meets its contract.
use mathlib.Core.Path.{◌∙◌}
use native.Mathlib.Omega.{arith}
use Rattle.record_tail_build.proofs.Groups.{group_put}
use borrow.Author.Rules.{rules}
use Rattle.record_tail_build.proofs.put_group.Goals as goal

pub first_place-first-requires : goal.first_place-first-requires
first_place-first-requires c =
    omega (arith, c.requires.small)

pub put_words-b-requires : goal.put_words-b-requires
put_words-b-requires c =
    (omega (arith, c.requires.values-there, c.index.ensures, c.first_place-first.ensures), search rules)

pub returns : goal.returns
returns c =
    group_put _ _ _ _ _ _ _ (c.index.ensures ∙ c.first_place-first.ensures) c.put_number-a.ensures c.put_words-b.ensures
    c.put_number-c.ensures c.put_path.ensures
