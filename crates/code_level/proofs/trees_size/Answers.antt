-- `code_level::trees_size` meets its contract.
use borrow.Author.Rules.{rules}
use Rattle.code_level.proofs.Totals.{level-small, starts_small, no_digests, digests-step, trees_are}
use Rattle.theory_record.proofs.Ranges.{sizes-small}
use Rattle.code_level.proofs.trees_size.Goals as goal

pub loop-l-init : goal.loop-l-init
loop-l-init c = no_digests _ _ _

pub overflow_mul-digests : goal.overflow_mul-digests
overflow_mul-digests c =
    let h = level-small c.args.set _ _ c.loop-l.l (sizes-small _ _ c.requires) in search rules

pub overflow_sub-digests : goal.overflow_sub-digests
overflow_sub-digests c =
    let h = level-small c.args.set _ _ c.loop-l.l (sizes-small _ _ c.requires) in search rules

pub overflow_add-digests : goal.overflow_add-digests
overflow_add-digests c =
    let h = level-small c.args.set _ _ c.loop-l.l (sizes-small _ _ c.requires) in
    let s = starts_small c.args.set _ _ c.loop-l.l (sizes-small _ _ c.requires) in
    search rules

pub loop-l-preserved : goal.loop-l-preserved
loop-l-preserved c =
    digests-step _ _ _ _ _ _ c.loop-l.invariant c.level_groups.ensures (sizes-small _ _ c.requires)

pub overflow_mul-result : goal.overflow_mul-result
overflow_mul-result c =
    let s = starts_small c.args.set _ _ c.loop-l.l (sizes-small _ _ c.requires) in search rules

pub returns : goal.returns
returns c = search trees_are
