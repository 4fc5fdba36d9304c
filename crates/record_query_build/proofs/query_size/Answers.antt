-- `record_query_build::query_size` meets its contract.
use borrow.Author.Rules.{rules}
use Rattle.record_query_build.proofs.Sizes.{levels-size-le, no_levels, size_step, size_is}
use mathlib.Core.Path.{refl}
use Rattle.theory_record.proofs.Ranges.{sizes-small}
use Rattle.record_query_build.proofs.query_size.Goals as goal

pub loop-l-init : goal.loop-l-init
loop-l-init c = no_levels _ _ _ _ refl

pub overflow_add-size-in-loop-l-2 : goal.overflow_add-size-in-loop-l-2
overflow_add-size-in-loop-l-2 c =
    let h = levels-size-le c.args.set _ _ c.loop-l.l (sizes-small _ _ c.requires) in
    search rules

pub loop-l-preserved : goal.loop-l-preserved
loop-l-preserved c =
    size_step _ _ _ _ _ _ _ c.loop-l.invariant c.group_size.ensures.0 c.group_size-in-loop-l.ensures.0

pub returns : goal.returns
returns c = search size_is
