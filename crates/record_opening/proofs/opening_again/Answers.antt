-- `record_opening::opening_again` meets its contract.
use Rattle.theory_record.proofs.Widths.{powers}
use Rattle.record_opening.proofs.Again.{known-leads, sized-old, again-right, even-width}
use Rattle.record_opening.proofs.opening_again.Goals as goal

pub same_opening-requires : goal.same_opening-requires
same_opening-requires c =
    let p = c.requires in
    let ew = c.level_width-w.ensures in (
      p.0.group_fits,
      p.0.path_fits,
      even-width _ (powers _) _ _ _ _ p.1 ew,
      sized-old _ _ _ _ _ _ (known-leads _ _ _ _ _ _ _ c.in-Some.is p.2) _ _ ew c.level_depth-d.ensures,
    )

pub returns-then-same_opening : goal.returns-then-same_opening
returns-then-same_opening c =
    λ first. again-right _ _ _ _ _ _ (known-leads _ _ _ _ _ _ _ c.in-Some.is c.requires.2) _ _ _ (c.same_opening.ensures c.if-same_opening.true)
