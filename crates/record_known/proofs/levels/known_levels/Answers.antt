-- `record_known::levels::known_levels` meets its contract: what is known so far is so.
use borrow.Author.Rules.{rules}
use Rattle.record_known.proofs.Known.{none-known}
use Rattle.record_known.proofs.levels.known_levels.Goals as goal

pub loop-e-init : goal.loop-e-init
loop-e-init c =
    (search rules, none-known _ _ _ _)

pub four_levels-more-requires : goal.four_levels-more-requires
four_levels-more-requires c =
    let beside = c.last_beside-last.ensures in
    record {
      lent = c.requires;
      rising = beside.0;
      last_most = beside.1;
      one_count = beside.2;
      known_so_far = c.loop-e.invariant.1;
    }

pub returns-then-not-four_known : goal.returns-then-not-four_known
returns-then-not-four_known c =
    c.four_levels-more.ensures

pub loop-e-preserved : goal.loop-e-preserved
loop-e-preserved c =
    (search rules, c.four_levels-more.ensures)

pub returns : goal.returns
returns c =
    c.loop-e.invariant.1
