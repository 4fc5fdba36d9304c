-- `record_reader::tail_whole` meets its contract. The loop's invariant: whether what is left reads whole decides.
use borrow.Author.Rules.{rules}
use Rattle.record_reader.proofs.Places.{group_places, group_more, group_less}
use Rattle.theory_record.proofs.Reading.{whole_begin, whole-short, whole_end}
use Rattle.theory_record.specs.Format.{tail_form}
use Rattle.record_reader.proofs.tail_whole.Goals as goal

pub returns-then-s-lt4 : goal.returns-then-s-lt4
returns-then-s-lt4 c = whole-short tail_form _ c.if-s-lt4.true

pub loop-g-init : goal.loop-g-init
loop-g-init c = (search rules, whole_begin tail_form _ _ c.if-s-lt4.false c.count_at-n.ensures.0)

pub returns-in_default : goal.returns-in_default
returns-in_default c = group_less _ _ _ _ _ c.loop-g-test.true c.loop-g.invariant.1 c.in_default.ensures

pub loop-g-preserved : goal.loop-g-preserved
loop-g-preserved c =
    let v = c.in-Some.ensures in
    ((group_places _ _ _ v).within, group_more _ _ _ _ _ c.loop-g-test.true c.loop-g.invariant.1 _ v)

pub returns : goal.returns
returns c =
    let q = c.loop-g.invariant in
    whole_end tail_form _ _ _ _ _ c.loop-g-test.false q.0 q.1
