-- `record_reader::query_whole` meets its contract. The loop's invariant: whether what is left reads whole decides.
use borrow.Author.Rules.{rules}
use Rattle.record_reader.proofs.Places.{level-places, level-more, level-less}
use Rattle.theory_record.proofs.Reading.{whole_begin, whole-short, whole_end}
use Rattle.theory_record.specs.Format.{level_form}
use Rattle.record_reader.proofs.query_whole.Goals as goal

pub returns-then-s-lt4 : goal.returns-then-s-lt4
returns-then-s-lt4 c = whole-short level_form _ c.if-s-lt4.true

pub loop-l-init : goal.loop-l-init
loop-l-init c = (search rules, whole_begin level_form _ _ c.if-s-lt4.false c.count_at-n.ensures.0)

pub returns-in_default : goal.returns-in_default
returns-in_default c = level-less _ _ _ _ _ c.loop-l-test.true c.loop-l.invariant.1 c.in_default.ensures

pub loop-l-preserved : goal.loop-l-preserved
loop-l-preserved c =
    let v = c.in-Some.ensures in
    ((level-places _ _ _ v).within, level-more _ _ _ _ _ c.loop-l-test.true c.loop-l.invariant.1 _ v)

pub returns : goal.returns
returns c =
    let q = c.loop-l.invariant in
    whole_end level_form _ _ _ _ _ c.loop-l-test.false q.0 q.1
