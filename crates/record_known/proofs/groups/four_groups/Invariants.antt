-- `record_known::groups::four_groups` meets its contract: one group after the other.
use Rattle.theory_record.specs.Lent.{fixed_by}
use Rattle.record_known.specs.helpers.Known.{GroupsKnown}
use Rattle.record_known.proofs.groups.four_groups.Given as goal

abbrev pub invariant-loop-j : goal.invariant-loop-j
invariant-loop-j l = GroupsKnown (fixed_by l.deposit) l.root l.s l.ways
