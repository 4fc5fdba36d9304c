-- `record_known::groups::known_groups` meets its contract: what is known so far is so.
use Rattle.theory_record.specs.Lent.{fixed_by}
use Rattle.record_known.specs.helpers.Known.{GroupsKnown}
use Rattle.record_known.proofs.groups.known_groups.Given as goal

abbrev pub invariant-loop-four : goal.invariant-loop-four
invariant-loop-four l = GroupsKnown (fixed_by l.deposit) l.root l.s l.ways
