-- `compare_levels::pick_levels` meets its contract: below level l nothing was found, and the buffers are as they were.
use Rattle.theory_compare.specs.Compare.{records_found}
use Rattle.tree_place.specs.Place.{index}
use Rattle.compare_levels.proofs.Level.{Rest}
use Rattle.compare_levels.proofs.Levels.{NoneBelow}
use Rattle.theory_record.specs.Lent.{fixed_by}
use Rattle.compare_levels.proofs.pick_levels.Given as goal

abbrev pub invariant-loop-l : goal.invariant-loop-l
invariant-loop-l l =
    let S = fixed_by l.deposit in
    record {
      first-rest : Rest S (index l.position) l.l l.s l.i;
      second_rest : Rest S (index l.position) l.l l.t l.j;
      none_below :
          NoneBelow S (index l.position) l.l l.s l.i l.t l.j (records_found S (index l.position) l.s l.t) l.initial.first l.initial.second l.first l.second;
    }
