-- `compare_levels::pick_level` meets its contract.
use Rattle.compare_levels.proofs.Level.{at-path-a, at_path_c}
use borrow.Author.Rules.{rules}
use Rattle.compare_levels.proofs.pick_level.Goals as goal

pub pick_opening-requires : goal.pick_opening-requires
pick_opening-requires c =
    let z = c.requires in
    record { first_sized = z.first_sized.a_sized; second_sized = z.second_sized.a_sized; first-room = z.first-room; second_room = z.second_room }

pub returns-in-Some : goal.returns-in-Some
returns-in-Some c = at-path-a _ _ _ _ _ _ _ c.first_of_pair-a.ensures c.in-Some.ensures

pub pick_opening-requires-2 : goal.pick_opening-requires-2
pick_opening-requires-2 c =
    let z = c.requires in
    record {
      first_sized = z.first_sized.c_sized;
      second_sized = z.second_sized.c_sized;
      first-room = search rules;
      second_room = search rules;
    }

pub returns : goal.returns
returns c = at_path_c _ _ _ _ _ _ _ c.first_of_pair-a.ensures c.in_default.ensures c.pick_opening-2.ensures
