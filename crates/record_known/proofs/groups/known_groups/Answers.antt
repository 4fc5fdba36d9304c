-- `record_known::groups::known_groups` meets its contract: what is known so far is so.
use native.Mathlib.Omega.{arith}
use Rattle.record_known.proofs.Known.{none-known}
use Rattle.record_known.proofs.groups.known_groups.Goals as goal

pub loop-four-init : goal.loop-four-init
loop-four-init c = none-known _ _ _ _

pub four_groups-more-requires : goal.four_groups-more-requires
four_groups-more-requires c =
    record { in_range = c.requires.in_range; group_most = omega (arith, c.requires.count_most); known_so_far = c.loop-four.invariant }
