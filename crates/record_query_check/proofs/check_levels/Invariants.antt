-- `record_query_check::check_levels` meets its contract: from level l on, what is left to check gives the answer, and what is known is so.
use Rattle.record_opening.specs.helpers.Opening.{Known}
use Rattle.theory_record.proofs.Reading.{check_from}
use Rattle.theory_record.specs.Format.{level_form, whole_items}
use Rattle.theory_record.specs.Query.{pair_of, root_at}
use Rattle.tree_place.specs.Place.{index}
use Rattle.record_query_check.specs.helpers.Level.{all_asked}
use Prim.Native.Nat.{◌-◌, ◌*◌, ◌<◌, ◌≤◌}
use mathlib.Core.Path.{◌≡◌}
use mathlib.Core.Bool.{true}
use lib.ListN.{length, drop}
use Rattle.theory_record.specs.Lent.{fixed_by}
use Rattle.record_query_check.proofs.check_levels.Given as goal

abbrev pub invariant-loop-l : goal.invariant-loop-l
invariant-loop-l l =
    (l.at ≤ length l.s) × (whole_items level_form (l.deposit.n - l.l) (drop l.at l.s) ≡ true)
    × (check_from (fixed_by l.deposit) (index l.position) l.challenges l.roots l.s l.at l.l
    ≡ all_asked (fixed_by l.deposit) (index l.position) l.challenges l.roots l.s)
    × (l.l < l.deposit.n → Known (fixed_by l.deposit) l.l (2 * pair_of (index l.position) l.l) l.s l.known (root_at l.roots l.l))
