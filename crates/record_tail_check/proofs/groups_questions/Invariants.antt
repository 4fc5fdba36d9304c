-- `record_tail_check::groups_questions` meets its contract: from group g on, what is left to check gives the number.
use Rattle.record_tail_check.proofs.Groups.{groups_left}
use Rattle.record_tail_check.specs.helpers.Numbers.{groups_number}
use Rattle.field_gf128.specs.Word.{word}
use Rattle.theory_record.specs.Format.{tail_form, whole_items}
use Rattle.theory_record.specs.Lent.{fixed_by}
use Prim.Native.Nat.{◌-◌, ◌≤◌}
use mathlib.Core.Path.{◌≡◌}
use mathlib.Core.Bool.{true}
use lib.ListN.{length, drop}
use Rattle.record_tail_check.proofs.groups_questions.Given as goal

abbrev pub invariant-loop-g : goal.invariant-loop-g
invariant-loop-g l =
    (l.at ≤ length l.s) × (whole_items tail_form (l.groups - l.g) (drop l.at l.s) ≡ true)
    × (groups_left (fixed_by l.deposit) l.root (word l.claim) l.s l.groups l.at l.g ≡ groups_number (fixed_by l.deposit) l.root (word l.claim) l.s)
