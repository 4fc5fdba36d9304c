-- `tree_parts::leaves` meets its contract.
use Prim.Native.Nat.{ℕ, ◌+◌, ◌*◌, ◌/◌, ◌≤◌}
use mathlib.Core.Path.{refl}
use native.Mathlib.Omega.{arith}
use lib.ListN.{length}
use Rattle.theory_laws.proofs.Lists.{length-lent}
use Rattle.std.proofs.lemmas.Result.{err_from_is_err_and}
use Rattle.theory_laws.proofs.Questions.{yes_zero, no_zero}
use Rattle.theory_laws.proofs.Refusals.{never}
use Rattle.theory_blake3.proofs.Modes.{length-under}
use Rattle.tree_place.specs.helpers.Yes.{LeavesYes}
use Rattle.tree_place.proofs.Yes.{leaves_yes}
use Rattle.tree_parts.proofs.LeavesPart.{run_room, leaves-made}
use Rattle.tree_parts.proofs.leaves.Goals as goal
use Rattle.tree_parts.proofs.leaves.Goals.{In_ok-leaves_questions}

pub returns-in_err-leaves_questions : goal.returns-in_err-leaves_questions
returns-in_err-leaves_questions c =
    let p = err_from_is_err_and c.from_residual.result c.from_residual.ensures.1 in
    record { value = rw (p.1, p.2) c.in_err-leaves_questions.ensures; out_after = no_zero _ _ _ _ _ c.in_err-leaves_questions.ensures (never _) refl }

-- what the questions said, and that the values of the groups are among those lent
module _ (c : In_ok-leaves_questions) where
  abbrev groups : ℕ
  groups = length c.args.out.now / 32

  yes : LeavesYes (length c.args.hashing.domain.now) c.args.shape.count c.args.shape.width c.args.first
      (length c.args.values.now) (length c.args.out.now)
  yes = leaves_yes _ _ _ _ _ _ c.in_ok-leaves_questions.ensures

  room : c.args.shape.width * c.args.first + c.args.shape.width * groups ≤ c.args.shape.count
  room = run_room c.args.shape.count c.args.shape.width c.args.first groups yes.shaped.shape yes.within

pub overflow_mul-from : goal.overflow_mul-from
overflow_mul-from c = omega (arith, room c, (yes c).shaped.count_le)

pub overflow_mul-from-2 : goal.overflow_mul-from-2
overflow_mul-from-2 c = omega (arith, room c, (yes c).shaped.count_le)

pub overflow_mul-end : goal.overflow_mul-end
overflow_mul-end c = omega (arith, room c, (yes c).shaped.count_le)

pub overflow_mul-end-2 : goal.overflow_mul-end-2
overflow_mul-end-2 c = omega (arith, room c, (yes c).shaped.count_le)

pub overflow_add-end : goal.overflow_add-end
overflow_add-end c = omega (arith, room c, (yes c).shaped.count_le)

pub offset_bounds-values-from : goal.offset_bounds-values-from
offset_bounds-values-from c = omega (arith, room (goal.at.offset_bounds-values-from c).In_ok-leaves_questions, (yes (goal.at.offset_bounds-values-from c).In_ok-leaves_questions).shaped.count_le)

pub slice_bounds-put_leaves-end : goal.slice_bounds-put_leaves-end
slice_bounds-put_leaves-end c = omega (arith, room (goal.at.slice_bounds-put_leaves-end c).In_ok-leaves_questions, (yes (goal.at.slice_bounds-put_leaves-end c).In_ok-leaves_questions).values_is)

pub put_leaves-requires : goal.put_leaves-requires
put_leaves-requires c =
    let a = c.args in let y = yes (goal.at.put_leaves-requires c).In_ok-leaves_questions in
    record {
      domain_le = y.domain_le;
      shaped = y.shaped;
      within = y.within;
      values_are = length-lent (2 * (a.shape.width * groups (goal.at.put_leaves-requires c).In_ok-leaves_questions)) (2 * (a.shape.width * a.first)) a.values.now (omega (arith, room (goal.at.put_leaves-requires c).In_ok-leaves_questions, y.values_is));
      room = omega (arith, y.whole);
    }

pub returns : goal.returns
returns c =
    let a = c.args in let y = yes (goal.at.returns c).In_ok-leaves_questions in record {
      value = c.in_ok-leaves_questions.ensures;
      out_after = yes_zero _ _ _ 0 _ c.in_ok-leaves_questions.ensures refl
          (leaves-made _ (length-under _) a.hashing.domain.now a.shape.count a.shape.width a.first a.values.now a.out.now _ y.within y.whole
          c.put_leaves.ensures);
    }
