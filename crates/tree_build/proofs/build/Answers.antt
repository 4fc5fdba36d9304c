-- `tree_build::build` meets its contract.
use Prim.Native.Nat.{◌^◌}
use mathlib.Core.Path.{refl, sym, ◌∙◌, ap}
use Rattle.std.proofs.lemmas.Result.{err_from_is_err_and}
use Rattle.theory_laws.proofs.Questions.{yes_zero, no_zero}
use Rattle.theory_laws.proofs.Refusals.{never}
use Rattle.theory_blake3.proofs.Modes.{length-under}
use Rattle.tree_place.proofs.Yes.{build_yes}
use Rattle.theory_merkle.proofs.Sizes.{tree-fits}
use Rattle.tree_build.proofs.Built.{all-groups, built}
use native.Mathlib.Omega.{arith}
use Rattle.tree_build.proofs.build.Goals as goal

pub returns-in_err-build_questions : goal.returns-in_err-build_questions
returns-in_err-build_questions c =
    let p = err_from_is_err_and c.from_residual.result c.from_residual.ensures.1 in
    record { value = rw (p.1, p.2) c.in_err-build_questions.ensures; tree_after = no_zero _ _ _ _ _ c.in_err-build_questions.ensures (never _) refl }

pub groups-groups-requires : goal.groups-groups-requires
groups-groups-requires c = (build_yes _ _ _ _ _ c.in_ok-build_questions.ensures).shaped.shape.filled

pub put_leaves-requires : goal.put_leaves-requires
put_leaves-requires c = rw c.groups-groups.ensures (all-groups (build_yes _ _ _ _ _ c.in_ok-build_questions.ensures))

pub depth-requires : goal.depth-requires
depth-requires c = (build_yes _ _ _ _ _ c.in_ok-build_questions.ensures).shaped.shape.filled

pub put_levels-requires : goal.put_levels-requires
put_levels-requires c =
    let y = build_yes _ _ _ _ _ c.in_ok-build_questions.ensures in
    let t = tree-fits _ _ _ y.shaped.shape y.tree_is in
    (y.domain_le, c.groups-groups.ensures ∙ y.shaped.shape.groups ∙ ap (λ i. 2 ^ i) (sym c.depth.ensures), omega (arith, c.groups-groups.ensures))

pub returns : goal.returns
returns c =
    let y = build_yes _ _ _ _ _ c.in_ok-build_questions.ensures in record {
      value = c.in_ok-build_questions.ensures;
      tree_after = yes_zero _ _ _ 0 _ c.in_ok-build_questions.ensures refl
          (built _ (length-under _) _ _ _ y.shaped.shape _ _ _ y.tree_is (rw c.groups-groups.ensures at c.put_leaves.ensures) _ _
          c.depth.ensures (rw c.groups-groups.ensures at c.put_levels.ensures));
    }
