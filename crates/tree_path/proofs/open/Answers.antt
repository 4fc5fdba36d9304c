-- `open` meets its contract: the path of the place's group fills the buffer.
use Prim.Native.Nat.{◌^◌, ◌*◌, ◌-◌}
use mathlib.Core.Path.{refl, sym, ◌∙◌, ap}
use native.Mathlib.Omega.{arith}
use Rattle.std.proofs.lemmas.Result.{err_from_is_err_and}
use Rattle.theory_laws.proofs.Refusals.{never}
use Rattle.theory_laws.proofs.Questions.{yes_zero, no_zero}
use Rattle.theory_merkle.proofs.Sizes.{group_lt, tree-fits}
use Rattle.tree_place.proofs.Yes.{open_yes}
use Rattle.tree_path.proofs.Opened.{path_of_place}
use Rattle.tree_path.proofs.open.Goals as goal

pub returns-in_err-open_questions : goal.returns-in_err-open_questions
returns-in_err-open_questions c =
    let p = err_from_is_err_and c.from_residual.result c.from_residual.ensures.1 in
    record { value = rw (p.1, p.2) c.in_err-open_questions.ensures; path_after = no_zero _ _ _ _ _ c.in_err-open_questions.ensures (never _) refl }

pub depth-requires : goal.depth-requires
depth-requires c = (open_yes _ _ _ _ _ c.in_ok-open_questions.ensures).shaped.shape.filled

pub group_of-g-requires : goal.group_of-g-requires
group_of-g-requires c = (open_yes _ _ _ _ _ c.in_ok-open_questions.ensures).shaped.shape.filled

pub groups-requires : goal.groups-requires
groups-requires c = (open_yes _ _ _ _ _ c.in_ok-open_questions.ensures).shaped.shape.filled

pub put_path-requires : goal.put_path-requires
put_path-requires c =
    let y = open_yes _ _ _ _ _ c.in_ok-open_questions.ensures in
    let s = y.shaped.shape in
    let d = c.depth.ensures in let t = tree-fits _ _ _ s y.tree_is in (
      c.groups.ensures ∙ s.groups ∙ ap (λ i. 2 ^ i) (sym d),
      omega (arith, c.group_of-g.ensures, c.groups.ensures, s.groups, group_lt _ _ _ s y.placed),
      omega (arith, c.groups.ensures),
      omega (arith, y.path-is ∙ ap (λ i. 32 * i) (sym d)),
    )

pub returns : goal.returns
returns c =
    let y = open_yes _ _ _ _ _ c.in_ok-open_questions.ensures in
    let d = c.depth.ensures in record {
      value = c.in_ok-open_questions.ensures;
      path_after = yes_zero _ _ _ 0 _ c.in_ok-open_questions.ensures refl
          (path_of_place _ _ _ _ _ _ _ _ _ _ c.group_of-g.ensures d (ap (λ g. 2 * g - 1) c.groups.ensures) (y.path-is ∙ ap (λ i. 32 * i) (sym d)) c.put_path.ensures);
    }
