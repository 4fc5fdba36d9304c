-- What it settles that an entry is done: that each of its questions has its yes.
use Prim.Native.Nat.{ℕ}
use mathlib.Core.Path.{◌≡◌, sym}
use borrow.Author.Tests.{leb-true, ltb-true, eqb-true}
use Rattle.theory_laws.proofs.Questions.{all_yes}
use Rattle.theory_merkle.specs.Questions.{leaf_questions, node_questions, build_questions, open_questions, root_questions}
use Rattle.theory_merkle.specs.PartQuestions.{leaves_questions, parents_questions, leaves_number, parents_number}
use Rattle.theory_merkle.proofs.Questions.{bounded}
use Rattle.tree_place.specs.helpers.Yes.{LeafYes, NodeYes, BuildYes, LeavesYes, ParentsYes, OpenYes, RootYes}
use Rattle.theory_merkle.specs.Numbers.{leaf_number, node_number, build_number, open_number, root_number}

pub leaf_yes : (domain count width place values : ℕ) → 0 ≡ leaf_number domain count width place values → LeafYes domain count width place values
unfolding leaf_number
leaf_yes domain count width place values e =
    let y = all_yes (leaf_questions domain count width place values) tt (sym e) in
    record {
      domain_le = leb-true _ _ y.0;
      shaped = bounded count width (y.1.0, (y.1.1.0, (y.1.1.1.0, tt)));
      placed = ltb-true _ _ y.1.1.1.1.0;
      values_is = eqb-true _ _ y.1.1.1.1.1.0;
    }

pub node_yes : (domain l r : ℕ) → 0 ≡ node_number domain l r → NodeYes domain l r
unfolding node_number
node_yes domain l r e =
    let y = all_yes (node_questions domain l r) tt (sym e) in
    record { left_is = eqb-true _ _ y.0; right_is = eqb-true _ _ y.1.0; domain_le = leb-true _ _ y.1.1.0 }

pub build_yes : (domain count width values tree : ℕ) → 0 ≡ build_number domain count width values tree → BuildYes domain count width values tree
unfolding build_number
build_yes domain count width values tree e =
    let y = all_yes (build_questions domain count width values tree) tt (sym e) in
    record {
      domain_le = leb-true _ _ y.0;
      shaped = bounded count width (y.1.0, (y.1.1.0, (y.1.1.1.0, tt)));
      values_is = eqb-true _ _ y.1.1.1.1.0;
      tree_is = eqb-true _ _ y.1.1.1.1.1.0;
    }

pub leaves_yes : (domain count width first values out : ℕ) → 0 ≡ leaves_number domain count width first values out → LeavesYes domain count width first values out
unfolding leaves_number
leaves_yes domain count width first values out e =
    let y = all_yes (leaves_questions domain count width first values out) tt (sym e) in
    record {
      domain_le = leb-true _ _ y.0;
      shaped = bounded count width (y.1.0, (y.1.1.0, (y.1.1.1.0, tt)));
      within = leb-true _ _ y.1.1.1.1.0;
      values_is = eqb-true _ _ y.1.1.1.1.1.0;
      whole = eqb-true _ _ y.1.1.1.1.1.1.0;
    }

pub parents_yes : (domain children out : ℕ) → 0 ≡ parents_number domain children out → ParentsYes domain children out
unfolding parents_number
parents_yes domain children out e =
    let y = all_yes (parents_questions domain children out) tt (sym e) in
    record { pairs = eqb-true _ _ y.0; out_is = eqb-true _ _ y.1.0; domain_le = leb-true _ _ y.1.1.0 }

pub open_yes : (count width place tree path : ℕ) → 0 ≡ open_number count width place tree path → OpenYes count width place tree path
unfolding open_number
open_yes count width place tree path e =
    let y = all_yes (open_questions count width place tree path) tt (sym e) in
    record {
      shaped = bounded count width (y.0, (y.1.0, (y.1.1.0, tt)));
      placed = ltb-true _ _ y.1.1.1.0;
      tree_is = eqb-true _ _ y.1.1.1.1.0;
      path-is = eqb-true _ _ y.1.1.1.1.1.0;
    }

pub root_yes : (domain count width place values path : ℕ) → 0 ≡ root_number domain count width place values path → RootYes domain count width place values path
unfolding root_number
root_yes domain count width place values path e =
    let y = all_yes (root_questions domain count width place values path) tt (sym e) in
    record {
      domain_le = leb-true _ _ y.0;
      shaped = bounded count width (y.1.0, (y.1.1.0, (y.1.1.1.0, tt)));
      placed = ltb-true _ _ y.1.1.1.1.0;
      path-is = eqb-true _ _ y.1.1.1.1.1.0;
      values_is = eqb-true _ _ y.1.1.1.1.1.1.0;
    }
