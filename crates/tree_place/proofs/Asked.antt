-- Questions in the order in which the functions ask them, the shape's first.
use Prim.Native.Nat.{ℕ, ◌+◌, ◌*◌, ◌/◌, ◌%◌, ◌<◌}
use mathlib.Core.Path.{◌≡◌, refl, sym, ◌∙◌}
use mathlib.Core.Bool.{Bool, false, not}
use mathlib.Core.List.{List, [], ◌∷◌}
use borrow.Author.Tests.{not-false, eq-eqb, ne_eqb}
use lib.Dec.{leb, ltb, eqb}
use Rattle.theory_laws.specs.Questions.{pick, Question, ◌asks◌, first_no}
use Rattle.theory_laws.specs.declared.Refusal.{Refusal}
use Rattle.theory_laws.specs.Refusals.{number_of}
use Rattle.theory_laws.proofs.Questions.{all_yes, first_no-append}
use Rattle.theory_laws.proofs.Refusals.{not-done}
use Rattle.theory_merkle.specs.Tree.{depth_of, tree_size}
use Rattle.theory_merkle.specs.Shape.{Bounded}
use Rattle.theory_merkle.specs.Questions.{is_pow, domain_fits, shape}
use Rattle.theory_merkle.proofs.Sizes.{is_pow_yes, power_pos}
use Rattle.theory_merkle.proofs.Questions.{bounded}
use Rattle.theory_merkle.specs.Numbers.{shape_number, tree_number, leaf_number, build_number, open_number, root_number}
use Rattle.theory_merkle.specs.PartQuestions.{leaves_number}

-- a power of two is no zero
pub power_some : (m x : ℕ) (q : Bool) → q ≡ is_pow m x → not q ≡ false → 0 < x
power_some m x q e n = power_pos m x (is_pow_yes m x (sym e ∙ not-false q n))

-- where the shape's questions say no 'no'
pub shape-bounded : (count width : ℕ) → 0 ≡ shape_number count width → Bounded count width
unfolding shape_number
shape-bounded count width e = bounded count width (all_yes (shape count width) tt (sym e))

pub tree-bounded : (domain count width : ℕ) → 0 ≡ tree_number domain count width → Bounded count width
unfolding tree_number
tree-bounded domain count width e = bounded count width (all_yes (domain_fits domain ∷ shape count width) tt (sym e)).1

-- the shape's questions first, whose number is q, then the rest
abbrev then_asked : ℕ → List Question → ℕ
then_asked q rest = pick (eqb q 0) (first_no rest) q

abbrev leaf-rest : ℕ → ℕ → ℕ → ℕ → List Question
leaf-rest count width place values = (11 asks ltb place count) ∷ (5 asks eqb values (2 * width)) ∷ []

abbrev root-rest : ℕ → ℕ → ℕ → ℕ → ℕ → List Question
root-rest count width place values path = (11 asks ltb place count) ∷ (12 asks eqb path (32 * depth_of count width)) ∷ (5 asks eqb values (2 * width)) ∷ []

abbrev build_rest : ℕ → ℕ → ℕ → ℕ → List Question
build_rest count width values tree = (5 asks eqb values (2 * count)) ∷ (5 asks eqb tree (32 * tree_size count width)) ∷ []

abbrev leaves-rest : ℕ → ℕ → ℕ → ℕ → ℕ → List Question
leaves-rest count width first values out =
    (11 asks leb (first + out / 32) (count / width)) ∷ (5 asks eqb values (2 * count)) ∷ (5 asks eqb (out % 32) 0) ∷ []

abbrev open_rest : ℕ → ℕ → ℕ → ℕ → ℕ → List Question
open_rest count width place tree path =
    (11 asks ltb place count) ∷ (5 asks eqb tree (32 * tree_size count width)) ∷ (5 asks eqb path (32 * depth_of count width)) ∷ []

module _ (r domain count width place values : ℕ) where
  pub leaf-asked : r ≡ then_asked (tree_number domain count width) (leaf-rest count width place values) → r ≡ leaf_number domain count width place values
  unfolding tree_number leaf_number
  leaf-asked e = e ∙ sym (first_no-append (domain_fits domain ∷ shape count width) (leaf-rest count width place values) tt)

  pub root-asked : (path : ℕ) → r ≡ then_asked (tree_number domain count width) (root-rest count width place values path)
      → r ≡ root_number domain count width place values path
  unfolding tree_number root_number
  root-asked path e = e ∙ sym (first_no-append (domain_fits domain ∷ shape count width) (root-rest count width place values path) tt)

pub build_asked : (r domain count width values tree : ℕ) → r ≡ then_asked (tree_number domain count width) (build_rest count width values tree)
    → r ≡ build_number domain count width values tree
unfolding tree_number build_number
build_asked r domain count width values tree e = e ∙ sym (first_no-append (domain_fits domain ∷ shape count width) (build_rest count width values tree) tt)

pub leaves-asked : (r domain count width first values out : ℕ) → r ≡ then_asked (tree_number domain count width) (leaves-rest count width first values out)
    → r ≡ leaves_number domain count width first values out
unfolding tree_number leaves_number
leaves-asked r domain count width first values out e =
    e ∙ sym (first_no-append (domain_fits domain ∷ shape count width) (leaves-rest count width first values out) tt)

pub open_asked : (r count width place tree path : ℕ) → r ≡ then_asked (shape_number count width) (open_rest count width place tree path)
    → r ≡ open_number count width place tree path
unfolding shape_number open_number
open_asked r count width place tree path e = e ∙ sym (first_no-append (shape count width) (open_rest count width place tree path) tt)

-- a question on a number that a function worked out, by what it ensures of it
module _ {A : Type 0} (r x y : A) where
  pub yes_worked : (a q b : ℕ) → q ≡ b → a ≡ q → r ≡ x → r ≡ pick (eqb a b) x y
  yes_worked a q b f h e = rw (eq-eqb a b (h ∙ f)) e

  pub no_worked : (a q b : ℕ) → q ≡ b → (a ≡ q → ⊥) → r ≡ y → r ≡ pick (eqb a b) x y
  no_worked a q b f h e = rw (ne_eqb a b (λ z. h (z ∙ sym f))) e

-- the questions that were put first, by what a function that put them ensures of its answer
pub passed : (r x v : ℕ) → 0 ≡ v → r ≡ x → r ≡ pick (eqb v 0) x v
passed r x v h e = rw (← h) e

pub stopped : (x v : ℕ) (e : Refusal) → number_of e ≡ v → number_of e ≡ pick (eqb v 0) x v
stopped x v e h = rw (← h, not-done e) refl

pub ruleset first = (yes_worked, no_worked, passed, stopped)
