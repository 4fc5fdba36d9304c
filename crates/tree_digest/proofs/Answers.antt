-- Answers, refused and done.
use Rattle.std.specs.Prelude.{Ok, Err}
use Prim.Native.Nat.{ℕ}
use mathlib.Core.Path.{◌≡◌, refl, ◌∙◌, ap, ap₂}
use mathlib.Core.List.{List}
use lib.ListN.{length}
use lib.Seq.{take_all}
use native.Mathlib.Omega.{arith}
use Rattle.theory_laws.specs.Lists.{part}
use Rattle.theory_merkle.specs.Tree.{group_of, leaf_digest, node_digest, leaf_of}
use Rattle.theory_laws.specs.Refusals.{number_of}
use Rattle.theory_laws.specs.declared.Refusal.{Refusal}
use Rattle.theory_laws.proofs.Refusals.{not-done}
use Rattle.hash_hasher.specs.Whole.{digested, answered}

-- a call that is refused
pub refused-digest : (e : Refusal) (n : ℕ) (d : List ℕ) → number_of e ≡ n → digested (Err e) ≡ answered n d
refused-digest e n d h = rw (← h, not-done e) refl

-- a call that is done
pub done-digest : (n : ℕ) (x d : List ℕ) → 0 ≡ n → x ≡ d → digested (Ok x) ≡ answered n d
done-digest n x d e f = rw (← e, f) refl

-- the group of the place
pub leaf_of_place : (H : List ℕ → List ℕ) (d domain : List ℕ) (count width group place : ℕ) (values : List ℕ) → group ≡ group_of place width
    → d ≡ leaf_digest H domain count width group values
    → d ≡ leaf_of H domain count width place values
unfolding leaf_of
leaf_of_place H d domain count width group place values e f = f ∙ ap (λ g. leaf_digest H domain count width g values) e

-- digests read from slices of 32 bytes
whole-digest : (l : List ℕ) → length l ≡ 32 → part 32 0 l ≡ l
unfolding part
whole-digest l e = take_all 32 l (omega arith)

pub node_of_slices : (H : List ℕ → List ℕ) (d domain : List ℕ) (level : ℕ) (l r x y : List ℕ) → length l ≡ 32 → length r ≡ 32 → x ≡ part 32 0 l → y ≡ part 32 0 r
    → d ≡ node_digest H domain level x y
    → d ≡ node_digest H domain level l r
node_of_slices H d domain level l r x y hl hr ex ey e = e ∙ ap₂ (λ a b. node_digest H domain level a b) (ex ∙ whole-digest l hl) (ey ∙ whole-digest r hr)
