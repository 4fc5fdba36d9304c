-- `ring_partials::partial_evals` meets its contract: what the questions leave known suffices.
use mathlib.Core.Path.{◌≡◌, refl, ap, ◌∙◌}
use Prim.Native.Nat.{◌*◌, ◌/◌, ◌^◌}
use native.Mathlib.Omega.{arith}
use lib.ListN.{length}
use Rattle.theory_laws.specs.Table.{tab, at}
use Rattle.theory_field.specs.Words.{words}
use Rattle.theory_multilinear.specs.Partials.{partial, partial_evals}
use Rattle.ring_partials.proofs.Sizes.{all-lent}
use borrow.Author.Rules.{rules}
use Rattle.ring_partials.proofs.partial_evals.Goals as goal
use Rattle.ring_partials.proofs.partial_evals.Goals.{In_ok-questions}

-- what is known where no question said no
lent : (c : In_ok-questions)
    → (length c.args.packed.now ≡ 2 * 2 ^ c.args.n)
    × (length c.args.eq.now ≡ 2 * 2 ^ c.args.n)
    × (length c.args.out.now ≡ 256)
lent c = all-lent _ _ _ _ _ c.in_ok-questions.ensures refl

pub partials-requires : goal.partials-requires
partials-requires c =
    let known = lent (goal.at.partials-requires c).In_ok-questions in
    (omega arith, known.2)

pub returns : goal.returns
unfolding partial_evals
returns c =
    let a = c.args in let known = lent (goal.at.returns c).In_ok-questions in
    let m : length a.packed.now / 2 ≡ 2 ^ a.n = omega arith in
    record { value = search rules; out_after = c.partials.ensures ∙ ap (λ k. tab 128 (partial k (at (words a.packed.now)) (at (words a.eq.now)))) m }
