-- `ring_indicator::materialize` meets its contract: phi of each entry of the equality table.
use mathlib.Core.Path.{◌≡◌, refl, sym, ap, ◌∙◌}
use Prim.Native.Nat.{◌/◌, ◌^◌}
use native.Mathlib.Omega.{arith}
use lib.ListN.{length}
use Rattle.theory_field.specs.Words.{words}
use Rattle.theory_field.proofs.Words.{length-words-even}
use Rattle.field_equality.specs.helpers.Sizes.{Sizes}
use Rattle.field_equality.proofs.Growing.{sizes}
use Rattle.field_pack.specs.Phi.{coefficients}
use Rattle.ring_indicator.proofs.Materialized.{materialized}
use Rattle.ring_indicator.proofs.materialize.Goals as goal
use Rattle.ring_indicator.proofs.materialize.Goals.{In_ok-entries}

-- what is known where no question said no
lent : (c : In_ok-entries) → Sizes c.args.n (length c.args.z.now) (length c.args.out.now)
lent c = sizes _ _ _ _ c.in_ok-entries.ensures.value refl

pub phi_all-requires : goal.phi_all-requires
phi_all-requires c =
    let known = lent (goal.at.phi_all-requires c).In_ok-entries in
    omega (arith, known.of_table, c.entries.auto.out)

pub returns : goal.returns
returns c =
    let a = c.args in let known = lent (goal.at.returns c).In_ok-entries in
    let n : length (words a.z.now) ≡ a.n = length-words-even a.z.now a.n known.of_point in
    let m : length c.entries.new.out / 2 ≡ 2 ^ a.n = omega (arith, known.of_table, c.entries.auto.out) in record {
      value = c.in_ok-entries.ensures.value;
      out_after = c.phi_all.ensures
          ∙ materialized (coefficients a.rb) (words a.z.now) (words c.entries.new.out) (length c.entries.new.out / 2)
          c.in_ok-entries.ensures.out_after (m ∙ ap (λ k. 2 ^ k) (sym n));
    }
