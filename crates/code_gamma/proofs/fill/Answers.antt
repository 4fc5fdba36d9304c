-- `code_gamma::fill` meets its contract: the first v gammas are stored.
use mathlib.Core.Path.{◌∙◌}
use native.Mathlib.Omega.{arith}
use Rattle.theory_field.proofs.Words.{filled_more, filled_all}
use Rattle.theory_code.specs.Gammas.{gammas}
use Rattle.code_gamma.proofs.Sizes.{factor_positive}
use Rattle.code_gamma.proofs.Messages.{length-gamma_prefix, fits-new, gamma-fed}
use Rattle.code_gamma.proofs.fill.Goals as goal

pub prefix-common-requires : goal.prefix-common-requires
prefix-common-requires c = c.requires.0

pub loop-v-init : goal.loop-v-init
loop-v-init c = (c.requires.2, λ v h. absurd (omega arith))

pub nonzero_div-v : goal.nonzero_div-v
nonzero_div-v c =
    factor_positive c.args.k c.args.n c.loop-v.v c.loop-v-test.true

pub nonzero_rem-v : goal.nonzero_rem-v
nonzero_rem-v c =
    factor_positive c.args.k c.args.n c.loop-v.v c.loop-v-test.true

pub gamma_at-g-requires : goal.gamma_at-g-requires
gamma_at-g-requires c =
    let a = c.args in fits-new _ _ _ 32 c.prefix-common.ensures (length-gamma_prefix a.domain.now a.n a.k) (omega arith)

pub loop-v-preserved : goal.loop-v-preserved
loop-v-preserved c =
    let a = c.args in (
      c.put.auto.s ∙ c.loop-v.invariant.0,
      filled_more _ _ _ _ _ (omega arith) c.put.ensures
          (gamma-fed _ a.domain.now a.n a.k _ _ _ c.requires.0 c.prefix-common.ensures
          c.gamma_at-g.ensures) c.loop-v.invariant.1,
    )

pub returns : goal.returns
unfolding gammas
returns c = filled_all _ _ _ _ c.loop-v.invariant.0 c.loop-v-test.false c.loop-v.invariant.1
