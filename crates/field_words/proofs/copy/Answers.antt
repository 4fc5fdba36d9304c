-- `copy` meets its contract: below i, each half is copied.
use Prim.Native.Nat.{ℕ, ◌<◌}
use mathlib.Core.Path.{◌≡◌, refl, ◌∙◌}
use native.Mathlib.Omega.{arith}
use lib.ListN.{length, length-set}
use Rattle.theory_laws.specs.Table.{at}
use Rattle.theory_laws.proofs.Table.{is-tab, tab-at}
use Rattle.theory_laws.proofs.Updates.{fill_step}
use Rattle.field_words.proofs.copy.Goals as goal

pub loop-i-init : goal.loop-i-init
loop-i-init c = (refl, λ v h. absurd (omega arith))

pub loop-i-preserved : goal.loop-i-preserved
loop-i-preserved c =
    let from = c.args.from.now in (
      simp length-set (omega arith),
      fill_step (at from) c.loop-i.i c.loop-i.to (at from c.loop-i.i) (omega arith) refl c.loop-i.invariant.1,
    )

pub returns : goal.returns
returns c =
    let from = c.args.from.now in let to = c.loop-i.to in
    is-tab to (length from) (at from) (omega arith) (λ v h. c.loop-i.invariant.1 v (omega arith)) ∙ tab-at from
