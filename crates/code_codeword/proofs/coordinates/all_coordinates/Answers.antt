-- `code_codeword::coordinates::all_coordinates` meets its contract: the first i entries are stored.
use mathlib.Core.Path.{refl}
use native.Mathlib.Omega.{arith}
use lib.ListN.{length-set}
use Rattle.theory_laws.proofs.Table.{is-tab}
use Rattle.theory_laws.proofs.Updates.{fill_step}
use Rattle.code_codeword.proofs.coordinates.all_coordinates.Goals as goal

pub loop-i-init : goal.loop-i-init
loop-i-init c = (refl, λ v h. absurd (omega arith))

pub loop-i-preserved : goal.loop-i-preserved
loop-i-preserved c =
    (simp length-set (omega arith), fill_step (λ v. v) c.loop-i.i c.loop-i.list c.loop-i.i (omega arith) refl c.loop-i.invariant.1)

pub returns : goal.returns
returns c = is-tab c.loop-i.list _ (λ v. v) c.loop-i.invariant.0 (λ v h. c.loop-i.invariant.1 v (omega arith))
