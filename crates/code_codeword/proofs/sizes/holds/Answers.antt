-- `code_codeword::sizes::holds` meets its contract.
use mathlib.Core.Path.{ap}
use Prim.Native.Nat.{ℕ, ◌*◌}
use native.Mathlib.Omega.{arith}
use lib.Dec.{eqb}
use Rattle.code_codeword.proofs.Lengths.{power_fits}
use Rattle.code_codeword.proofs.sizes.holds.Goals as goal

pub overflow_mul-result : goal.overflow_mul-result
overflow_mul-result c = omega (arith, power_fits c.requires)

pub returns : goal.returns
returns c = ap (λ (m : ℕ). eqb c.args.halves (2 * m)) c.power.ensures
