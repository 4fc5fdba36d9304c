-- `code_codeword::sizes::holds_half` meets its contract.
use mathlib.Core.Path.{ap}
use Prim.Native.Nat.{ℕ, ◌*◌, ◌/◌}
use lib.Dec.{eqb}
use Rattle.code_codeword.proofs.sizes.holds_half.Goals as goal

pub returns : goal.returns
returns c = ap (λ (m : ℕ). eqb c.args.halves (2 * (m / 2))) c.power.ensures
