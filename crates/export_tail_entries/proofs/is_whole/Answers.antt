-- `export_tail_entries::is_whole` meets its contract.
use mathlib.Core.Path.{ap}
use Prim.Native.Nat.{ℕ, ◌+◌, ◌*◌}
use native.Mathlib.Omega.{arith}
use lib.Dec.{eqb}
use Rattle.export_tail_entries.proofs.Input.{input_small}
use Rattle.export_tail_entries.proofs.is_whole.Goals as goal

pub overflow_add-result : goal.overflow_add-result
overflow_add-result c = omega (arith, input_small c.args.n c.args.k c.requires)

pub returns : goal.returns
returns c = ap (λ (m : ℕ). eqb c.args.len (m + 16 * c.args.n)) c.challenges_at.ensures
