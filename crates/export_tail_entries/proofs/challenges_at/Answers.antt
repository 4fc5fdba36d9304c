-- `export_tail_entries::challenges_at` meets its contract.
use Prim.Native.Nat.{◌*◌, ◌^◌, ◌≤◌}
use native.Mathlib.Omega.{arith}
use Rattle.export_tail_entries.proofs.Input.{power_small, product_small}
use Rattle.export_tail_entries.proofs.challenges_at.Goals as goal
use Rattle.export_tail_entries.proofs.challenges_at.Goals.{After-power}

-- the powers and products are small
small : (c : After-power) → (2 ^ c.args.n ≤ 256) × (c.args.k * c.args.n ≤ 64)
small c = (power_small (omega arith), product_small c.args.n c.args.k c.requires)

pub overflow_mul-result : goal.overflow_mul-result
overflow_mul-result c = omega (arith, (small c).0, (small c).1)

pub overflow_add-result : goal.overflow_add-result
overflow_add-result c = omega (arith, (small c).0, (small c).1)

pub overflow_mul-result-2 : goal.overflow_mul-result-2
overflow_mul-result-2 c = omega (arith, (small c).0, (small c).1)

pub overflow_mul-result-3 : goal.overflow_mul-result-3
overflow_mul-result-3 c = omega (arith, (small c).0, (small c).1)

pub overflow_add-result-2 : goal.overflow_add-result-2
overflow_add-result-2 c = omega (arith, (small c).0, (small c).1)
