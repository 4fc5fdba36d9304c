-- `first_eight` meets its contract.
use mathlib.Core.Path.{◌∙◌}
use native.Mathlib.Omega.{arith}
use Rattle.theory_blake3.specs.Compression.{cv}
use Rattle.theory_laws.proofs.Table.{take-tab}
use Rattle.hash_node.proofs.first_eight.Goals as goal

pub returns : goal.returns
unfolding cv
returns c = (rw c.unwrap.ensures at c.try_into.ensures.1).same ∙ take-tab 8 c.args.w (omega arith)
