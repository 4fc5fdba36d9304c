-- `code_parts::is_block` meets its contract.
use mathlib.Core.Path.{ap}
use lib.Dec.{ltb}
use Rattle.code_parts.proofs.is_block.Goals as goal

pub returns : goal.returns
returns c =
    ap (ltb c.args.eps) c.power.ensures
