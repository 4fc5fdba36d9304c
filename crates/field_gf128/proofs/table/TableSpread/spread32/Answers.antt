-- `field_gf128::table::TableSpread::spread32` meets its contract: bytes are put above bytes.
use Rattle.theory_laws.specs.Xor.{◌⊕◌}
use Rattle.field_gf128.proofs.Spreading.{four_bytes}
use Rattle.field_gf128.proofs.table.TableSpread.spread32.Goals as goal

pub returns : goal.returns
unfolding ◌⊕◌
returns c =
    four_bytes c.args.x c.spread8.result c.spread8-2.result c.spread8-3.result c.spread8-4.result
    c.spread8.ensures c.spread8-2.ensures c.spread8-3.ensures c.spread8-4.ensures
