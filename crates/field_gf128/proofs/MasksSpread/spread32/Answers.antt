-- `field_gf128::MasksSpread::spread32` meets its contract: five times each group of bits is parted in two.
use Rattle.theory_laws.specs.Xor.{◌⊕◌}
use Rattle.field_gf128.proofs.Spreading.{by_masks, by_masks_spread}
use Rattle.field_gf128.proofs.MasksSpread.spread32.Goals as goal

pub returns : goal.returns
unfolding by_masks ◌⊕◌
returns c = by_masks_spread c.args.x c.requires
