-- `field_blocks::mirror` meets its contract: groups of 4, 2 and 1 bits change places.
use native.Mathlib.Omega.{arith}
use Rattle.theory_laws.specs.Xor.{◌⊕◌}
use Rattle.field_blocks.proofs.Masks.{by_masks, by_masks_turned}
use Rattle.field_blocks.proofs.mirror.Goals as goal

pub returns : goal.returns
unfolding by_masks ◌⊕◌
returns c =
    by_masks_turned c.args.x (omega arith)
