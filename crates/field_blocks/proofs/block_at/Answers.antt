-- `field_blocks::block_at` meets its contract.
use mathlib.Core.Path.{ap, ◌∙◌}
use Prim.Native.Nat.{◌*◌}
use Rattle.theory_gcm.specs.helpers.Mirrored.{turned}
use Rattle.field_blocks.proofs.Turns.{part_turned}
use Rattle.field_blocks.proofs.block_at.Goals as goal

pub returns : goal.returns
returns c =
    c.mirror_word.ensures ∙ ap (turned 16) c.word_at.ensures
    ∙ part_turned (16 * c.args.v) c.args.blocks.now c.requires (λ k. (c.type_inv.blocks k).fits)
