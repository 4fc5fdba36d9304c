-- `field_blocks::export_block` meets its contract.
use Prim.Native.Nat.{◌^◌, ◌<◌}
use native.Mathlib.Omega.{arith}
use Rattle.field_gf128.specs.Word.{word}
use Rattle.field_blocks.proofs.Turns.{export_turned}
use Rattle.field_blocks.proofs.export_block.Goals as goal
use Rattle.field_blocks.proofs.export_block.Goals.{After-mirror_word-m}

-- found where `word` is shut
lo-lt : (c : After-mirror_word-m) → c.mirror_word-m.result.lo < 2 ^ 64
lo-lt c = omega arith

pub returns : goal.returns
unfolding word
returns c =
    export_turned _ (word c.args.w) (lo-lt c) c.mirror_word-m.ensures
