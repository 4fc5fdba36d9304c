-- `field_blocks::import_block` meets its contract.
use mathlib.Core.Path.{◌∙◌}
use Prim.Native.Nat.{◌^◌, ◌<◌}
use native.Mathlib.Omega.{arith}
use Rattle.field_gf128.specs.Word.{word}
use Rattle.field_blocks.proofs.Turns.{import_turned}
use Rattle.field_blocks.proofs.import_block.Goals as goal
use Rattle.field_blocks.proofs.import_block.Goals.{Start}

-- found where `word` is shut
halves_lt : (c : Start) → (c.args.b.first < 2 ^ 64) × (c.args.b.second < 2 ^ 64)
halves_lt c = (omega arith, omega arith)

pub returns : goal.returns
unfolding word
returns c =
    let small = halves_lt (goal.at.returns c).Start in
    c.mirror_word.ensures ∙ import_turned c.args.b small.0 small.1
