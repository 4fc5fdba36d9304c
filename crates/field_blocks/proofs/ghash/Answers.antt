-- `field_blocks::ghash` meets its contract: the export of the hash by words is the standard's.
use mathlib.Core.Path.{sym, ap, ◌∙◌}
use mathlib.Core.List.{List}
use Prim.Native.Nat.{ℕ}
use Rattle.theory_laws.specs.Lists.{le_bytes}
use Rattle.field_blocks.specs.Block.{block}
use Rattle.field_blocks.specs.Answers.{answer}
use Rattle.field_blocks.proofs.Runs.{hash-refused, hash-done}
use Rattle.field_blocks.proofs.ghash.Goals as goal

pub returns-then-blocks-ne0 : goal.returns-then-blocks-ne0
unfolding answer block le_bytes
returns-then-blocks-ne0 c =
    sym (hash-refused (block c.args.key) c.args.blocks.now c.if-blocks-ne0.true)

pub returns : goal.returns
unfolding answer
returns c =
    let a = c.args in ap (λ (b : List ℕ). (0, b)) c.export_block.ensures
    ∙ sym (hash-done (block a.key) a.blocks.now _ _ c.if-blocks-ne0.false c.import_block-h.ensures c.ghash_words-y.ensures)
