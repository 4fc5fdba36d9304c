-- `field_blocks::ghash_by` meets its contract. The loop's invariant: the hash from y of the blocks that are left is that of all from zero.
use mathlib.Core.Path.{◌≡◌}
use Rattle.theory_gcm.specs.helpers.Hash.{hash_from}
use Rattle.field_gf128.specs.Word.{word}
use Rattle.field_blocks.specs.Answers.{imported_run}
use Rattle.field_blocks.proofs.Runs.{hash_left}
use Rattle.field_blocks.proofs.ghash_by.Given as goal

abbrev pub invariant-loop-v : goal.invariant-loop-v
invariant-loop-v g l = hash_left (word l.by.factor) (word l.y) l.n l.v l.blocks ≡ hash_from (word l.by.factor) 0 (imported_run l.blocks)
