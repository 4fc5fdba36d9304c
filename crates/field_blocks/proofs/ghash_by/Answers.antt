-- `field_blocks::ghash_by` meets its contract. The loop's invariant: the hash from y of the blocks that are left is that of all from zero.
use mathlib.Core.Path.{sym, ap, ◌∙◌}
use Rattle.theory_field.specs.Field.{◌⊗◌}
use Rattle.field_gf128.specs.Word.{word}
use Rattle.field_blocks.proofs.Runs.{hash_begin, hash-step, hash_end}
use Rattle.field_blocks.proofs.ghash_by.Goals as goal

pub loop-v-init : goal.loop-v-init
loop-v-init g c =
    unfold word in hash_begin (word c.args.by.factor) c.args.blocks.now

pub loop-v-preserved : goal.loop-v-preserved
loop-v-preserved g c =
    let a = c.args in
    hash-step (word a.by.factor) (word c.loop-v.y) _ _ _ c.loop-v.v a.blocks.now c.loop-v-test.true c.block_at.ensures
    (c.times-y.ensures ∙ ap (◌⊗◌ (word a.by.factor)) c.add-sum.ensures)
    ∙ c.loop-v.invariant

pub returns : goal.returns
returns g c =
    let a = c.args in sym (hash_end (word a.by.factor) (word c.loop-v.y) _ c.loop-v.v a.blocks.now c.loop-v-test.false) ∙ c.loop-v.invariant
