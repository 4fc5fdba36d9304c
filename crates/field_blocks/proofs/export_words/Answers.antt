-- `field_blocks::export_words` meets its contract. The loop's invariant: storing the turned words that are left gives the final buffer.
use mathlib.Core.Path.{refl, sym, ap, ◌∙◌}
use mathlib.Core.List.{map}
use native.Mathlib.Nat.{zero-add}
use native.Mathlib.Omega.{arith}
use lib.ListN.{length-map}
use Rattle.theory_laws.specs.Table.{at}
use Rattle.theory_field.specs.Words.{words}
use Rattle.theory_field.proofs.Words.{length-words, length-words-even}
use Rattle.theory_gcm.specs.helpers.Mirrored.{turned}
use Rattle.field_bytes.proofs.Puts.{words_begin, words_step, words_put}
use Rattle.field_blocks.proofs.Runs.{at_map, exported_put}
use Rattle.field_blocks.proofs.export_words.Goals as goal

pub loop-v-init : goal.loop-v-init
loop-v-init c = (refl, omega arith, words_begin _ _ _ _ _)

pub loop-v-preserved : goal.loop-v-preserved
loop-v-preserved c =
    let ws = words c.args.values.now in
    let long = length-words c.args.values.now in
    let word-v =
    c.mirror_word-m.ensures ∙ ap (turned 16) c.get.ensures ∙ at_map (turned 16) ws c.loop-v.v (omega (arith, long)) in (
      omega (arith, c.put_word-at.auto.out),
      omega (arith, c.put_word-at.ensures.end),
      words_step c.loop-v.out c.loop-v.at (map (turned 16) ws) 0 _ c.loop-v.v _ _ _ _ c.loop-v.invariant.2 c.put_word-at.ensures
          (word-v ∙ ap (at (map (turned 16) ws)) (sym (zero-add c.loop-v.v)))
          c.loop-v-test.true (omega (arith, long, length-map ws (turned 16))),
    )

pub returns : goal.returns
returns c =
    let ws = words c.args.values.now in
    let long = length-words c.args.values.now in
    exported_put ws _ (length-words-even c.args.values.now _ (omega arith)) (omega arith)
    (words_put (map (turned 16) ws) 0 _ c.loop-v.v c.loop-v.invariant.2 c.loop-v-test.false c.loop-v.auto.v-end (omega arith)
    (omega (arith, long, length-map ws (turned 16))))
