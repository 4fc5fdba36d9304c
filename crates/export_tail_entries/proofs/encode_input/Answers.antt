-- `export_tail_entries::encode_input` meets its contract.
use mathlib.Core.Path.{◌∙◌}
use Rattle.theory_laws.specs.Refusals.{answered}
use Rattle.export_tail_entries.proofs.Input.{encoded}
use Rattle.export_tail_entries.proofs.encode_input.Goals as goal

pub returns : goal.returns
returns c =
    let a = c.args in let p = c.requires in encoded a.n a.k c.power-rows.result (answered c.encode.result) a.input.now c.words_at.new.out c.words_at-2.new.out a.out.now
    c.encode.new.out
    p.0 (c.words_at.auto.out ∙ p.1.rows) (c.words_at-2.auto.out ∙ p.1.factors) p.1.entries c.power-rows.ensures
    c.words_at.ensures c.words_at-2.ensures c.encode.ensures.value c.encode.ensures.out_after
