-- `export_tail_entries::last_level` meets its contract: after l folds the level is level l.
use mathlib.Core.Path.{ap, ◌∙◌}
use Prim.Native.Nat.{ℕ, ◌+◌, ◌*◌}
use native.Mathlib.Omega.{arith}
use lib.Dec.{lit≤}
use lib.ListN.{take}
use Rattle.theory_laws.specs.Table.{tab, at}
use Rattle.theory_field.specs.Words.{words}
use Rattle.theory_multilinear.specs.Levels.{level}
use Rattle.export_tail_entries.specs.Tail.{input_level}
use Rattle.export_tail_entries.proofs.Padded.{take-padded}
use Rattle.export_tail_entries.proofs.Input.{input_small, next_level}
use Rattle.theory_field.proofs.Words.{take_words}
use Rattle.export_tail_entries.proofs.last_level.Goals as goal

pub loop-l-init : goal.loop-l-init
loop-l-init c =
    unfold input_level in unfold level in c.codeword-current.ensures

pub word_at-r-requires : goal.word_at-r-requires
word_at-r-requires c =
    omega (arith, c.challenges_at-from.ensures, c.requires.size)

pub overflow_add-from : goal.overflow_add-from
overflow_add-from c =
    omega (arith, c.challenges_at-from.ensures, input_small c.args.n c.args.k c.requires.n+k≤)

pub loop-l-preserved : goal.loop-l-preserved
loop-l-preserved c =
    let a = c.args in
    next_level a.n a.k c.loop-l.l _ _ a.input.now (words c.loop-l.current) _ c.loop-l-test.true c.requires.n+k≤
    (ap (λ (x : ℕ). x + 16 * c.loop-l.l) c.challenges_at-from.ensures) c.word_at-r.ensures c.loop-l.invariant c.folded-next.ensures

pub returns : goal.returns
returns c =
    let a = c.args in
    ap words c.first.ensures ∙ take_words 16 c.loop-l.current
    ∙ ap (take 16) (c.loop-l.invariant ∙ ap (λ (x : ℕ). tab 256 (at (input_level a.n a.k a.input.now x))) (omega arith))
    ∙ take-padded 16 256 (input_level a.n a.k a.input.now a.n) (lit≤ tt)
