-- `field_runs::pass_first_by` meets its contract. The loop's invariant: the words of the first q pairs are done.
use mathlib.Core.Path.{◌≡◌, refl, ◌∙◌}
use Prim.Native.Nat.{◌+◌, ◌*◌, ◌^◌}
use native.Mathlib.Omega.{arith}
use lib.ListN.{length}
use Rattle.theory_laws.specs.Table.{at}
use Rattle.theory_laws.proofs.Numbers.{pow-two}
use Rattle.theory_laws.proofs.Updates.{updated, updated_end}
use Rattle.theory_field.specs.Words.{words}
use Rattle.theory_field.proofs.Words.{length-words-even}
use Rattle.field_gf128.specs.Word.{word}
use Rattle.theory_multilinear.proofs.Passes.{pass}
use Rattle.field_runs.specs.Runs.{pass_list}
use Rattle.field_runs.proofs.Pairs.{pair_turn}
use Rattle.field_runs.proofs.pass_first_by.Goals as goal

pub loop-q-init : goal.loop-q-init
unfolding updated
loop-q-init g c = refl

pub put_pair-requires : goal.put_pair-requires
put_pair-requires g c =
    omega arith

pub loop-q-preserved : goal.loop-q-preserved
loop-q-preserved g c =
    let a = c.args in
    c.put_pair.ensures ∙ pair_turn c.loop-q.q (word a.by.factor) (words a.src.now) (words a.out.now) (words c.loop-q.out) c.loop-q.invariant

pub returns : goal.returns
unfolding pass_list
returns g c =
    let a = c.args in let m = c.requires.0.m in let fours : length a.out.now ≡ 4 * 2 ^ m = omega (arith, c.requires.0.size, pow-two m) in
    let made : length (words a.out.now) ≡ 2 * 2 ^ m = length-words-even a.out.now (2 * 2 ^ m) (omega arith) in
    let read : length (words a.src.now) ≡ 2 * 2 ^ m = length-words-even a.src.now (2 * 2 ^ m) (omega (arith, c.requires.1)) in
    updated_end (λ k w. pass 0 (word a.by.factor) (at (words a.src.now)) k) (c.loop-q.q + c.loop-q.q) (length (words a.src.now)) (words a.out.now) (words c.loop-q.out)
    (omega arith) (omega arith) c.loop-q.invariant
