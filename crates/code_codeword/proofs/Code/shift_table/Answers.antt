-- `code_codeword::Code::shift_table` meets its contract: the passes at the first i coordinates are done.
use Prim.Native.Nat.{ℕ}
use mathlib.Core.Path.{◌≡◌, refl, ap, ◌∙◌}
use native.Mathlib.Omega.{arith}
use Rattle.theory_field.specs.Words.{words}
use Rattle.code_codeword.specs.helpers.Shifted.{passed_of}
use Rattle.code_codeword.proofs.Lengths.{has_bit}
use Rattle.code_codeword.proofs.Blocks.{one-passed}
use Rattle.code_codeword.proofs.Code.shift_table.Goals as goal

pub loop-i-init : goal.loop-i-init
loop-i-init c = (refl, refl, λ t e. e)

pub pass-requires : goal.pass-requires
pass-requires c =
    (has_bit c.args.m c.loop-i.i _ (omega arith) (omega arith), omega arith)

pub loop-i-preserved : goal.loop-i-preserved
loop-i-preserved c =
    let a = c.args in let g = words a.self.now.gammas.now in (
      omega (arith, c.pass.auto.s),
      omega (arith, c.pass.auto.t),
      λ t e. one-passed a.m a.self.now.n a.self.now.k g a.eps c.loop-i.i _ t (words c.loop-i.out) _ (omega arith)
          c.coordinate-d.ensures (c.loop-i.invariant.2 t e) c.pass.ensures,
    )

pub returns : goal.returns
returns c =
    let a = c.args in λ t e. c.loop-i.invariant.2 t e
    ∙ ap (λ (i : ℕ). passed_of i a.m a.self.now.n a.self.now.k (words a.self.now.gammas.now) a.eps t) (let z : c.loop-i.i ≡ a.m = omega arith in z)
