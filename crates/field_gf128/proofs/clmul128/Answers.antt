-- `field_gf128::clmul128` meets its contract: three products of halves for four.
use mathlib.Core.Path.{ap₂, ◌∙◌}
use Prim.Native.Nat.{◌<◌, ◌^◌}
use native.Mathlib.Omega.{arith}
use Rattle.theory_laws.specs.Xor.{◌⊕◌}
use Rattle.field_gf128.specs.declared.Word.{Word}
use Rattle.field_gf128.specs.Word.{word, wide}
use Rattle.field_gf128.proofs.Karatsuba.{three_products}
use Rattle.field_gf128.proofs.clmul128.Goals as goal
use Rattle.field_gf128.proofs.clmul128.Goals.{After-add-mid, After-clmul64-hi, After-clmul64-lo, Start}

abbrev Bounded : Word → Type 0
Bounded w = (w.lo < 2 ^ 64) × (w.hi < 2 ^ 64)

-- bounds, found where `word` is shut: omega stops at numbers as long as 2^128
operands : (c : Start) → Bounded c.args.a × Bounded c.args.b
operands c = (omega arith, omega arith)

low-lt : (c : After-clmul64-lo) → Bounded c.clmul64-lo.result
low-lt c = omega arith

high_lt : (c : After-clmul64-hi) → Bounded c.clmul64-hi.result
high_lt c = omega arith

middle-lt : (c : After-add-mid) → Bounded c.add-mid.result
middle-lt c = omega arith

pub returns : goal.returns
unfolding word wide ◌⊕◌
returns c =
    let s = c.args in let o = operands (goal.at.returns c).Start in
    three_products s.a.lo s.a.hi s.b.lo s.b.hi c.clmul64-lo.result.lo c.clmul64-lo.result.hi c.clmul64-hi.result.lo c.clmul64-hi.result.hi c.add-mid.result.lo c.add-mid.result.hi
    o.0.0 o.1.0 (low-lt (goal.at.returns c).After-clmul64-lo).0 (low-lt (goal.at.returns c).After-clmul64-lo).1 (high_lt (goal.at.returns c).After-clmul64-hi).0 (middle-lt (goal.at.returns c).After-add-mid).0 (middle-lt (goal.at.returns c).After-add-mid).1
    c.clmul64-lo.ensures c.clmul64-hi.ensures
    (c.add-mid.ensures ∙ ap₂ ◌⊕◌ c.clmul64.ensures (c.add.ensures ∙ ap₂ ◌⊕◌ c.clmul64-lo.ensures c.clmul64-hi.ensures))
