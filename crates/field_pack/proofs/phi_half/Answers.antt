-- `field_pack::phi_half` meets its contract: what was added, and phi of the bits that are left, make the whole.
use mathlib.Core.Path.{refl}
use Prim.Native.Nat.{◌+◌, ◌-◌}
use native.Mathlib.Omega.{arith}
use lib.Bits.{and_le_l, and_le_r}
use lib.Count.{count_trailing_zeros}
use Rattle.theory_laws.proofs.Xor.{zero-⊕}
use Rattle.field_gf128.specs.Word.{word}
use Rattle.field_pack.specs.Phi.{coefficients}
use Rattle.field_pack.proofs.Numbers.{numbers-at}
use Rattle.field_pack.proofs.SetBits.{Lowest, lowest, phi-turn, phi_end}
use Rattle.field_pack.proofs.phi_half.Goals as goal
use Rattle.field_pack.proofs.phi_half.Goals.{In-loop-left}

pub loop-left-init : goal.loop-left-init
unfolding word
loop-left-init c = (omega arith, zero-⊕ _)

-- the lowest set bit of what is left
bit : (c : In-loop-left) → Lowest 64 c.loop-left.left
bit c = lowest 64 c.loop-left.left (omega (arith, c.loop-left-test.true)) (omega arith)

pub overflow_cast-x : goal.overflow_cast-x
overflow_cast-x c = omega (arith, (bit c).place)

pub overflow_add-x : goal.overflow_add-x
overflow_add-x c = omega (arith, (bit c).place)

pub loop-left-smaller : goal.loop-left-smaller
loop-left-smaller c = let n = c.loop-left.left in omega (arith, and_le_r n (n - 1))

pub loop-left-preserved : goal.loop-left-preserved
loop-left-preserved c =
    let cs = c.args.c.now in let b = c.args.from + count_trailing_zeros 64 c.loop-left.left in (
      omega (arith, and_le_l c.loop-left.left (c.loop-left.left - 1)),
      phi-turn (coefficients cs) c.args.from c.loop-left.left b (word c.loop-left.acc) _ (word c.add-acc.result) _ (omega arith) (bit (goal.at.loop-left-preserved c).In-loop-left) refl
          (numbers-at cs b _ (omega (arith, (bit (goal.at.loop-left-preserved c).In-loop-left).place))) c.add-acc.ensures c.loop-left.invariant.1,
    )

pub returns : goal.returns
returns c =
    phi_end (coefficients c.args.c.now) c.args.from c.loop-left.left (word c.loop-left.acc) _ (omega (arith, c.loop-left-test.false)) c.loop-left.invariant.1
