-- `field_gf128::clmul_top` meets its contract: a product with a bit is a choice, and so it fits.
use Prim.Native.Nat.{ℕ, ◌*◌, ◌/◌, ◌%◌, ◌^◌, ◌<◌}
use native.Mathlib.Omega.{arith}
use lib.Bits.{bit_and, and_mask}
use Rattle.theory_laws.specs.Xor.{◌⊕◌}
use Rattle.field_gf128.specs.Word.{word}
use Rattle.field_gf128.proofs.Windows.{bit-times-lt, top-halves}
use Rattle.field_gf128.proofs.clmul_top.Goals as goal

bit-lt : (x : ℕ) → bit_and x 1 < 2
bit-lt x = omega (arith, and_mask x 1)

pub overflow_mul-result : goal.overflow_mul-result
overflow_mul-result c = record { fits = bit-times-lt (bit_and (c.args.a / 2 ^ 61) 1) (c.args.b * 2 ^ 61 % 2 ^ 64) 64 (bit-lt (c.args.a / 2 ^ 61)) (omega arith) }

pub overflow_mul-result-2 : goal.overflow_mul-result-2
overflow_mul-result-2 c = record { fits = bit-times-lt (bit_and (c.args.a / 2 ^ 62) 1) (c.args.b * 2 ^ 62 % 2 ^ 64) 64 (bit-lt (c.args.a / 2 ^ 62)) (omega arith) }

pub overflow_mul-result-3 : goal.overflow_mul-result-3
overflow_mul-result-3 c = record { fits = bit-times-lt (c.args.a / 2 ^ 63) (c.args.b * 2 ^ 63 % 2 ^ 64) 64 (omega arith) (omega arith) }

pub overflow_mul-result-4 : goal.overflow_mul-result-4
overflow_mul-result-4 c = record { fits = bit-times-lt (bit_and (c.args.a / 2 ^ 61) 1) (c.args.b / 2 ^ 3) 64 (bit-lt (c.args.a / 2 ^ 61)) (omega arith) }

pub overflow_mul-result-5 : goal.overflow_mul-result-5
overflow_mul-result-5 c = record { fits = bit-times-lt (bit_and (c.args.a / 2 ^ 62) 1) (c.args.b / 2 ^ 2) 64 (bit-lt (c.args.a / 2 ^ 62)) (omega arith) }

pub overflow_mul-result-6 : goal.overflow_mul-result-6
overflow_mul-result-6 c = record { fits = bit-times-lt (c.args.a / 2 ^ 63) (c.args.b / 2 ^ 1) 64 (omega arith) (omega arith) }

pub returns : goal.returns
unfolding word ◌⊕◌
returns c =
    let a = c.args.a in top-halves (bit_and (a / 2 ^ 61) 1) (bit_and (a / 2 ^ 62) 1) (a / 2 ^ 63) a c.args.b
    (and_mask (a / 2 ^ 61) 1) (and_mask (a / 2 ^ 62) 1) (omega arith) (omega arith) (omega arith)
