-- `field_gf128::shl4` meets its contract: the four bits that leave the low half enter the high one.
use Prim.Native.Nat.{◌<◌, ◌^◌}
use native.Mathlib.Omega.{arith}
use Rattle.field_gf128.specs.Word.{word}
use Rattle.field_gf128.proofs.Windows.{shl4_halves, high_lt}
use Rattle.field_gf128.proofs.shl4.Goals as goal
use Rattle.field_gf128.proofs.shl4.Goals.{Start}

-- found where `word` is shut: omega stops at numbers as long as 2^128
lo-lt : (c : Start) → c.args.w.lo < 2 ^ 64
lo-lt c = omega arith

pub returns : goal.returns
unfolding word
returns c =
    let w = c.args.w in shl4_halves w.hi w.lo (high_lt 60 w.hi w.lo (lo-lt (goal.at.returns c).Start) c.requires) (lo-lt (goal.at.returns c).Start)
