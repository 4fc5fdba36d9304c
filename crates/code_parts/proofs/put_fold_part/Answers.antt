-- `code_parts::put_fold_part` meets its contract: there is room for the store that aligns the table.
use Prim.Native.Nat.{suc}
use native.Mathlib.Omega.{arith}
use lib.Pow.{pow_pos}
use Rattle.code_parts.proofs.put_fold_part.Goals as goal

pub align-requires : goal.align-requires
align-requires c =
    let paired = c.requires.0.paired in (c.requires.1, omega (arith, paired.size, pow_pos (suc paired.m)))
