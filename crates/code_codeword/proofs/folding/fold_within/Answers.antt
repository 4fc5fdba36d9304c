-- `code_codeword::folding::fold_within` meets its contract.
use Prim.Native.Nat.{suc}
use native.Mathlib.Omega.{arith}
use lib.Pow.{pow_pos}
use Rattle.code_codeword.proofs.folding.fold_within.Goals as goal

pub align-requires : goal.align-requires
align-requires c =
    let paired = c.requires.0 in (c.requires.2, omega (arith, paired.size, pow_pos (suc paired.m)))
