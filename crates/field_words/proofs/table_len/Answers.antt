-- `table_len` meets its contract: nothing is shifted out.
use Prim.Native.Nat.{◌^◌, ◌≤◌}
use native.Mathlib.Nat.{mod-eq_of_lt}
use native.Mathlib.Omega.{arith}
use lib.Pow.{pow_mono}
use borrow.Author.Rules.{rules}
use Rattle.field_words.proofs.table_len.Goals as goal

pub returns : goal.returns
returns c = let p : 2 ^ c.args.n ≤ 2 ^ 20 = pow_mono {j = 20} c.requires in mod-eq_of_lt (omega arith)
