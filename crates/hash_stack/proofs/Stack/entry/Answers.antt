-- `Stack::entry` meets its contract.
use native.Mathlib.Omega.{arith}
use Rattle.hash_stack.proofs.Array.{entry_read}
use Rattle.hash_stack.proofs.Stack.entry.Goals as goal

pub returns : goal.returns
returns c = entry_read c.args.self.now.values _ c.args.i (omega arith) (rw c.unwrap.ensures at c.try_into.ensures.1).same
