-- `number_at` meets its contract: eight bytes are read, zeros after those that are asked for.
use mathlib.Core.Path.{ap}
use mathlib.Core.List.{List, ◌++◌}
use Prim.Native.Nat.{ℕ}
use lib.ListN.{drop, replicate}
use Rattle.bytes_numbers.proofs.Numbers.{number_read}
use Rattle.bytes_numbers.proofs.number_at.Goals as goal

pub returns : goal.returns
returns c =
    let a = c.args in
    number_read a.size a.from a.s.now _ _ c.requires.0 c.requires.1 (λ k. (c.type_inv.s k).fits) (ap (λ (l : List ℕ). l ++ drop a.size (replicate {A = ℕ} 8 0)) c.copy_from_slice.ensures.after)
    c.from_le_bytes.type_inv c.from_le_bytes.ensures
