-- `code_codeword::Code::shift_table` meets its contract: the passes at the first i coordinates are done.
use Prim.Native.Nat.{ℕ}
use mathlib.Core.Path.{◌≡◌}
use mathlib.Core.List.{List}
use lib.ListN.{length}
use Rattle.theory_field.specs.Words.{words}
use Rattle.code_codeword.specs.helpers.Shifted.{passed_of}
use Rattle.code_codeword.proofs.Code.shift_table.Given as goal

abbrev pub invariant-loop-i : goal.invariant-loop-i
invariant-loop-i l =
    (length l.out ≡ length l.initial.out) × (length l.t ≡ length l.initial.t)
    × ((t : List ℕ) → words l.initial.out ≡ passed_of l.from l.m l.self.n l.self.k (words l.self.gammas.now) l.eps t → words l.out ≡ passed_of l.i l.m l.self.n l.self.k (words l.self.gammas.now) l.eps t)
