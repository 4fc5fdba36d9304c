-- `code_codeword::Code::shift_over` meets its contract: the first i coordinates are stored.
use Prim.Native.Nat.{◌*◌}
use mathlib.Core.Path.{◌≡◌}
use lib.ListN.{length}
use Rattle.theory_laws.specs.Table.{at}
use Rattle.theory_field.specs.Words.{words}
use Rattle.theory_field.proofs.Words.{Filled}
use Rattle.theory_multilinear.specs.Codeword.{shift_at}
use Rattle.code_codeword.proofs.Code.shift_over.Given as goal

abbrev pub invariant-loop-i : goal.invariant-loop-i
invariant-loop-i l =
    (length l.out ≡ 2 * length l.coordinates) × Filled (λ v. shift_at l.self.n l.self.k (words l.self.gammas.now) l.eps (at l.coordinates v)) l.i l.out
