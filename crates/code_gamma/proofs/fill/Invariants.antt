-- `code_gamma::fill` meets its contract: the first v gammas are stored.
use Prim.Native.Nat.{◌*◌, ◌/◌, ◌%◌}
use mathlib.Core.Path.{◌≡◌}
use lib.ListN.{length}
use Rattle.theory_blake3.specs.Digest.{hash}
use Rattle.theory_field.proofs.Words.{Filled}
use Rattle.theory_code.specs.Gammas.{gamma_of}
use Rattle.code_gamma.proofs.fill.Given as goal

abbrev pub invariant-loop-v : goal.invariant-loop-v
invariant-loop-v l = (length l.out ≡ 2 * (l.k * l.n)) × Filled (λ w. gamma_of hash l.domain l.n l.k (w / l.n) (w % l.n)) l.v l.out
