-- `field_pack::pack_groups` meets its contract: the words so far are those of the groups so far.
use mathlib.Core.Path.{◌≡◌}
use Prim.Native.Nat.{◌+◌, ◌*◌}
use lib.ListN.{length}
use Rattle.theory_laws.specs.Table.{at}
use Rattle.theory_multilinear.specs.Partials.{word_of}
use Rattle.theory_field.proofs.Words.{Filled}
use Rattle.field_pack.proofs.pack_groups.Given as goal

abbrev pub invariant-loop-v : goal.invariant-loop-v
invariant-loop-v l =
    (length l.out ≡ length l.initial.out) × Filled (λ k. word_of (λ b. at l.bytes (128 * k + b))) l.v l.out
