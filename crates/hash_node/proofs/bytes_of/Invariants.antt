-- `bytes_of` meets its contract: storing the bytes of the words that are left gives all of them.
use mathlib.Core.Path.{◌≡◌}
use Prim.Native.Nat.{◌*◌}
use lib.ListN.{drop}
use Rattle.theory_laws.specs.Lists.{stored}
use Rattle.theory_blake3.specs.Digest.{bytes_of_words32}
use Rattle.hash_node.proofs.bytes_of.Given as goal

abbrev pub invariant-loop-k : goal.invariant-loop-k
invariant-loop-k l = stored l.b (4 * l.k) (bytes_of_words32 (drop l.k l.w)) ≡ bytes_of_words32 l.w
