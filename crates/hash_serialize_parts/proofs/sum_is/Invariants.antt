-- `sum_is` meets its contract: what is left to sum is to be what is left of n.
use mathlib.Core.Path.{◌≡◌}
use lib.Dec.{eqb}
use lib.ListN.{drop}
use Rattle.hash_serialize_parts.specs.Parts as S
use Rattle.hash_serialize_parts.proofs.sum_is.Given as goal

abbrev pub invariant-loop-l : goal.invariant-loop-l
invariant-loop-l l = eqb (S.total (drop l.l-index l.lengths)) l.left ≡ eqb (S.total l.lengths) l.n
