-- `ring_indicator::tensor_eval` meets its contract: what is left of the steps gives the final words, and their fold is the indicator.
use mathlib.Core.Path.{◌≡◌}
use lib.ListN.{length, drop}
use Rattle.theory_laws.specs.Table.{at}
use Rattle.theory_field.specs.Words.{words}
use Rattle.theory_multilinear.proofs.Tensor.{tensor_run, unit}
use Rattle.ring_indicator.proofs.tensor_eval.Given as goal

abbrev pub invariant-loop-i : goal.invariant-loop-i
invariant-loop-i l =
    (length l.t ≡ 256) × (tensor_run (drop l.i (words l.z)) (drop l.i (words l.point)) (at (words l.t)) ≡ tensor_run (words l.z) (words l.point) unit)
