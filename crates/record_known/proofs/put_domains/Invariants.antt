-- `record_known::put_domains` meets its contract: the domains of the first k levels stand in their strides.
use Prim.Native.Nat.{◌≤◌}
use mathlib.Core.Path.{◌≡◌}
use lib.ListN.{length}
use Rattle.record_known.proofs.Domains.{FirstStand}
use Rattle.record_known.proofs.put_domains.Given as goal

abbrev pub invariant-loop-k : goal.invariant-loop-k
invariant-loop-k l =
    (length l.out ≡ length l.initial.out) × (length l.domain ≡ 209) × (l.size ≤ 209) × FirstStand l.base l.e l.last l.size l.out l.k
