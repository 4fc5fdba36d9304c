-- `hash_four_lanes::rounds`: in each lane, what the orders that are left would do to the state is what all of them do to the first.
use mathlib.Core.Path.{refl, ◌∙◌}
use mathlib.Core.List.{[]}
use native.Mathlib.Omega.{arith}
use Rattle.theory_blake3.specs.Orders as O
use Rattle.theory_blake3.proofs.Compression.{rounds-step}
use Rattle.hash_compress.proofs.Laws.{small-orders, rounds-all}
use Rattle.hash_four_lanes.proofs.rounds.Goals as goal

pub loop-r-init : goal.loop-r-init
unfolding O.orders O.powers
loop-r-init c = (
  c.requires,
  c.orders-order.ensures,
  rw c.orders-order.ensures,
  λ k b. refl,
)

pub round-requires : goal.round-requires
round-requires c =
    (rw c.loop-r.invariant.1 (small-orders c.loop-r.r (omega arith)), c.loop-r.invariant.0)

pub loop-r-preserved : goal.loop-r-preserved
loop-r-preserved c = (
  c.round.ensures.s_len,
  c.loop-r.invariant.1,
  c.loop-r.invariant.2,
  λ k b. rounds-step _ _ _ _ c.loop-r.r [] (omega arith) (c.round.ensures.each k b)
      ∙ c.loop-r.invariant.3 k b,
)

pub returns : goal.returns
returns c =
    λ k b. rounds-all _ _ _ _ c.loop-r.r c.loop-r.invariant.1 (omega arith) (c.loop-r.invariant.3 k b)
