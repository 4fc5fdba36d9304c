-- `tree_four_ways::climb_four` meets its contract. The loop's invariant: what is left of each way leads to the same root.
use Prim.Native.Nat.{ℕ, ◌<◌, ◌/◌, ◌^◌}
use mathlib.Core.Path.{◌≡◌}
use lib.ListN.{length}
use Rattle.theory_laws.specs.Table.{at}
use Rattle.theory_blake3.specs.Modes.{under}
use Rattle.tree_four_messages.specs.helpers.Strides.{Each}
use Rattle.tree_walk.proofs.Climb.{climb_from}
use Rattle.tree_digest.specs.helpers.Begun.{node_front}
use Rattle.tree_four_ways.specs.helpers.Ways.{domain_of, digest_of, way_up}
use Rattle.tree_four_ways.specs.helpers.Lists.{groups, froms, depths}
use Rattle.tree_four_ways.proofs.climb_four.Given as goal

abbrev pub invariant-loop-level : goal.invariant-loop-level
invariant-loop-level l =
    (length l.messages ≡ 4096) × Each l.front l.messages (λ k. node_front (domain_of l.domains l.size k))
    × ((k : ℕ) → k < 4 → climb_from (under l.mode) (domain_of l.domains l.size k) l.s (at (froms l.lanes) k) (at (depths l.lanes) k) l.level
    (at (groups l.lanes) k / 2 ^ l.level) (digest_of l.d k)
    ≡ way_up (under l.mode) l.domains l.size (groups l.lanes) l.initial.d l.s (froms l.lanes) (depths l.lanes) k)
