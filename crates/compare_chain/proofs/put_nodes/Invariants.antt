-- `put_nodes` meets its contract. The loop's invariant: storing the messages that are left gives the final buffer, and there is room for them.
use Prim.Native.Nat.{◌≤◌, ◌-◌, ◌+◌, ◌*◌}
use mathlib.Core.Path.{◌≡◌}
use lib.ListN.{length, drop}
use Rattle.theory_laws.specs.Lists.{runs, flat, stored}
use Rattle.theory_blake3.specs.Modes.{under}
use Rattle.tree_place.specs.Place.{number}
use Rattle.compare_chain.specs.helpers.Nodes.{nodes_of}
use Rattle.compare_chain.proofs.Nodes.{nodes_left}
use Rattle.compare_chain.proofs.put_nodes.Given as goal

abbrev pub invariant-loop-l : goal.invariant-loop-l
invariant-loop-l l =
    record {
      room : l.at + (136 + length l.hashing.domain.now) * (l.depth - l.l) ≤ length l.out;
      left : nodes_left (under l.hashing.mode) l.out l.at l.hashing.domain.now l.l (number l.g) l.d l.s l.path l.depth
          ≡ stored l.initial.out l.from (flat (nodes_of (under l.hashing.mode) l.hashing.domain.now 0 (number l.initial.g) l.initial.d (runs 32 l.depth (drop l.path l.s))));
    }
