-- `compare_pick::pick_last` meets its contract. The loop's invariant: above message i nothing was found, so that the buffers are as they were.
use mathlib.Core.Path.{◌≡◌}
use Rattle.theory_merkle.specs.Binding.{last_differing}
use Rattle.compare_pick.specs.helpers.Chains.{chain_of}
use Rattle.compare_pick.proofs.Chains.{found_below}
use Rattle.compare_pick.proofs.pick_last.Given as goal

abbrev pub invariant-loop-i : goal.invariant-loop-i
invariant-loop-i l =
    record {
      first_same : l.first ≡ l.initial.first;
      second_same : l.second ≡ l.initial.second;
      found : found_below l.leaf l.node l.i l.a l.b ≡ last_differing (chain_of l.leaf l.node l.depth l.a) (chain_of l.leaf l.node l.depth l.b);
    }
