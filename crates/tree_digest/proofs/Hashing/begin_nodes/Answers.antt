-- `Hashing::begin_nodes` meets its contract.
use mathlib.Core.Path.{refl}
use native.Mathlib.Omega.{arith}
use Rattle.tree_digest.proofs.Front.{nodes_length, nodes_begun}
use Rattle.tree_digest.proofs.Hashing.begin_nodes.Goals as goal

pub slice_bounds-first_blocks-end-2 : goal.slice_bounds-first_blocks-end-2
slice_bounds-first_blocks-end-2 c =
    nodes_length _ _ _ _ c.node_prefix-n.ensures c.requires.1

pub first_blocks-requires : goal.first_blocks-requires
first_blocks-requires c =
    omega (arith, nodes_length _ _ _ _ c.node_prefix-n.ensures c.requires.1)

pub returns : goal.returns
returns c =
    nodes_begun _ _ _ _ _ _ _ c.node_prefix-n.ensures c.requires.0 c.requires.1 refl c.first_blocks.ensures
