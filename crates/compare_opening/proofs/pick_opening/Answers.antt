-- `compare_opening::pick_opening` meets its contract.
use Prim.Native.Nat.{◌+◌, ◌*◌, ◌≤◌}
use native.Mathlib.Omega.{arith}
use Rattle.compare_opening.specs.helpers.Messages.{chain_buffer}
use Rattle.compare_opening.proofs.Opening.{room, chains_there, picked_opening}
use borrow.Author.Rules.{rules}
use Rattle.compare_opening.proofs.pick_opening.Goals as goal
use Rattle.compare_opening.proofs.pick_opening.Goals.{After-level_depth-depth}

-- the sizes of the chains, as code adds them up, are small
small : (c : After-level_depth-depth)
    → 97 + c.level_chain-d.result + 16 * c.level_width-width.result ≤ chain_buffer
small c =
    let h = room _ c.requires.first_sized in
    omega (arith, c.level_chain-d.ensures.value, c.level_width-width.ensures)

pub overflow_add-d : goal.overflow_add-d
overflow_add-d c =
    let h = small (goal.at.overflow_add-d c).After-level_depth-depth in
    search rules

pub overflow_mul-width : goal.overflow_mul-width
overflow_mul-width c =
    let h = small (goal.at.overflow_mul-width c).After-level_depth-depth in
    search rules

pub overflow_add-d-2 : goal.overflow_add-d-2
overflow_add-d-2 c =
    let h = small (goal.at.overflow_add-d-2 c).After-level_depth-depth in
    search rules

pub overflow_add-d-3 : goal.overflow_add-d-3
overflow_add-d-3 c =
    let h = small (goal.at.overflow_add-d-3 c).After-level_depth-depth in
    search rules

pub pick_last-requires : goal.pick_last-requires
pick_last-requires c =
    chains_there _ c.requires
    (record { domain-is = c.level_chain-d.ensures.value; width_is = c.level_width-width.ensures; depth_is = c.level_depth-depth.ensures })
    (record { chain_is = c.level_chain-d.ensures.out_after; buffer_long = search rules })
    (record { chain_is = c.level_chain.ensures.out_after; buffer_long = search rules })

pub returns : goal.returns
returns c =
    picked_opening _ c.requires
    (record { domain-is = c.level_chain-d.ensures.value; width_is = c.level_width-width.ensures; depth_is = c.level_depth-depth.ensures })
    (record { chain_is = c.level_chain-d.ensures.out_after; buffer_long = search rules })
    (record { chain_is = c.level_chain.ensures.out_after; buffer_long = search rules }) c.pick_last.ensures
