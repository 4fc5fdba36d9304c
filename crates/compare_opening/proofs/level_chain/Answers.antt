-- `compare_opening::level_chain` meets its contract.
use native.Mathlib.Omega.{arith}
use Rattle.tree_digest.proofs.Messages.{message-length, prefix-is}
use Rattle.record_opening.proofs.Levels.{domain-room}
use Rattle.compare_opening.proofs.Opening.{domain-there, room, chain_fits, chain_written}
use borrow.Author.Rules.{rules}
use Rattle.compare_opening.proofs.level_chain.Goals as goal

pub slice_bounds-domain-end : goal.slice_bounds-domain-end
slice_bounds-domain-end c =
    let h = room _ c.requires.0 in
    omega arith

pub slice_bounds-hashing-end : goal.slice_bounds-hashing-end
slice_bounds-hashing-end c =
    let h = room _ c.requires.0 in
    message-length _ _ _ _ _ _ c.level_domain-d.ensures (omega arith)

pub overflow_add-at : goal.overflow_add-at
overflow_add-at c =
    let h = room _ c.requires.0 in
    search rules

pub overflow_add-at-2 : goal.overflow_add-at-2
overflow_add-at-2 c =
    let h = room _ c.requires.0 in
    search rules

pub put_chain-requires : goal.put_chain-requires
put_chain-requires c =
    let h = room _ c.requires.0 in
    let put = c.level_domain-d.ensures in (
      domain-room _ _ _ _ _ put (omega arith) h.domain_short,
      omega arith,
      omega arith,
      omega arith,
      omega arith,
      chain_fits _ c.requires.0 _ _ _ _
          (record { domain-is = domain-there _ _ _ _ _ put (omega arith); width_is = c.level_width.ensures; depth_is = c.level_depth-depth.ensures })
          c.requires.1,
      omega arith,
    )

pub returns : goal.returns
returns c =
    let h = room _ c.requires.0 in
    let at = c.level_domain-d.ensures in
    record {
      value = omega (arith, at.end);
      out_after = chain_written _ c.requires.0 _ _ _ _ _ _ _ c.put_chain.ensures (prefix-is _ _ _ _ _ at (omega arith)) c.level_length.ensures
          c.level_width.ensures c.level_depth-depth.ensures;
    }
