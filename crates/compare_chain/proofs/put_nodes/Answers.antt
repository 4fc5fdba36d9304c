-- `put_nodes` meets its contract. The loop's invariant: storing the messages that are left gives the final buffer, and there is room for them.
use Prim.Native.Nat.{◌+◌}
use native.Mathlib.Omega.{arith}
use lib.ListN.{length}
use Rattle.compare_chain.proofs.Nodes.{nodes_begin, nodes_step, nodes_end, room_begin, one_more}
use borrow.Author.Rules.{rules}
use Rattle.compare_chain.proofs.put_nodes.Goals as goal

pub loop-l-init : goal.loop-l-init
loop-l-init c = record { room = room_begin _ _ _ _ c.requires.2; left = nodes_begin _ _ _ _ _ _ _ _ _ }

pub put_node-p-requires : goal.put_node-p-requires
put_node-p-requires c =
    let h = one_more (136 + length c.args.hashing.domain.now) _ _ c.loop-l-test.true in
    (search rules, omega arith)

pub overflow_add-at-in-loop-l : goal.overflow_add-at-in-loop-l
overflow_add-at-in-loop-l c =
    let h = one_more (136 + length c.args.hashing.domain.now) _ _ c.loop-l-test.true in
    search rules

pub loop-l-preserved : goal.loop-l-preserved
loop-l-preserved c =
    let t = c.loop-l-test.true in
    let h = one_more (136 + length c.args.hashing.domain.now) _ _ t in
    record {
      room = omega arith;
      left = nodes_step _ _ _ _ _ _ _ _ _ _ _ c.loop-l.invariant.left _ _ _ _ t c.digest_at-e.ensures c.put_node-p.ensures c.parent-g.ensures;
    }

pub returns : goal.returns
returns c = nodes_end _ _ _ _ _ _ _ _ _ _ _ c.loop-l.invariant.left c.loop-l-test.false
