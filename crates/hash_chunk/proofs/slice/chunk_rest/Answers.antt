-- `chunk::slice::chunk_rest` meets its contract.
use mathlib.Core.Path.{refl}
use native.Mathlib.Omega.{arith}
use Rattle.hash_node.specs.helpers.Node.{out_of}
use Rattle.hash_chunk.proofs.Chunk.{next_law, chunk-turn, chunk_end}
use Rattle.hash_chunk.proofs.slice.chunk_rest.Goals as goal

pub loop-from-init : goal.loop-from-init
loop-from-init c = (omega arith, omega arith, λ x. refl)

pub loop-from-preserved : goal.loop-from-preserved
loop-from-preserved c =
    let a = c.args in let next =
    next_law a.flags a.t c.loop-from.h _ _ _ _ _ _ c.words_at-m.ensures c.start_flag-f.ensures c.compress.ensures
    c.first_eight-h.ensures in (
      omega arith,
      omega arith,
      λ x.
          chunk-turn a.flags c.loop-from.i a.t c.loop-from.from c.loop-from.h _ a.input.now _ x (omega arith) (omega arith) next (c.loop-from.invariant.2 x),
    )

pub returns : goal.returns
unfolding out_of
returns c =
    let a = c.args in λ x.
    chunk_end a.flags c.loop-from.i a.t c.loop-from.from _ _ x c.loop-from.h _ a.input.now _ refl (omega arith)
    c.last_words-m.ensures c.start_flag-f-2.ensures (c.loop-from.invariant.2 x)
