-- `code_codeword::Code::encode_blocks` meets its contract: the first eps blocks are made.
use Prim.Native.Nat.{◌+◌, ◌*◌, ◌≤◌}
use mathlib.Core.Path.{refl, ◌∙◌}
use native.Mathlib.Omega.{arith}
use lib.ListN.{length, length-take, length-drop}
use lib.Pow.{pow_pos}
use Rattle.theory_field.specs.Words.{words}
use Rattle.code_codeword.proofs.Blocks.{block_within, no_blocks, block-turn, blocks-made}
use Rattle.code_codeword.proofs.Code.encode_blocks.Goals as goal
use Rattle.code_codeword.proofs.Code.encode_blocks.Goals.{In-loop-eps}

-- the block ends within the codeword
within : (c : In-loop-eps)
    → c.loop-eps.eps * length c.args.table.now + length c.args.table.now ≤ length c.loop-eps.out
within c =
    let a = c.args in let p = c.requires in rw c.loop-eps.invariant.0 (block_within a.self.now.n a.self.now.k c.loop-eps.eps _ _ p.0 p.1 (omega arith))

pub align-requires : goal.align-requires
align-requires c =
    (refl, omega (arith, c.requires.0, pow_pos c.args.self.now.n))

pub loop-eps-init : goal.loop-eps-init
loop-eps-init c =
    let a = c.args in (
      refl,
      c.align.auto.t,
      c.power-count.ensures,
      no_blocks a.self.now.n a.self.now.k (length a.table.now) (words a.self.now.gammas.now) (words a.table.now)
          a.out.now,
    )

pub overflow_mul-from : goal.overflow_mul-from
overflow_mul-from c = omega (arith, within c)

pub overflow_add-to : goal.overflow_add-to
overflow_add-to c = omega (arith, within c)

pub offset_bounds-out-from : goal.offset_bounds-out-from
offset_bounds-out-from c = omega (arith, within c)

pub slice_bounds-encode_block-count : goal.slice_bounds-encode_block-count
slice_bounds-encode_block-count c = omega (arith, within c)

pub slice_bounds-encode_block-start : goal.slice_bounds-encode_block-start
slice_bounds-encode_block-start c = omega (arith, within c)

pub slice_bounds-encode_block-end : goal.slice_bounds-encode_block-end
slice_bounds-encode_block-end c = omega (arith, within c)

pub encode_block-requires : goal.encode_block-requires
encode_block-requires c =
    (c.requires.0, simp (length-take, length-drop) (omega (arith, within (goal.at.encode_block-requires c).In-loop-eps)), c.loop-eps.invariant.1)

pub loop-eps-preserved : goal.loop-eps-preserved
loop-eps-preserved c =
    let a = c.args in let p = c.requires in let h = within (goal.at.loop-eps-preserved c).In-loop-eps in (
      c.out-1.given.1 ∙ c.loop-eps.invariant.0,
      c.encode_block.auto.multiples ∙ c.loop-eps.invariant.1,
      c.loop-eps.invariant.2,
      block-turn a.self.now.n a.self.now.k c.loop-eps.eps (length a.table.now) (words a.self.now.gammas.now) (words a.table.now) c.loop-eps.out
          c.encode_block.new.out _
          p.0 h (c.encode_block.auto.out ∙ simp (length-take, length-drop) (omega arith)) c.loop-eps.invariant.3 c.encode_block.ensures,
    )

pub returns : goal.returns
returns c =
    let a = c.args in let p = c.requires in blocks-made a.self.now.n a.self.now.k c.loop-eps.eps (length a.table.now) (words a.self.now.gammas.now) (words a.table.now) c.loop-eps.out
    p.0 (c.loop-eps.invariant.0 ∙ p.1) (omega arith) c.loop-eps.invariant.3
