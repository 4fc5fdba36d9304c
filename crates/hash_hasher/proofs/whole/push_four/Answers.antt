-- `push_four`: the values go onto the stack in order, so that it stands for one chunk more after each.
use mathlib.Core.Path.{◌≡◌, ap, ◌∙◌}
use mathlib.Core.List.{[]}
use Prim.Native.Nat.{◌+◌, ◌^◌, ◌<◌}
use native.Mathlib.Nat.{add-zero}
use native.Mathlib.Omega.{arith}
use lib.Count.{ones, ones-le, trailing_le}
use Rattle.hash_stack.proofs.Tower.{tower_merges, tower_room, tower_depth}
use Rattle.hash_hasher.proofs.OneCall.{lane-turn}
use Rattle.hash_hasher.proofs.whole.push_four.Goals as goal

pub loop-l-init : goal.loop-l-init
loop-l-init c = (simp add-zero c.requires.0, λ input from f w. simp add-zero w)

pub overflow_cast-count : goal.overflow_cast-count
overflow_cast-count c = omega (arith, trailing_le 64 (c.args.t + c.loop-l.l + 1))

pub push-requires : goal.push-requires
push-requires c =
    let t = c.args.t + c.loop-l.l in
    let n : t + 1 < 2 ^ 14 = omega arith in (
      tower_merges [] 0 t c.loop-l.stack.depth c.loop-l.invariant.0,
      omega (arith, c.loop-l.invariant.0, ones-le 14 t (omega arith)),
      tower_room [] 0 t c.loop-l.stack.depth c.loop-l.invariant.0 n,
    )

pub loop-l-preserved : goal.loop-l-preserved
loop-l-preserved c =
    let a = c.args in let t = a.t + c.loop-l.l in
    let j : t + 1 ≡ a.t + (c.loop-l.l + 1) = omega arith in (
      c.push.ensures.depth ∙ tower_depth [] 0 t c.loop-l.stack.depth c.loop-l.invariant.0 (omega arith) ∙ ap ones j,
      λ input from f w. lane-turn a.mode.key a.mode.flags input c.loop-l.stack from a.t c.loop-l.l (omega arith) f
          c.lane.ensures (c.loop-l.invariant.1 input from f w) c.push.ensures.depth c.push.ensures.values,
    )

pub returns : goal.returns
returns c =
    λ input from f w.
    let e : c.loop-l.l ≡ 4 = omega arith in
    rw e at (c.loop-l.invariant.1 input from f w)
