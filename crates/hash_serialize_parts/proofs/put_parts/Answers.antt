-- `put_parts` meets its contract.
use mathlib.Core.Path.{refl, ◌∙◌}
use native.Mathlib.Omega.{arith}
use Rattle.hash_serialize_parts.proofs.Laws.{left_begin, left-room, part_length, left-turn, left_end}
use Rattle.hash_serialize_parts.proofs.put_parts.Goals as goal

pub loop-l-init : goal.loop-l-init
loop-l-init c =
    (refl, left_begin c.requires c.put_number-to.ensures)

pub overflow_add-end : goal.overflow_add-end
overflow_add-end c =
    omega (arith, left-room c.loop-l-test.true c.loop-l.invariant.1)

pub slice_bounds-put_part-end : goal.slice_bounds-put_part-end
slice_bounds-put_part-end c =
    omega (arith, left-room c.loop-l-test.true c.loop-l.invariant.1)

pub put_part-to-requires : goal.put_part-to-requires
put_part-to-requires c =
    let room = left-room c.loop-l-test.true c.loop-l.invariant.1 in
    omega (arith, part_length room)

pub loop-l-preserved : goal.loop-l-preserved
loop-l-preserved c =
    (c.put_part-to.auto.out ∙ c.loop-l.invariant.0, left-turn c.loop-l-test.true c.loop-l.invariant.1 refl c.put_part-to.ensures)

pub returns : goal.returns
returns c = left_end c.loop-l-test.false c.loop-l.invariant.1
