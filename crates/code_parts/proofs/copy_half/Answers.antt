-- `code_parts::copy_half` meets its contract.
use Prim.Native.Nat.{◌*◌, ◌≤◌}
use mathlib.Core.Path.{◌∙◌}
use native.Mathlib.Nat.{mul-le-mul_right}
use native.Mathlib.Omega.{arith}
use lib.ListN.{length}
use Rattle.theory_laws.proofs.Lists.{lent-part}
use Rattle.code_parts.proofs.copy_half.Goals as goal

pub overflow_mul-from : goal.overflow_mul-from
overflow_mul-from c =
    let a = c.args in omega (arith, mul-le-mul_right (length a.out.now) (let z : a.half ≤ 1 = omega arith in z))

pub overflow_add-to : goal.overflow_add-to
overflow_add-to c =
    let a = c.args in omega (arith, mul-le-mul_right (length a.out.now) (let z : a.half ≤ 1 = omega arith in z))

pub offset_bounds-table-from : goal.offset_bounds-table-from
offset_bounds-table-from c =
    let a = c.args in omega (arith, mul-le-mul_right (length a.out.now) (let z : a.half ≤ 1 = omega arith in z))

pub slice_bounds-copy-end : goal.slice_bounds-copy-end
slice_bounds-copy-end c =
    let a = c.args in omega (arith, mul-le-mul_right (length a.out.now) (let z : a.half ≤ 1 = omega arith in z))

pub returns : goal.returns
returns c =
    let a = c.args in c.copy.ensures ∙ lent-part (length a.out.now) (a.half * length a.out.now) a.table.now
