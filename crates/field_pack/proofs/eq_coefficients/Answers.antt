-- `field_pack::eq_coefficients` meets its contract: the array begins with the table of the coordinates so far.
use mathlib.Core.Path.{◌≡◌, refl, sym, ap}
use mathlib.Core.List.{[], ◌∷◌}
use Prim.Native.Nat.{ℕ, ◌^◌, ◌≤◌}
use native.Mathlib.Numerals.{add-one}
use native.Mathlib.Omega.{arith}
use lib.Pow.{pow_mono}
use Rattle.theory_laws.specs.Table.{tab}
use Rattle.field_gf128.specs.Word.{word}
use Rattle.theory_multilinear.specs.Equality.{eq_table}
use Rattle.theory_multilinear.proofs.Equality.{eq-nil}
use Rattle.field_equality.proofs.Growing.{room, begins-more, begins-all}
use Rattle.field_pack.specs.Phi.{numbers}
use Rattle.field_pack.proofs.Numbers.{numbers-at, length-numbers}
use borrow.Author.Rules.{rules}
use Rattle.field_pack.proofs.eq_coefficients.Goals as goal

pub loop-z-init : goal.loop-z-init
unfolding numbers word eq_table tab
loop-z-init c = (refl, search rules, ap (λ (x : ℕ). x ∷ []) (sym (eq-nil 0)))

pub double_entries-requires : goal.double_entries-requires
double_entries-requires c = let h : 2 ^ c.loop-z.z-index ≤ 2 ^ 6 = pow_mono {j = 6} (omega arith) in omega arith

pub overflow_add-n : goal.overflow_add-n
overflow_add-n c = let h : 2 ^ c.loop-z.z-index ≤ 2 ^ 6 = pow_mono {j = 6} (omega arith) in record { fits = omega arith }

pub loop-z-preserved : goal.loop-z-preserved
loop-z-preserved c =
    let a = c.args in (
      rw add-one (omega arith),
      search rules,
      begins-more (numbers a.r) (numbers c.loop-z.c) _ c.loop-z.z-index c.loop-z.n _
          (omega (arith, length-numbers a.r))
          c.loop-z.invariant.0
          (omega (arith, length-numbers c.loop-z.c, room c.loop-z.z-index 7 c.loop-z.n (omega arith) c.loop-z.invariant.0))
          (numbers-at a.r c.loop-z.z-index _ (omega arith))
          c.double_entries.ensures
          c.loop-z.invariant.2,
    )

pub returns : goal.returns
returns c =
    let r = c.args.r in let z : c.loop-z.z-index ≡ 7 = omega arith in
    begins-all (numbers r) (numbers c.loop-z.c) 7 (omega (arith, length-numbers r)) (omega (arith, length-numbers c.loop-z.c)) (rw z at c.loop-z.invariant.2)
