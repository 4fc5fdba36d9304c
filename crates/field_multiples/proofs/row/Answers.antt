-- `tables::row` meets its contract. The loop's invariant: the products with the numbers of i bits stand there, and d is w times x^i.
use mathlib.Core.Path.{◌≡◌, refl, sym, ap, ◌∙◌, subst}
use Prim.Native.Nat.{ℕ, suc, ◌+◌, ◌^◌, ◌≤◌, ◌<◌}
use native.Mathlib.Nat.{pow-suc}
use native.Mathlib.Numerals.{add-one}
use native.Mathlib.Omega.{arith}
use lib.Pow.{pow_pos, pow_mono}
use Rattle.theory_field.specs.Field.{xtime, ◌⊗◌}
use Rattle.theory_field.specs.Words.{words}
use Rattle.theory_field.proofs.Words.{length-words}
use Rattle.theory_field.proofs.Product.{⊗-one}
use Rattle.field_gf128.specs.Word.{word}
use Rattle.field_gf128.proofs.Halves.{joined-lt}
use Rattle.field_multiples.specs.helpers.Rows.{Copied, Row}
use Rattle.theory_field.proofs.Powers.{xtime-pow}
use Rattle.field_multiples.proofs.Products.{row_start, row_more}
use Rattle.field_multiples.proofs.row.Goals as goal

-- the next copies fit in the row
room : (i b : ℕ) → i < b → 2 ^ i + 2 ^ i ≤ 2 ^ b
room i b h = omega (arith, pow-suc 2 i, pow_mono {i = suc i} {j = b} h)

pub put-requires : goal.put-requires
put-requires c = omega (arith, pow_pos c.args.b)

pub loop-i-init : goal.loop-i-init
unfolding word
loop-i-init c =
    let w = c.args.w in (refl, sym (⊗-one (word w) (joined-lt w.hi w.lo (omega arith) (omega arith))), λ ws row. row)

pub copy_plus-requires : goal.copy_plus-requires
copy_plus-requires c =
    omega (arith, room c.loop-i._i c.args.b c.loop-i-test.true, c.put.auto.s)

pub overflow_add-n : goal.overflow_add-n
overflow_add-n c =
    omega (arith, room c.loop-i._i c.args.b (omega arith))

pub loop-i-preserved : goal.loop-i-preserved
loop-i-preserved c =
    let a = c.args in (
      omega (arith, pow-suc 2 c.loop-i._i, ap (λ e. 2 ^ e) (add-one c.loop-i._i)),
      c.double-d.ensures ∙ ap xtime c.loop-i.invariant.1 ∙ xtime-pow c.loop-i._i (word a.w) (omega arith) ∙ ap (λ e. word a.w ⊗ 2 ^ e) (sym (add-one c.loop-i._i)),
      λ ws row.
          row_more a.from c.loop-i._i (word a.w) ws (words c.loop-i.t) (words c.copy_plus.new.t) (c.loop-i.invariant.2 ws row)
          (subst (λ n. Copied a.from n n (word a.w ⊗ 2 ^ c.loop-i._i) (words c.loop-i.t) (words c.copy_plus.new.t)) c.loop-i.invariant.0
          (subst (λ d. Copied a.from c.loop-i.n c.loop-i.n d (words c.loop-i.t) (words c.copy_plus.new.t)) c.loop-i.invariant.1 c.copy_plus.ensures)),
    )

pub shape_of-t : goal.shape_of-t
shape_of-t c =
    omega (arith, c.put.auto.s)

pub returns : goal.returns
unfolding word
returns c =
    let a = c.args in let z : c.loop-i._i ≡ a.b = omega arith in (
      c.loop-i.invariant.1 ∙ ap (λ i. word a.w ⊗ 2 ^ i) z,
      subst (λ i. Row i a.from (word a.w) (words a.t.now) (words c.loop-i.t)) z
          (c.loop-i.invariant.2 (words a.t.now)
          (subst (Row 0 a.from (word a.w) (words a.t.now)) (sym c.put.ensures)
          (row_start a.from (word a.w) 0 (words a.t.now) (omega (arith, length-words a.t.now, pow_pos a.b)) refl))),
    )
