-- `export_spread_table::entry` meets its contract. The loop's invariant: e is the i low bits of v spread apart.
use mathlib.Core.Path.{◌≡◌, refl, sym, ap₂, ◌∙◌}
use Prim.Native.Nat.{ℕ, ◌+◌, ◌*◌, ◌%◌, ◌^◌, ◌<◌}
use native.Mathlib.Omega.{arith}
use lib.Pow.{shl_exact}
use Rattle.theory_laws.specs.Xor.{◌⊕◌, bit}
use Rattle.theory_field.specs.Spread.{spread}
use Rattle.theory_field.proofs.Spread.{spread-more}
use Rattle.export_spread_table.proofs.entry.Goals as goal

pub loop-i-init : goal.loop-i-init
unfolding spread
loop-i-init c = refl

-- bit i, put at bit 2i
one_more : (v i e : ℕ) → i < 8 → e ≡ spread i v → e ⊕ bit i v * 2 ^ (2 * i) % 2 ^ 64 ≡ spread (i + 1) v
one_more v i e h s = ap₂ ◌⊕◌ s (shl_exact 1 (2 * i) 64 (omega arith) (omega arith)) ∙ sym (spread-more i v)

pub loop-i-preserved : goal.loop-i-preserved
unfolding ◌⊕◌
loop-i-preserved c =
    one_more c.args.v c.loop-i.i c.loop-i.e c.loop-i-test.true c.loop-i.invariant
