-- `field_gf128::inv` meets its contract: 0 is refused, and every other word has the power as its inverse.
use mathlib.Core.Path.{sym, ap, ◌∙◌}
use Prim.Native.Nat.{ℕ}
use Rattle.field_gf128.specs.Word.{word}
use Rattle.field_gf128.specs.Inverse.{answer, refusal, inverse_of}
use Rattle.field_gf128.proofs.Inverting.{answered, or_zero, zero_or}
use Rattle.field_gf128.proofs.inv.Goals as goal

pub returns-then-a-eq0 : goal.returns-then-a-eq0
unfolding answer word inverse_of refusal
returns-then-a-eq0 c =
    let a = c.args.a in rw (or_zero a.hi a.lo c.if-a-eq0.true)

pub returns : goal.returns
unfolding answer
returns c =
    let a = c.args.a in ap (λ (w : ℕ). (0, w)) c.power.ensures ∙ sym (answered (word a) (λ e. c.if-a-eq0.false (unfold word in zero_or a.hi a.lo e)))
