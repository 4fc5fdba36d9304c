-- `clear` meets its contract: the part from the place on is filled with zeros; from a place past the end on there is none.
use Prim.Native.Nat.{ℕ, ◌-◌}
use mathlib.Core.Path.{◌≡◌, ◌∙◌, sym, ap}
use native.Mathlib.Omega.{arith}
use lib.ListN.{length, replicate}
use Rattle.theory_laws.specs.Lists.{stored}
use Rattle.theory_laws.proofs.Lists.{stored-nil}
use Rattle.bytes_numbers.proofs.Stores.{fill_end}
use Rattle.bytes_numbers.proofs.clear.Goals as goal

pub returns-then-from-out : goal.returns-then-from-out
returns-then-from-out c = fill_end c.args.out.now c.args.from _ c.if-from-out.true (c.fill.ensures.after (λ y e. e))

pub returns-else-from-out : goal.returns-else-from-out
returns-else-from-out c =
    let o = c.args.out.now in
    let z : length o - c.args.from ≡ 0 = omega arith in
    sym (ap (λ (n : ℕ). stored o c.args.from (replicate {A = ℕ} n 0)) z ∙ stored-nil o c.args.from)
