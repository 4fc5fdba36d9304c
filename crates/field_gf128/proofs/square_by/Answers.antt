-- `field_gf128::square_by` meets its contract: the square of a word is its halves spread apart, reduced.
use mathlib.Core.Path.{◌∙◌}
use Prim.Native.Nat.{◌^◌, ◌<◌}
use native.Mathlib.Omega.{arith}
use Rattle.field_gf128.proofs.Spreading.{word_squared}
use Rattle.field_gf128.proofs.square_by.Goals as goal
use Rattle.field_gf128.proofs.square_by.Goals.{Start}

-- found where no call is in sight
halves_lt : (g : _) (c : Start g) → (c.args.a.hi < 2 ^ 64) × (c.args.a.lo < 2 ^ 64)
halves_lt g c = (omega arith, omega arith)

pub returns : goal.returns
returns g c =
    let small = halves_lt g (goal.at.returns g c).Start in
    c.reduce256.ensures
    ∙ word_squared c.args.a c.spread64.result c.spread64-2.result small.0 small.1 c.spread64.ensures
    c.spread64-2.ensures
