-- `code_parts::is_part` meets its contract.
use Prim.Native.Nat.{◌+◌, ◌/◌}
use mathlib.Core.Path.{◌∙◌, ap}
use lib.Dec.{leb}
use Rattle.code_parts.proofs.is_part.Goals as goal

pub returns : goal.returns
returns c =
    let a = c.args in c.ends_within.ensures ∙ ap (λ x. leb (a.first + a.m) (x / 2)) c.power.ensures
