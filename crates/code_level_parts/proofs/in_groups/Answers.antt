-- `code_level_parts::in_groups` meets its contract.
use Prim.Native.Nat.{◌+◌}
use mathlib.Core.Path.{◌∙◌, ap}
use lib.Dec.{leb}
use Rattle.code_level_parts.proofs.in_groups.Goals as goal

pub returns : goal.returns
returns c =
    let a = c.args in c.ends_within.ensures ∙ ap (leb (a.first + a.m)) c.level_groups.ensures
