-- `code_level_parts::in_next` meets its contract.
use Prim.Native.Nat.{◌+◌}
use mathlib.Core.Path.{◌∙◌, ap}
use native.Mathlib.Numerals.{add-one}
use lib.Dec.{leb}
use Rattle.theory_record.specs.Widths.{level_length}
use Rattle.code_level_parts.proofs.in_next.Goals as goal

pub returns : goal.returns
returns c =
    let a = c.args in c.ends_within.ensures
    ∙ ap (leb (a.first + a.m)) (c.level_length.ensures ∙ ap (level_length a.n a.k) (add-one a.l))
