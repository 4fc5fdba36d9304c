-- `field_blocks::mirror_word` meets its contract: the bytes of a word are those of its halves.
use mathlib.Core.Path.{sym, ap₂, ◌∙◌}
use Prim.Native.Nat.{◌^◌, ◌<◌}
use native.Mathlib.Omega.{arith}
use Rattle.theory_field.specs.Words.{joined}
use Rattle.field_gf128.specs.Word.{word}
use Rattle.theory_gcm.proofs.Mirrored.{turned-joined}
use Rattle.field_blocks.proofs.mirror_word.Goals as goal
use Rattle.field_blocks.proofs.mirror_word.Goals.{Start}

-- found where `word` is shut: omega stops at numbers as long as 2^128
lo-lt : (c : Start) → c.args.w.lo < 2 ^ 64
lo-lt c = omega arith

pub returns : goal.returns
unfolding word
returns c =
    ap₂ joined c.mirror-2.ensures c.mirror.ensures ∙ sym (turned-joined c.args.w.hi c.args.w.lo (lo-lt (goal.at.returns c).Start))
