-- A block by value, and blocks of a run, by the number of their bytes turned.
use mathlib.Core.Path.{◌≡◌, sym, ap, ◌∙◌}
use mathlib.Core.List.{List}
use Prim.Native.Nat.{ℕ, ◌+◌, ◌^◌, ◌≤◌, ◌<◌}
use lib.Dec.{lit<}
use lib.ListN.{length}
use Rattle.theory_laws.specs.Lists.{part, le_bytes, le_value}
use Rattle.theory_laws.proofs.Lists.{Bytes, length-le_bytes, le_value-le_bytes, length_part}
use Rattle.theory_laws.proofs.Bytes.{below-part, le_bytes-joined}
use Rattle.theory_field.specs.Words.{joined}
use Rattle.theory_gcm.specs.Blocks.{imported, exported}
use Rattle.theory_gcm.specs.helpers.Mirrored.{turned}
use Rattle.theory_gcm.proofs.Mirrored.{le_bytes-bytes, imported-turned, exported-turned}
use Rattle.field_gf128.proofs.Halves.{joined-lt}
use Rattle.field_blocks.specs.declared.Block.{Block}
use Rattle.field_blocks.specs.Block.{block}

-- a block by value is the bytes of a number
block-number : (b : Block) → b.first < 2 ^ 64 → block b ≡ le_bytes 16 (joined b.second b.first)
unfolding block
block-number b h = sym (le_bytes-joined 8 8 b.second b.first h)

pub import_turned : (b : Block) → b.first < 2 ^ 64 → b.second < 2 ^ 64 → turned 16 (joined b.second b.first) ≡ imported (block b)
import_turned b f s =
    let n = joined b.second b.first in
    sym
    (ap imported (block-number b f) ∙ imported-turned (le_bytes 16 n) (length-le_bytes 16 n) (le_bytes-bytes 16 n)
    ∙ ap (turned 16) (le_value-le_bytes 16 n (joined-lt b.second b.first s f)))

pub export_turned : (b : Block) (w : ℕ) → b.first < 2 ^ 64 → joined b.second b.first ≡ turned 16 w → block b ≡ exported w
export_turned b w h e = block-number b h ∙ ap (le_bytes 16) e ∙ sym (exported-turned w)

pub part_turned : (i : ℕ) (l : List ℕ) → i + 16 ≤ length l → Bytes l → turned 16 (le_value (part 16 i l)) ≡ imported (part 16 i l)
part_turned i l h b = sym (imported-turned (part 16 i l) (length_part 16 i l h) (below-part 256 16 i l (lit< tt) b))
