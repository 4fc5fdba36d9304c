-- A chunk block by block: the two cases of its definition, and the steps of a walk over a slice that holds it.
use mathlib.Core.Path.{◌≡◌, refl, sym, ap, ◌∙◌}
use mathlib.Core.List.{List}
use Prim.Native.Nat.{ℕ, zero, suc, ◌+◌, ◌-◌, ◌<◌, ◌≤◌}
use native.Mathlib.Omega.{arith}
use native.Mathlib.Numerals.{add-one}
use lib.Bits.{bit_or}
use lib.ListN.{length, take, drop, length-drop}
use lib.Seq.{drop-drop, take_all}
use borrow.Author.Tests.{le-leb, lt-leb}
use Rattle.theory_laws.specs.Lists.{part}
use Rattle.theory_blake3.specs.Flags.{start_flag}
use Rattle.theory_blake3.specs.Compression.{cv, compress}
use Rattle.theory_blake3.specs.Chunk.{block, next, last, chunk_from}

-- a block that is not the last
pub chunk-step : (d j : ℕ) (h : List ℕ) (s t : ℕ) (bs : List ℕ) (x : ℕ) → 64 < length bs
    → chunk_from d (suc j) h s t bs x ≡ chunk_from d j (next d h s t (take 64 bs)) 0 t (drop 64 bs) x
unfolding chunk_from
chunk-step d j h s t bs x l = rw (lt-leb (length bs) 64 l)

-- the last block
pub chunk-last : (d j : ℕ) (h : List ℕ) (s t : ℕ) (bs : List ℕ) (x : ℕ) → length bs ≤ 64 → chunk_from d j h s t bs x ≡ last d h s t bs x
unfolding chunk_from
chunk-last d zero h s t bs x l = refl
chunk-last d (suc j) h s t bs x l = rw (le-leb (length bs) 64 l)

-- a block after the first has no start flag
pub start-next : (n : ℕ) → start_flag (n + 1) ≡ 0
start-next n = rw add-one

-- the chaining value after a block, from what the calls ensure
pub next_law : (d t : ℕ) (h m b w v : List ℕ) (f s : ℕ) → m ≡ block b → f ≡ s → w ≡ compress h m t 64 (bit_or d f) → v ≡ cv w → v ≡ next d h s t b
unfolding next
next_law d t h m b w v f s p q r e = e ∙ ap cv (r ∙ rw (p, q))

-- a turn of the walk: block i stands at `from`, and is not the last. r is what the whole chunk gives
pub chunk-turn : (d i t from : ℕ) (h v input r : List ℕ) (x : ℕ) → i < 15 → from + 64 < length input → v ≡ next d h (start_flag i) t (part 64 from input)
    → chunk_from d (15 - i) h (start_flag i) t (drop from input) x ≡ r
    → chunk_from d (15 - (i + 1)) v (start_flag (i + 1)) t (drop (from + 64) input) x ≡ r
unfolding part
chunk-turn d i t from h v input r x a l e g =
    let j : 15 - i ≡ suc (15 - (i + 1)) = omega arith in
    let m : 64 < length (drop from input) = simp length-drop (omega arith) in
    let g' = rw (j, chunk-step d (15 - (i + 1)) h (start_flag i) t (drop from input) x m, drop-drop 64 from input) at g in
    rw (start-next i, e) g'

-- what is left is the last block
pub chunk_end : (d i t from n f x : ℕ) (h m input r : List ℕ) → n ≡ length input - from → n ≤ 64 → m ≡ block (part n from input) → f ≡ start_flag i
    → chunk_from d (15 - i) h (start_flag i) t (drop from input) x ≡ r
    → compress h m t n (bit_or (bit_or d (bit_or f 2)) x) ≡ r
unfolding part last
chunk_end d i t from n f x h m input r e l em ef q =
    let w : length (drop from input) ≡ n = length-drop from input ∙ sym e in
    rw (em, ef, take_all n (drop from input) (omega arith), ← w) (sym (chunk-last d (15 - i) h (start_flag i) t (drop from input) x (omega arith)) ∙ q)
