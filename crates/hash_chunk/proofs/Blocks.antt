-- The first blocks of a message: a walk over them, and the digest of the message from their chaining value on.
use Prim.Native.Nat.{ℕ, zero, suc, ◌+◌, ◌-◌, ◌*◌, ◌≤◌, ◌<◌}
use mathlib.Core.Path.{◌≡◌, refl, sym, ◌∙◌, ap, ap₂}
use mathlib.Core.List.{List, ◌++◌}
use native.Mathlib.Omega.{arith}
use native.Mathlib.Numerals.{add-one}
use lib.ListN.{length, take, drop, length-drop}
use lib.Seq.{drop-drop, take-append-le, drop-append-le}
use Rattle.theory_laws.specs.Lists.{part}
use Rattle.theory_blake3.specs.Flags.{start_flag, root_node}
use Rattle.theory_blake3.specs.Compression.{cv}
use Rattle.theory_blake3.specs.Chunk.{next, chunk_from, chunk}
use Rattle.theory_blake3.specs.Digest.{bytes_of_words32, root, digest}
use Rattle.theory_blake3.proofs.Tree.{tree-one}
use Rattle.hash_chunk.specs.helpers.Blocks.{blocks_from, first_blocks}
use Rattle.hash_chunk.proofs.Chunk.{chunk-step}

-- ---- the walk

-- block i stands at `from`; the blocks that are left give the chaining value r
pub blocks_step : (d n i from : ℕ) (h v bs r : List ℕ) → i < n → v ≡ next d h (start_flag i) 0 (part 64 from bs) → blocks_from d (n - i) i h (drop from bs) ≡ r
    → blocks_from d (n - (i + 1)) (i + 1) v (drop (from + 64) bs) ≡ r
unfolding blocks_from part
blocks_step d n i from h v bs r lt e f =
    let s : n - i ≡ suc (n - (i + 1)) = omega arith in
    ap (blocks_from d (n - (i + 1)) (i + 1) v) (sym (drop-drop 64 from bs))
    ∙ ap₂ (λ (j : ℕ) (x : List ℕ). blocks_from d (n - (i + 1)) j x (drop 64 (drop from bs))) (add-one i) e ∙ (rw s at f)

-- the same where block i stands after the i before it
pub blocks_turn : (d n i : ℕ) (h v bs r : List ℕ) → i < n → v ≡ next d h (start_flag i) 0 (part 64 (64 * i) bs)
    → blocks_from d (n - i) i h (drop (64 * i) bs) ≡ r → blocks_from d (n - (i + 1)) (i + 1) v (drop (64 * (i + 1)) bs) ≡ r
blocks_turn d n i h v bs r lt e f =
    let z : 64 * i + 64 ≡ 64 * (i + 1) = omega arith in
    rw z at (blocks_step d n i (64 * i) h v bs r lt e f)

pub blocks_end : (d n i : ℕ) (h l r : List ℕ) → n ≤ i → blocks_from d (n - i) i h l ≡ r → h ≡ r
unfolding blocks_from
blocks_end d n i h l r le f = let s : n - i ≡ 0 = omega arith in rw s at f

pub blocks_begin : (key : List ℕ) (d n : ℕ) (bs : List ℕ) → blocks_from d (n - 0) 0 key bs ≡ first_blocks key d n bs
unfolding first_blocks
blocks_begin key d n bs = ap (λ (m : ℕ). blocks_from d m 0 key bs) (let s : n - 0 ≡ n = omega arith in s)

-- ---- what follows the blocks

-- the chunk from the blocks' chaining value on
chunk-blocks : (d n i : ℕ) (h bs : List ℕ) (x : ℕ) → n + i ≤ 15 → 64 * n < length bs
    → chunk_from d (15 - i) h (start_flag i) 0 bs x ≡ chunk_from d (15 - (n + i)) (blocks_from d n i h bs) (start_flag (n + i)) 0 (drop (64 * n) bs) x
unfolding blocks_from
chunk-blocks d zero i h bs x le lt = let z : 0 + i ≡ i = omega arith in rw z
chunk-blocks d (suc n) i h bs x le lt =
    let s : 15 - i ≡ suc (15 - suc i) = omega arith in
    let t : n + suc i ≡ suc n + i = omega arith in
    let u : 64 + 64 * n ≡ 64 * suc n = omega arith in
    let v : List ℕ = next d h (start_flag i) 0 (take 64 bs) in
    ap (λ (m : ℕ). chunk_from d m h (start_flag i) 0 bs x) s
    ∙ chunk-step d (15 - suc i) h (start_flag i) 0 bs x (omega arith)
    ∙ chunk-blocks d n (suc i) v (drop 64 bs) x (omega arith) (simp length-drop (omega arith))
    ∙ ap₂ (λ (m : ℕ) (l : List ℕ). chunk_from d (15 - m) (blocks_from d n (suc i) v (drop 64 bs)) (start_flag m) 0 l x) t
    (drop-drop (64 * n) 64 bs ∙ ap (λ (m : ℕ). drop m bs) u)

-- the digest of a message of at most a chunk
pub digest-after : (key : List ℕ) (d n : ℕ) (h bs : List ℕ) → h ≡ first_blocks key d n bs → 64 * n < length bs → length bs ≤ 1024
    → bytes_of_words32 (cv (chunk_from d (15 - n) h (start_flag n) 0 (drop (64 * n) bs) 8)) ≡ digest key d bs
unfolding digest root chunk first_blocks
digest-after key d n h bs e lt le =
    let z : n + 0 ≡ n = omega arith in
    ap (λ (w : List ℕ). bytes_of_words32 (cv w))
    (ap (λ (v : List ℕ). chunk_from d (15 - n) v (start_flag n) 0 (drop (64 * n) bs) 8) e
    ∙ sym (rw z at (chunk-blocks d n 0 key bs 8 (omega arith) lt))
    ∙ sym (tree-one key d 0 bs root_node le))

-- the blocks of a beginning
blocks_from-append : (d n i : ℕ) (h p r : List ℕ) → 64 * n ≤ length p → blocks_from d n i h (p ++ r) ≡ blocks_from d n i h p
unfolding blocks_from
blocks_from-append d zero i h p r le = refl
blocks_from-append d (suc n) i h p r le =
    ap₂ (λ (a b : List ℕ). blocks_from d n (suc i) (next d h (start_flag i) 0 a) b) (take-append-le 64 p r (omega arith)) (drop-append-le 64 p r (omega arith))
    ∙ blocks_from-append d n (suc i) (next d h (start_flag i) 0 (take 64 p)) (drop 64 p) r (simp length-drop (omega arith))

pub first_blocks-append : (key : List ℕ) (d n : ℕ) (p r : List ℕ) → 64 * n ≤ length p → first_blocks key d n (p ++ r) ≡ first_blocks key d n p
unfolding first_blocks
first_blocks-append key d n p r le = blocks_from-append d n 0 key p r le
