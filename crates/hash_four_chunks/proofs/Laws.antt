-- Four lanes filled one after the other, and a walk over the blocks of four chunks.
use mathlib.Core.Path.{◌≡◌, refl, sym, ap, ◌∙◌}
use mathlib.Core.List.{List}
use Prim.Native.Nat.{ℕ, zero, suc, ◌+◌, ◌*◌, ◌-◌, ◌/◌, ◌<◌, ◌≤◌}
use native.Mathlib.Omega.{arith}
use lib.ListN.{length, drop}
use lib.Bits.{bit_or}
use Rattle.theory_laws.specs.Table.{at}
use Rattle.theory_laws.specs.Lists.{part}
use Rattle.theory_blake3.specs.Flags.{start_flag}
use Rattle.theory_blake3.specs.Compression as C
use Rattle.theory_blake3.specs.Chunk as B
use Rattle.hash_chunk.proofs.Chunk.{next_law, chunk-turn, chunk_end}
use Rattle.hash_four_lanes.specs.helpers.Lane as X
use Rattle.hash_four_lanes.proofs.Laws.{lane-all}
use Rattle.hash_four_chunks.specs.helpers.FourChunks.{which, Four, Block}

pub spread_law : (s h : List ℕ) (k : ℕ) → k < 4 → length h ≡ 8 → ((i : ℕ) → i < 32 → at s i ≡ at h (i / 4)) → X.lane 8 s k ≡ h
spread_law s h k b e g =
    sym (lane-all 8 s h k e (λ i l.
    let q : (4 * i + k) / 4 ≡ i = omega arith in
    sym (g (4 * i + k) (omega arith) ∙ ap (at h) q)))

pub which-length : (blocks : ℕ) (a b c d : List ℕ) (k : ℕ) → Four blocks a b c d → length (which a b c d k) ≡ length a
unfolding which
which-length blocks a b c d zero f = refl
which-length blocks a b c d (suc zero) f = f.second
which-length blocks a b c d (suc (suc zero)) f = f.third
which-length blocks a b c d (suc (suc (suc k))) f = f.fourth

-- n bytes from a place on lie within the four lists if they lie within the first
pub block_within : {blocks from n : ℕ} {a b c d : List ℕ} → Four blocks a b c d → n ≤ 64 → from + n ≤ length a
    → Block from n (length a) (length b) (length c) (length d)
block_within f small h = record {
  block = small;
  first = h;
  second = omega (arith, f.second);
  third = omega (arith, f.third);
  fourth = omega (arith, f.fourth);
}

-- four lanes filled one after the other
pub four_lanes : (g : List ℕ → List ℕ) (a b c d : List ℕ) {m0 m1 m2 m3 m4 w0 w1 w2 w3 : List ℕ}
    → w0 ≡ g a → X.Stored m0 m1 0 w0 → w1 ≡ g b → X.Stored m1 m2 1 w1 → w2 ≡ g c → X.Stored m2 m3 2 w2 → w3 ≡ g d → X.Stored m3 m4 3 w3
    → (k : ℕ) → k < 4 → X.lane 16 m4 k ≡ g (which a b c d k)
unfolding which
four_lanes g a b c d e0 t0 e1 t1 e2 t2 e3 t3 zero h =
    t3.others 0 (omega arith) (omega arith) ∙ t2.others 0 (omega arith) (omega arith) ∙ t1.others 0 (omega arith) (omega arith) ∙ t0.here ∙ e0
four_lanes g a b c d e0 t0 e1 t1 e2 t2 e3 t3 (suc zero) h =
    t3.others 1 (omega arith) (omega arith) ∙ t2.others 1 (omega arith) (omega arith) ∙ t1.here ∙ e1
four_lanes g a b c d e0 t0 e1 t1 e2 t2 e3 t3 (suc (suc zero)) h =
    t3.others 2 (omega arith) (omega arith) ∙ t2.here ∙ e2
four_lanes g a b c d e0 t0 e1 t1 e2 t2 e3 t3 (suc (suc (suc zero))) h = t3.here ∙ e3
four_lanes g a b c d e0 t0 e1 t1 e2 t2 e3 t3 (suc (suc (suc (suc k)))) h = absurd (omega arith)

-- a turn: block i stands at `from`, and is not the last. r is what the whole chunk gives
pub walk_turn : (d i t from : ℕ) (h v m input : List ℕ) (f x : ℕ) (r : List ℕ) → i < 15 → from + 64 < length input → m ≡ B.block (part 64 from input)
    → f ≡ start_flag i
    → v ≡ C.cv (C.compress h m t 64 (bit_or d f))
    → B.chunk_from d (15 - i) h (start_flag i) t (drop from input) x ≡ r
    → B.chunk_from d (15 - (i + 1)) v (start_flag (i + 1)) t (drop (from + 64) input) x ≡ r
walk_turn d i t from h v m input f x r a l em ef ev g =
    chunk-turn d i t from h v input r x a l (next_law d t h m (part 64 from input) _ v f (start_flag i) em ef refl ev) g

-- what is left is the last block
pub walk_end : (d i t from n : ℕ) (h v m input : List ℕ) (f x : ℕ) (r : List ℕ) → n ≡ length input - from → n ≤ 64 → m ≡ B.block (part n from input)
    → f ≡ start_flag i
    → v ≡ C.cv (C.compress h m t n (bit_or (bit_or d (bit_or f 2)) x))
    → B.chunk_from d (15 - i) h (start_flag i) t (drop from input) x ≡ r → v ≡ C.cv r
walk_end d i t from n h v m input f x r e l em ef ev q = ev ∙ ap C.cv (chunk_end d i t from n f x h m input r e l em ef q)
