-- A walk over the first blocks of four messages, lane by lane.
use Prim.Native.Nat.{ℕ, zero, suc, ◌+◌, ◌-◌, ◌*◌, ◌<◌}
use native.Mathlib.Omega.{arith}
use mathlib.Core.Path.{◌≡◌, refl}
use mathlib.Core.List.{List, [], ◌∷◌}
use lib.ListN.{drop}
use lib.Bits.{bit_or}
use Rattle.theory_laws.specs.Table.{at}
use Rattle.theory_laws.specs.Lists.{part}
use Rattle.theory_blake3.specs.Flags.{start_flag}
use Rattle.theory_blake3.specs.Compression.{cv, compress}
use Rattle.theory_blake3.specs.Chunk.{block}
use Rattle.hash_chunk.specs.helpers.Blocks.{blocks_from}
use Rattle.hash_chunk.proofs.Blocks.{blocks_step}
use Rattle.hash_chunk.proofs.Chunk.{next_law}

-- block i stands at `from`; the blocks that are left give the chaining value r
pub lane-step : (d n i from : ℕ) (h v m bs r : List ℕ) (f t : ℕ) → i < n → m ≡ block (part 64 from bs) → f ≡ start_flag i → t ≡ 0
    → v ≡ cv (compress h m t 64 (bit_or d f)) → blocks_from d (n - i) i h (drop from bs) ≡ r
    → blocks_from d (n - (i + 1)) (i + 1) v (drop (from + 64) bs) ≡ r
lane-step d n i from h v m bs r f t lt em ef et ev old =
    blocks_step d n i from h v bs r lt (next_law d 0 h m (part 64 from bs) _ v f (start_flag i) em ef refl (rw et at ev)) old

-- where it is the place of block i, the next one stands at its own
pub lane-next : (d n i : ℕ) (h v m bs r : List ℕ) (f t : ℕ) → i < n → m ≡ block (part 64 (64 * i) bs) → f ≡ start_flag i → t ≡ 0
    → v ≡ cv (compress h m t 64 (bit_or d f)) → blocks_from d (n - i) i h (drop (64 * i) bs) ≡ r
    → blocks_from d (n - (i + 1)) (i + 1) v (drop (64 * (i + 1)) bs) ≡ r
lane-next d n i h v m bs r f t lt em ef et ev old =
    let e : 64 * (i + 1) ≡ 64 * i + 64 = omega arith in
    rw e (lane-step d n i (64 * i) h v m bs r f t lt em ef et ev old)

-- the counters of four messages of at most a chunk
pub no_count : (k : ℕ) → at (0 ∷ 0 ∷ 0 ∷ 0 ∷ []) k ≡ 0
no_count zero = refl
no_count (suc zero) = refl
no_count (suc (suc zero)) = refl
no_count (suc (suc (suc zero))) = refl
no_count (suc (suc (suc (suc k)))) = refl
