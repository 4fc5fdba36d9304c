-- The digests of four lanes, and their bytes put one after the other.
use Prim.Native.Nat.{ℕ, zero, suc, ◌+◌, ◌-◌, ◌*◌, ◌≤◌, ◌<◌}
use mathlib.Core.Path.{◌≡◌, sym, ◌∙◌, ap}
use mathlib.Core.List.{List, [], ◌∷◌, append_assoc, append-nil}
use native.Mathlib.Omega.{arith}
use lib.ListN.{length, take, drop}
use lib.Seq.{drop-drop}
use Rattle.theory_laws.specs.Table.{at}
use Rattle.theory_laws.specs.Lists.{part, flat}
use Rattle.theory_laws.proofs.Table.{length-tab}
use Rattle.theory_laws.proofs.Lists.{take-drop, length_part, lent-part, length-stored}
use Rattle.theory_blake3.specs.Flags.{start_flag}
use Rattle.theory_blake3.specs.Compression.{cv}
use Rattle.theory_blake3.specs.Chunk.{chunk_from}
use Rattle.theory_blake3.specs.Digest.{bytes_of_words32}
use Rattle.theory_blake3.specs.declared.Mode.{Mode}
use Rattle.theory_blake3.specs.Modes.{under}
use Rattle.theory_blake3.proofs.Words.{length-bytes_of_words32}
use Rattle.hash_four_lanes.specs.helpers.Lane as X
use Rattle.hash_four_lanes.specs.helpers.Lane.{lane}
use Rattle.hash_four_chunks.specs.helpers.FourChunks.{which}
use Rattle.bytes_numbers.specs.helpers.Put.{Put}
use Rattle.bytes_numbers.proofs.Stores.{then_put, same_put}
use Rattle.hash_chunk.specs.helpers.Blocks.{first_blocks}
use Rattle.hash_chunk.proofs.Blocks.{digest-after}
use Rattle.tree_four_messages.specs.helpers.Strides.{four, Common, Begun}

-- what follows the blocks of message k, as it is lent
lent-rest : (i f n s e : ℕ) (l : List ℕ) → s ≡ i + f → e ≡ i + n → f ≤ n → take (e - s) (drop s l) ≡ drop f (part n i l)
unfolding part
lent-rest i f n s e l es ee h =
    let x : e - s ≡ n - f = omega arith in
    let y : f + (n - f) ≡ n = omega arith in
    rw (x, es) (ap (take (n - f)) (sym (drop-drop f i l)) ∙ take-drop (n - f) f (drop i l) ∙ ap (λ (j : ℕ). drop f (take j (drop i l))) y)

-- a chaining value that all have in common, in each lane
pub common-begun : (mode : Mode) (h v : List ℕ) (blocks n : ℕ) (m : List ℕ) → X.Each 8 v (λ _. h) → Common mode h blocks n m
    → Begun mode (lane 8 v) blocks n m
common-begun mode h v blocks n m e c =
    record { chunk = c.chunk; followed = c.followed; room = c.room; value = λ k b. e k b ∙ c.value k b }

module _ (mode : Mode) (h : ℕ → List ℕ) (blocks n : ℕ) (m r : List ℕ) (c : Begun mode h blocks n m) where
  lane_hashed : (k s e : ℕ) (w : List ℕ) → k < 4 → s ≡ 1024 * k + 64 * blocks → e ≡ 1024 * k + n
      → w ≡ cv (chunk_from mode.flags (15 - blocks) (h k) (start_flag blocks) 0 (take (e - s) (drop s m)) 8)
      → bytes_of_words32 w ≡ under mode (part n (1024 * k) m)
  unfolding under
  lane_hashed k s e w lt es ee g =
      let bs : List ℕ = part n (1024 * k) m in
      let l : length bs ≡ n = length_part n (1024 * k) m (omega (arith, c.chunk, c.room)) in
      ap bytes_of_words32 g
      ∙ ap (λ (x : List ℕ). bytes_of_words32 (cv (chunk_from mode.flags (15 - blocks) (h k) (start_flag blocks) 0 x 8)))
      (lent-rest (1024 * k) (64 * blocks) n s e m es ee (omega (arith, c.followed)))
      ∙ digest-after mode.key mode.flags blocks (h k) bs (c.value k lt) (omega (arith, c.followed)) (omega (arith, c.chunk))

  -- the lanes that `hash_four_chunks::rests` gives
  pub lanes_hashed : ((k : ℕ) → k < 4 → lane 8 r k
      ≡ cv (chunk_from mode.flags (15 - blocks) (h k) (start_flag blocks) (at (0 ∷ 0 ∷ 0 ∷ 0 ∷ []) k)
      (which (take (n - 64 * blocks) (drop (64 * blocks) m)) (take (1024 + n - (1024 + 64 * blocks)) (drop (1024 + 64 * blocks) m))
      (take (2048 + n - (2048 + 64 * blocks)) (drop (2048 + 64 * blocks) m))
      (take (3072 + n - (3072 + 64 * blocks)) (drop (3072 + 64 * blocks) m)) k) 8))
      → (k : ℕ) → k < 4 → bytes_of_words32 (lane 8 r k) ≡ under mode (part n (1024 * k) m)
  unfolding which
  lanes_hashed g zero b = lane_hashed 0 (64 * blocks) n (lane 8 r 0) b (omega arith) (omega arith) (g 0 b)
  lanes_hashed g (suc zero) b = lane_hashed 1 (1024 + 64 * blocks) (1024 + n) (lane 8 r 1) b (omega arith) (omega arith) (g 1 b)
  lanes_hashed g (suc (suc zero)) b = lane_hashed 2 (2048 + 64 * blocks) (2048 + n) (lane 8 r 2) b (omega arith) (omega arith) (g 2 b)
  lanes_hashed g (suc (suc (suc zero))) b = lane_hashed 3 (3072 + 64 * blocks) (3072 + n) (lane 8 r 3) b (omega arith) (omega arith) (g 3 b)
  lanes_hashed g (suc (suc (suc (suc k)))) b = absurd (omega arith)

-- ---- their first blocks

pub lanes_begun : (key : List ℕ) (d blocks n : ℕ) (m r : List ℕ) → ((k : ℕ) → k < 4 → lane 8 r k ≡ first_blocks key d blocks
    (which (take n m) (take (1024 + n - 1024) (drop 1024 m)) (take (2048 + n - 2048) (drop 2048 m)) (take (3072 + n - 3072) (drop 3072 m)) k))
    → (k : ℕ) → k < 4 → lane 8 r k ≡ first_blocks key d blocks (part n (1024 * k) m)
unfolding which part
lanes_begun key d blocks n m r g zero b = g 0 b
lanes_begun key d blocks n m r g (suc zero) b = g 1 b ∙ ap (first_blocks key d blocks) (lent-part n 1024 m)
lanes_begun key d blocks n m r g (suc (suc zero)) b = g 2 b ∙ ap (first_blocks key d blocks) (lent-part n 2048 m)
lanes_begun key d blocks n m r g (suc (suc (suc zero))) b = g 3 b ∙ ap (first_blocks key d blocks) (lent-part n 3072 m)
lanes_begun key d blocks n m r g (suc (suc (suc (suc k)))) b = absurd (omega arith)

-- ---- their bytes

pub put_length : (o : List ℕ) (from n : ℕ) (bs o1 : List ℕ) (next : ℕ) → Put o from n bs o1 next → length o1 ≡ length o
put_length o from n bs o1 next p = ap length p.bytes ∙ length-stored o from bs

pub lane-length : (d v : List ℕ) (k : ℕ) → d ≡ bytes_of_words32 (lane 8 v k) → length d ≡ 32
unfolding lane
lane-length d v k e = ap length e ∙ length-bytes_of_words32 (lane 8 v k) ∙ ap (λ n. 4 * n) (length-tab 8 (λ i. at v (4 * i + k)))

-- after three digests there is room for the fourth
pub fourth-fits : (v : List ℕ) {o d0 o1 d1 o2 d2 o3 d3 : List ℕ} {to a b c : ℕ} → to + 128 ≤ length o
    → d0 ≡ bytes_of_words32 (lane 8 v 0) → d1 ≡ bytes_of_words32 (lane 8 v 1) → d2 ≡ bytes_of_words32 (lane 8 v 2) → d3 ≡ bytes_of_words32 (lane 8 v 3)
    → Put o to (length d0) d0 o1 a → Put o1 a (length d1) d1 o2 b → Put o2 b (length d2) d2 o3 c → c + length d3 ≤ length o3
fourth-fits v {o} {d0} {o1} {d1} {o2} {d2} {o3} {d3} {to} {a} {b} {c} room e0 e1 e2 e3 p0 p1 p2 = omega (
  arith,
  p0.end,
  p1.end,
  p2.end,
  put_length _ _ _ _ _ _ p0,
  put_length _ _ _ _ _ _ p1,
  put_length _ _ _ _ _ _ p2,
  lane-length d0 v 0 e0,
  lane-length d1 v 1 e1,
  lane-length d2 v 2 e2,
  lane-length d3 v 3 e3,
)

-- four digests put one after the other
pub four_put : (f : ℕ → List ℕ) (v : List ℕ) {o d0 o1 d1 o2 d2 o3 d3 o4 : List ℕ} {to a b c r : ℕ}
    → ((k : ℕ) → length (f k) ≡ 32) → ((k : ℕ) → k < 4 → bytes_of_words32 (lane 8 v k) ≡ f k)
    → d0 ≡ bytes_of_words32 (lane 8 v 0) → d1 ≡ bytes_of_words32 (lane 8 v 1) → d2 ≡ bytes_of_words32 (lane 8 v 2) → d3 ≡ bytes_of_words32 (lane 8 v 3)
    → Put o to (length d0) d0 o1 a → Put o1 a (length d1) d1 o2 b → Put o2 b (length d2) d2 o3 c → Put o3 c (length d3) d3 o4 r
    → Put o to 128 (flat (four f)) o4 r
unfolding flat
four_put f v {o} {d0} {o1} {d1} {o2} {d2} {o3} {d3} {o4} {to} {a} {b} {c} {r} s g e0 e1 e2 e3 p0 p1 p2 p3 =
    let x0 : d0 ≡ f 0 = e0 ∙ g 0 (omega arith) in
    let x1 : d1 ≡ f 1 = e1 ∙ g 1 (omega arith) in
    let x2 : d2 ≡ f 2 = e2 ∙ g 2 (omega arith) in
    let x3 : d3 ≡ f 3 = e3 ∙ g 3 (omega arith) in
    same_put o to _ 128 _ (flat (four f)) o4 r (omega (arith, ap length x0, ap length x1, ap length x2, ap length x3, s 0, s 1, s 2, s 3))
    (rw (x0, x1, x2, x3) (simp (append_assoc, append-nil)))
    (then_put o to _ _ o3 c _ _ o4 r (then_put o to _ _ o2 b _ _ o3 c (then_put o to _ _ o1 a _ _ o2 b p0 p1) p2) p3)
