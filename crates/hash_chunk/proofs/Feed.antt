-- Feeding a state: byte by byte, in runs within a block, and one list after another. These laws hold for every state.
use mathlib.Core.Path.{◌≡◌, refl, sym, ap, ap₂, ◌∙◌}
use mathlib.Core.Bool.{Bool, true, false}
use mathlib.Core.Logic.{⊎_elim}
use mathlib.Core.List.{List, [], ◌∷◌, ◌++◌}
use mir.Val.{Val}
use denote.Laws.{Is}
use denote.Struct.Declared.{row}
use denote.Struct.Laws.{owed}
use Prim.Native.Nat.{ℕ, suc, ◌+◌, ◌*◌, ◌<◌, ◌≤◌, min}
use native.Mathlib.Nat.{add-zero, eq-or-lt_of_le}
use native.Mathlib.Omega.{arith}
use native.Mathlib.Numerals.{add-one}
use lib.Dec.{eqb}
use lib.ListN.{length, drop, set, length-drop}
use lib.Seq.{length-take-le}
use borrow.Author.Tests.{eq-eqb, ne_eqb}
use lib.Bits.{bit_or}
use Rattle.theory_laws.specs.Lists.{part, stored}
use Rattle.theory_laws.proofs.Lists.{stored-nil, stored-cons, length_part, part_then}
use Rattle.theory_blake3.specs.Flags.{start_flag}
use Rattle.theory_blake3.specs.Compression.{compress}
use Rattle.theory_blake3.specs.Chunk.{block, next, last}
use Rattle.hash_chunk.specs.declared.state.ChunkState.{ChunkState}
use Rattle.hash_chunk.specs.contracts.state.ChunkState as ChunkStateT
use Rattle.hash_chunk.proofs.state.ChunkState.TheLaws as ChunkStateL
use Rattle.hash_chunk.specs.State.{compressed, roomy, with_block, fed_byte, fed, last_of}
use Rattle.hash_chunk.specs.helpers.Room.{Fits}

-- the length of the block of a state that a function is passed (`c.well_formed.0`)
pub block-length : (s : ChunkState) (vs : List Val) → Is (row ChunkStateT.the_type) s vs → length s.block ≡ 64
block-length s vs p = (owed ChunkStateT.the_type ChunkStateL.the_laws s vs p).1.1.0.1.0.1

-- the two cases of making room
pub roomy_full : (s : ChunkState) → s.fill ≡ 64 → roomy s ≡ compressed s
roomy_full s h = rw (eq-eqb s.fill 64 h)

pub roomy_not : (s : ChunkState) → (s.fill ≡ 64 → ⊥) → roomy s ≡ s
roomy_not s h = rw (ne_eqb s.fill 64 h)

roomy-again : (s : ChunkState) → roomy (roomy s) ≡ roomy s
unfolding compressed
roomy-again s = go (eqb s.fill 64) refl
  where
    go : (b : Bool) → eqb s.fill 64 ≡ b → roomy (roomy s) ≡ roomy s
    go true e = simp e
    go false e = simp e

-- one list after another
pub fed-append : (s : ChunkState) (xs bs : List ℕ) → fed s (xs ++ bs) ≡ fed (fed s xs) bs
unfolding fed
fed-append s [] bs = refl
fed-append s (a ∷ xs) bs = fed-append (fed_byte s a) xs bs

-- room is made before the next byte, or now
pub fed-roomy : (s : ChunkState) (bs : List ℕ) → 1 ≤ length bs → fed (roomy s) bs ≡ fed s bs
unfolding fed fed_byte
fed-roomy s [] h = absurd (omega arith)
fed-roomy s (b ∷ bs) h = ap (λ (r : ChunkState). fed (with_block r (set r.block r.fill b) (r.fill + 1)) bs) (roomy-again s)

-- a run of bytes that the block has room for
pub fed-run : (s : ChunkState) (bs : List ℕ) → s.fill + length bs ≤ 64 → fed s bs ≡ with_block s (stored s.block s.fill bs) (s.fill + length bs)
unfolding fed fed_byte
fed-run s [] h = ap₂ (with_block s) (sym (stored-nil s.block s.fill)) (sym (add-zero s.fill))
fed-run s (b ∷ bs) h =
    let e : roomy s ≡ s = roomy_not s (λ z. omega arith) in
    let s' = with_block s (set s.block s.fill b) (s.fill + 1) in
    ap (λ (r : ChunkState). fed (with_block r (set r.block r.fill b) (r.fill + 1)) bs) e
    ∙ fed-run s' bs (omega arith)
    ∙ ap₂ (with_block s)
    (ap (λ (k : ℕ). stored (set s.block s.fill b) k bs) (add-one s.fill) ∙ sym (stored-cons s.block s.fill b bs))
    (let k : s.fill + 1 + length bs ≡ s.fill + suc (length bs) = omega arith in k)

-- u is s with room for a byte
pub record Roomed (s u : ChunkState) : Type 0 where
  pub same : u ≡ roomy s
  pub room : u.fill < 64
  pub count : 64 * u.blocks + u.fill ≡ 64 * s.blocks + s.fill
  pub same_counter : u.counter ≡ s.counter
  pub same_flags : u.flags ≡ s.flags

pub roomed_full : (s u : ChunkState) → s.fill ≡ 64 → u ≡ compressed s → Roomed s u
unfolding compressed
roomed_full s u h e = rw e (record { same = sym (roomy_full s h); room = omega arith; count = omega arith; same_counter = refl; same_flags = refl })

pub roomed_not : (s u : ChunkState) → s.fill ≤ 64 → (s.fill ≡ 64 → ⊥) → u ≡ s → Roomed s u
roomed_not s u l h e =
    let k : s.fill < 64 = omega arith in
    rw e (record { same = sym (roomy_not s h); room = k; count = refl; same_counter = refl; same_flags = refl })

roomed : (s : ChunkState) → s.fill ≤ 64 → Roomed s (roomy s)
roomed s l =
    ⊎_elim
    (λ (e : s.fill ≡ 64). roomed_full s (roomy s) e (roomy_full s e))
    (λ (h : s.fill < 64). roomed_not s (roomy s) l (λ z. omega arith) (roomy_not s (λ z. omega arith)))
    (eq-or-lt_of_le l)

-- u is s with n bytes more: what that says of its counters
pub record Held (s u : ChunkState) (n : ℕ) : Type 0 where
  pub within : u.fill ≤ 64
  pub some : min 1 (s.fill + n) ≤ u.fill
  pub count : 64 * u.blocks + u.fill ≡ 64 * s.blocks + s.fill + n
  pub same_counter : u.counter ≡ s.counter
  pub same_flags : u.flags ≡ s.flags

held_byte : (s : ChunkState) (b : ℕ) → s.fill ≤ 64 → Held s (fed_byte s b) 1
unfolding fed_byte
held_byte s b l =
    let r = roomed s l in
    record { within = omega (arith, r.room); some = omega arith; count = omega (arith, r.count); same_counter = r.same_counter; same_flags = r.same_flags }

pub held-fed : (s : ChunkState) (bs : List ℕ) → s.fill ≤ 64 → Held s (fed s bs) (length bs)
unfolding fed
held-fed s [] l = record { within = l; some = omega arith; count = omega arith; same_counter = refl; same_flags = refl }
held-fed s (b ∷ bs) l =
    let e = held_byte s b l in
    let f = held-fed (fed_byte s b) bs e.within in
    record {
      within = f.within;
      some = omega (arith, f.some, e.some);
      count = omega (arith, f.count, e.count);
      same_counter = f.same_counter ∙ e.same_counter;
      same_flags = f.same_flags ∙ e.same_flags;
    }

-- what fits, fits piece by piece
pub fits-fed : (s : ChunkState) (bs : List ℕ) (n : ℕ) → Fits s (length bs + n) → Fits (fed s bs) n
fits-fed s bs n f =
    let h = held-fed s bs f.within in
    record { within = h.within; small = omega (arith, h.count, f.small) }

-- a state that was fed bs has room for what is left
pub fits_after : (s u : ChunkState) (bs : List ℕ) (k n m : ℕ) → u ≡ fed s bs → length bs ≡ k → k + n ≡ m → Fits s m → Fits u n
fits_after s u bs k n m e l h f = rw e (fits-fed s bs n (rw (l, h) f))

-- one feed after another
pub fed_then : (s : ChunkState) {u r : ChunkState} (xs bs : List ℕ) → u ≡ fed s xs → r ≡ fed u bs → r ≡ fed s (xs ++ bs)
fed_then s xs bs e f = f ∙ ap (λ (v : ChunkState). fed v bs) e ∙ sym (fed-append s xs bs)

-- a turn of `feed`: with room made, n bytes from place i on go into the block
pub feed_turn : (s u : ChunkState) (input block : List ℕ) (i n : ℕ) (r : ChunkState) → u ≡ roomy s → 0 < n → u.fill + n ≤ 64 → i + n ≤ length input
    → block ≡ stored u.block u.fill (part n i input) → fed s (drop i input) ≡ r → fed (with_block u block (u.fill + n)) (drop (i + n) input) ≡ r
feed_turn s u input block i n r e p f l q g =
    let w : length (part n i input) ≡ n = length_part n i input l in
    let k : u.fill + length (part n i input) ≡ u.fill + n = ap (λ (m : ℕ). u.fill + m) w in
    let b : with_block u block (u.fill + n) ≡ fed u (part n i input) = ap₂ (with_block u) q (sym k) ∙ sym (fed-run u (part n i input) (omega arith)) in
    ap (λ (v : ChunkState). fed v (drop (i + n) input)) b
    ∙ sym (fed-append u (part n i input) (drop (i + n) input))
    ∙ ap (fed u) (part_then n i input)
    ∙ ap (λ (v : ChunkState). fed v (drop i input)) e
    ∙ fed-roomy s (drop i input) (simp length-drop (omega arith))
    ∙ g

-- ---- what the calls of `compressed` and `last` make

pub compressed_law : (s : ChunkState) {v : List ℕ} → v ≡ next s.flags s.h (start_flag s.blocks) s.counter s.block
    → record { h = v; blocks = s.blocks + 1; block = s.block; fill = 0; counter = s.counter; flags = s.flags } ≡ compressed s
unfolding compressed
compressed_law s e = ap (λ (v : List ℕ). record { h = v; blocks = s.blocks + 1; block = s.block; fill = 0; counter = s.counter; flags = s.flags }) e

pub last_law : (s : ChunkState) (m : List ℕ) (f x : ℕ) → s.fill ≤ length s.block → m ≡ block (part s.fill 0 s.block) → f ≡ start_flag s.blocks
    → compress s.h m s.counter s.fill (bit_or (bit_or s.flags (bit_or f 2)) x) ≡ last_of s x
unfolding last_of last part
last_law s m f x l e g = rw (e, g, length-take-le s.fill s.block l)
