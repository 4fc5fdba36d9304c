-- A state stands for the bytes that it was fed: from a new state the chunk of the specification comes out, and the digest where the
-- chunk is the whole message.
use mathlib.Core.Path.{◌≡◌, refl, sym, ap, ◌∙◌, subst}
use mathlib.Core.Logic.{⊎_elim}
use mathlib.Core.List.{List, [], ◌∷◌, ◌++◌, append_assoc, append-nil}
use Prim.Native.Nat.{ℕ, suc, ◌+◌, ◌*◌, ◌-◌, ◌<◌, ◌≤◌, min}
use native.Mathlib.Nat.{eq-or-lt_of_le}
use native.Mathlib.Omega.{arith}
use native.Mathlib.Numerals.{add-one}
use lib.ListN.{length, take, set, length-append, length-take, length-set}
use lib.Seq.{take_at, drop_at, take_all, take-suc-set}
use Rattle.theory_blake3.specs.Flags.{start_flag, root_node}
use Rattle.theory_blake3.specs.Compression.{cv}
use Rattle.theory_blake3.specs.Chunk.{next, chunk_from, chunk}
use Rattle.theory_blake3.specs.Digest.{bytes_of_words32, root, digest}
use Rattle.theory_blake3.proofs.Tree.{tree-one}
use Rattle.hash_chunk.specs.declared.state.ChunkState.{ChunkState}
use Rattle.hash_chunk.specs.State.{started, compressed, with_block, fed_byte, fed, last_of, finished}
use Rattle.hash_chunk.specs.helpers.Room.{Fits}
use Rattle.hash_chunk.proofs.Chunk.{chunk-step, chunk-last, start-next}
use Rattle.hash_chunk.proofs.Feed.{roomy_full, roomy_not}

-- the output of the chunk that a state comes to if these bytes follow
abbrev pub onwards : ℕ → ℕ → ChunkState → List ℕ → ℕ → List ℕ
onwards d t s more x = chunk_from d (15 - s.blocks) s.h (start_flag s.blocks) t (take s.fill s.block ++ more) x

-- the state s stands for the bytes bs of chunk t: its counters agree, and whatever bytes follow, the same chunk comes of both
pub record Stands (key : List ℕ) (d t : ℕ) (s : ChunkState) (bs : List ℕ) : Type 0 where
  pub same_counter : s.counter ≡ t
  pub same_flags : s.flags ≡ d
  pub total : 64 * s.blocks + s.fill ≡ length bs
  pub some : min 1 (length bs) ≤ s.fill
  pub low : s.blocks ≤ 15
  pub within : s.fill ≤ 64
  pub wide : length s.block ≡ 64
  pub rest : (more : List ℕ) (x : ℕ) → onwards d t s more x ≡ chunk key d t (bs ++ more) x

pub stands-started : (key : List ℕ) (d t : ℕ) → Stands key d t (started key d t) []
unfolding started chunk
stands-started key d t = record {
  same_counter = refl;
  same_flags = refl;
  total = refl;
  some = omega arith;
  low = omega arith;
  within = omega arith;
  wide = refl;
  rest = λ more x. refl;
}

-- a byte goes into a block that has room
put_stands : (key : List ℕ) (d t : ℕ) (s : ChunkState) (bs : List ℕ) (b : ℕ) → s.counter ≡ t → s.flags ≡ d
    → 64 * s.blocks + s.fill ≡ length bs → s.blocks ≤ 15 → s.fill < 64 → length s.block ≡ 64
    → ((more : List ℕ) (x : ℕ) → onwards d t s (b ∷ more) x ≡ chunk key d t (bs ++ (b ∷ more)) x)
    → Stands key d t (with_block s (set s.block s.fill b) (s.fill + 1)) (bs ++ (b ∷ []))
put_stands key d t s bs b ec ed et l f w r = record {
  same_counter = ec;
  same_flags = ed;
  total = simp length-append (omega arith);
  some = omega arith;
  low = l;
  within = omega arith;
  wide = simp length-set w;
  rest = λ more x.
      let front = take s.fill s.block in
      rw (add-one s.fill, take-suc-set s.block s.fill b (omega arith), append_assoc front (b ∷ []) more, append_assoc bs (b ∷ []) more)
      (r more x);
}

-- a full block is compressed: what becomes of `rest`
full_rest : (key : List ℕ) (d t n : ℕ) (h b : List ℕ) (bs : List ℕ) (y : ℕ) → n < 15 → length b ≡ 64
    → ((more : List ℕ) (x : ℕ) → chunk_from d (15 - n) h (start_flag n) t (b ++ more) x ≡ chunk key d t (bs ++ more) x)
    → (more : List ℕ) (x : ℕ) → chunk_from d (15 - (n + 1)) (next d h (start_flag n) t b) (start_flag (n + 1)) t (y ∷ more) x ≡ chunk key d t (bs ++ (y ∷ more)) x
full_rest key d t n h b bs y l w g more x =
    let i : 15 - n ≡ suc (15 - (n + 1)) = omega arith in
    let m : 64 < length (b ++ (y ∷ more)) = simp length-append (omega arith) in
    let step = chunk-step d (15 - (n + 1)) h (start_flag n) t (b ++ (y ∷ more)) x m in
    rw (start-next n) (rw (i, step, take_at b (y ∷ more) 64 w, drop_at b (y ∷ more) 64 w) at (g (y ∷ more) x))

pub stands_byte : (key : List ℕ) (d t : ℕ) (s : ChunkState) (bs : List ℕ) (b : ℕ) → Stands key d t s bs → length bs < 1024
    → Stands key d t (fed_byte s b) (bs ++ (b ∷ []))
unfolding fed_byte compressed
stands_byte key d t s bs b r l =
    let P : ChunkState → Type 0 = λ (u : ChunkState). Stands key d t (with_block u (set u.block u.fill b) (u.fill + 1)) (bs ++ (b ∷ [])) in
    ⊎_elim
    (λ (e : s.fill ≡ 64).
    let n : s.blocks < 15 = omega (arith, r.total) in
    let w : take s.fill s.block ≡ s.block = take_all s.fill s.block (omega (arith, r.wide)) in
    subst P (sym (roomy_full s e))
    (put_stands key d t (compressed s) bs b r.same_counter r.same_flags (omega (arith, r.total)) (omega arith) (omega arith) r.wide
    (rw (r.same_flags, r.same_counter) (full_rest key d t s.blocks s.h s.block bs b n r.wide (rw w at r.rest)))))
    (λ (e : s.fill < 64).
    subst P (sym (roomy_not s (λ z. omega arith)))
    (put_stands key d t s bs b r.same_counter r.same_flags r.total r.low e r.wide (λ more x. r.rest (b ∷ more) x)))
    (eq-or-lt_of_le r.within)

pub stands-fed : (key : List ℕ) (d t : ℕ) (s : ChunkState) (bs more : List ℕ) → Stands key d t s bs → length bs + length more ≤ 1024
    → Stands key d t (fed s more) (bs ++ more)
unfolding fed
stands-fed key d t s bs [] r l = rw append-nil r
stands-fed key d t s bs (b ∷ more) r l =
    rw (append_assoc bs (b ∷ []) more) at
    (stands-fed key d t (fed_byte s b) (bs ++ (b ∷ [])) more (stands_byte key d t s bs b r (omega arith)) (simp length-append (omega arith)))

-- the chunk as its state has it
pub stands-last : (key : List ℕ) (d t : ℕ) (s : ChunkState) (bs : List ℕ) (x : ℕ) → Stands key d t s bs → last_of s x ≡ chunk key d t bs x
unfolding last_of
stands-last key d t s bs x r =
    rw (r.same_flags, r.same_counter)
    (sym (chunk-last d (15 - s.blocks) s.h (start_flag s.blocks) t (take s.fill s.block) x (simp length-take (omega (arith, r.within))))
    ∙ (rw (append-nil (take s.fill s.block), append-nil bs) at (r.rest [] x)))

-- ---- from a new state

-- bytes fed to a new state
pub fed-stands : (key : List ℕ) (d t : ℕ) (bs : List ℕ) → length bs ≤ 1024 → Stands key d t (fed (started key d t) bs) bs
fed-stands key d t bs l = stands-fed key d t (started key d t) [] bs (stands-started key d t) (omega arith)

-- and there is room for as many as are left of a chunk
pub fed-fits : (key : List ℕ) (d t : ℕ) (bs : List ℕ) (n : ℕ) → length bs + n ≤ 1024 → Fits (fed (started key d t) bs) n
fed-fits key d t bs n l =
    let r = fed-stands key d t bs (omega arith) in
    record { within = r.within; small = omega (arith, r.total) }

-- the digest of a message of at most a chunk
pub finished-digest : (key : List ℕ) (d : ℕ) (bs : List ℕ) → length bs ≤ 1024 → finished (fed (started key d 0) bs) ≡ digest key d bs
unfolding finished digest root
finished-digest key d bs l =
    let last = stands-last key d 0 (fed (started key d 0) bs) bs root_node (fed-stands key d 0 bs l) in
    ap (λ (w : List ℕ). bytes_of_words32 (cv w)) (last ∙ sym (tree-one key d 0 bs root_node l))
