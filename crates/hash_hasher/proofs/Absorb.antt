-- Feeding a hasher: byte by byte, in runs within a chunk, and one list after another. These laws hold for every state.
use mathlib.Core.Path.{◌≡◌, refl, sym, ap, ap₂, ◌∙◌, fun_ext}
use mathlib.Core.Bool.{Bool, true, false}
use mathlib.Core.List.{List, [], ◌∷◌, ◌++◌}
use Prim.Native.Nat.{ℕ, suc, ◌+◌, ◌*◌, ◌-◌, ◌<◌, ◌≤◌}
use native.Mathlib.Nat.{add-zero}
use native.Mathlib.Omega.{arith}
use borrow.Author.Tests.{eq-eqb, ne_eqb}
use lib.Count.{count_trailing_zeros}
use lib.Dec.{eqb}
use lib.ListN.{replicate, length, take, drop, length-drop}
use Rattle.theory_laws.specs.Lists.{part}
use Rattle.theory_laws.proofs.Lists.{length_part, part_then, lent-part, length-lent}
use Rattle.hash_chunk.specs.declared.state.ChunkState.{ChunkState}
use Rattle.hash_chunk.specs.State.{started, fed_byte, fed, last_of}
use Rattle.hash_chunk.specs.helpers.Room.{Fits}
use Rattle.hash_chunk.proofs.Feed.{held-fed, fits-fed}
use Rattle.theory_blake3.specs.declared.Mode.{Mode}
use Rattle.theory_blake3.specs.Flags.{root_node}
use Rattle.theory_blake3.specs.Compression.{cv}
use Rattle.theory_blake3.specs.Digest.{bytes_of_words32}
use Rattle.theory_blake3.specs.Stack.{entries, fold, pushed, pushed_depth}
use Rattle.hash_stack.specs.declared.Stack.{Stack}
use Rattle.hash_stack.proofs.Tower.{tower_depth}
use Rattle.hash_hasher.specs.declared.hasher.Hasher.{Hasher}
use Rattle.hash_hasher.specs.helpers.Counts.{Counts}
use Rattle.hash_hasher.specs.Hasher.{new_of, mode_of, with_chunk, next_chunk, roomy, taken, absorbed, finished}

-- the two cases of making room
pub roomy_full : (s : Hasher) → 64 * s.chunk.blocks + s.chunk.fill ≡ 1024 → roomy s ≡ next_chunk s
roomy_full s h = rw (eq-eqb (64 * s.chunk.blocks + s.chunk.fill) 1024 h)

pub roomy_not : (s : Hasher) → (64 * s.chunk.blocks + s.chunk.fill ≡ 1024 → ⊥) → roomy s ≡ s
roomy_not s h = rw (ne_eqb (64 * s.chunk.blocks + s.chunk.fill) 1024 h)

roomy-again : (s : Hasher) → roomy (roomy s) ≡ roomy s
unfolding next_chunk
roomy-again s = go (eqb (64 * s.chunk.blocks + s.chunk.fill) 1024) refl
  where
    go : (b : Bool) → eqb (64 * s.chunk.blocks + s.chunk.fill) 1024 ≡ b → roomy (roomy s) ≡ roomy s
    go true e = simp e
    go false e = simp e

-- one list after another
pub absorbed-append : (s : Hasher) (xs bs : List ℕ) → absorbed s (xs ++ bs) ≡ absorbed (absorbed s xs) bs
unfolding absorbed
absorbed-append s [] bs = refl
absorbed-append s (x ∷ xs) bs = absorbed-append (taken s x) xs bs

-- room is made before the next byte, or now
absorbed-roomy : (s : Hasher) (bs : List ℕ) → 1 ≤ length bs → absorbed (roomy s) bs ≡ absorbed s bs
unfolding absorbed taken
absorbed-roomy s [] h = absurd (omega arith)
absorbed-roomy s (b ∷ bs) h = ap (λ (r : Hasher). absorbed (with_chunk r (fed_byte (r.chunk) b) (r.len + 1)) bs) (roomy-again s)

-- a run of bytes that the chunk has room for
absorbed-run : (s : Hasher) (bs : List ℕ) → Fits s.chunk (length bs) → absorbed s bs ≡ with_chunk s (fed s.chunk bs) (s.len + length bs)
unfolding absorbed taken fed
absorbed-run s [] f = ap (with_chunk s s.chunk) (sym (add-zero s.len))
absorbed-run s (b ∷ bs) f =
    let e : roomy s ≡ s = roomy_not s (λ z. omega (arith, f.small)) in
    let u = with_chunk s (fed_byte s.chunk b) (s.len + 1) in
    ap (λ (r : Hasher). absorbed (with_chunk r (fed_byte (r.chunk) b) (r.len + 1)) bs) e
    ∙ absorbed-run u bs (one_less s.chunk b bs f)
    ∙ ap (with_chunk s (fed (fed_byte s.chunk b) bs)) (let k : s.len + 1 + length bs ≡ s.len + suc (length bs) = omega arith in k)
  where
    one_less : (c : ChunkState) (b : ℕ) (bs : List ℕ) → Fits c (suc (length bs)) → Fits (fed_byte c b) (length bs)
    one_less c b bs f =
        let k : suc (length bs) ≡ 1 + length bs = omega arith in
        fits-fed c (b ∷ []) (length bs) (rw k at f)

-- u is s with room for a byte, and n bytes fit in
pub record Roomed (s u : Hasher) (n : ℕ) : Type 0 where
  pub same : u ≡ roomy s
  pub room : 64 * u.chunk.blocks + u.chunk.fill < 1024
  pub counts : Counts u n

pub roomed_full : (s u : Hasher) (n : ℕ) → 0 < n → Counts s n → 64 * s.chunk.blocks + s.chunk.fill ≡ 1024 → u ≡ next_chunk s → Roomed s u n
unfolding next_chunk
roomed_full s u n p c h e =
    rw e
    (record {
      same = sym (roomy_full s h);
      room = omega arith;
      counts = record {
        small = c.small;
        low = omega arith;
        within = omega arith;
        sum = omega (arith, c.sum);
        deep = tower_depth s.key s.chunk.flags s.chunk.counter s.stack.depth c.deep (omega (arith, c.sum, c.small));
      };
    })

pub roomed_not : (s u : Hasher) (n : ℕ) → Counts s n → (64 * s.chunk.blocks + s.chunk.fill ≡ 1024 → ⊥) → u ≡ s → Roomed s u n
roomed_not s u n c h e =
    let l : 64 * s.chunk.blocks + s.chunk.fill < 1024 = omega (arith, c.low, c.within) in
    rw e (record { same = sym (roomy_not s h); room = l; counts = c })

-- the part of a slice that `absorb` lends to `feed`
module _ (u : Hasher) (input : List ℕ) (i n : ℕ) where
  pub lent_fits : i + n ≤ length input → u.chunk.fill ≤ 64 → 64 * u.chunk.blocks + u.chunk.fill + n ≤ 1024
      → Fits u.chunk (length (take (i + n - i) (drop i input)))
  lent_fits l h k = rw (length-lent n i input l) (record { within = h; small = k })

  pub lent-fed : {r : ChunkState} → r ≡ fed u.chunk (take (i + n - i) (drop i input)) → r ≡ fed u.chunk (part n i input)
  lent-fed f = f ∙ ap (fed u.chunk) (lent-part n i input)

-- the same counters for as many bytes
pub counts_same : {s : Hasher} {n m : ℕ} → n ≡ m → Counts s n → Counts s m
counts_same e c = rw e at c

-- a turn of `absorb`: with room made, n bytes go into the chunk
pub absorb_turn : (s u : Hasher) (input : List ℕ) (i n : ℕ) {c : ChunkState} {t r : Hasher} → u ≡ roomy s → 0 < n → Fits u.chunk n → i + n ≤ length input
    → c ≡ fed u.chunk (part n i input) → t ≡ with_chunk u c (u.len + n) → absorbed s (drop i input) ≡ r → absorbed t (drop (i + n) input) ≡ r
absorb_turn s u input i n e p f l q w g =
    let z : length (part n i input) ≡ n = length_part n i input l in
    let a = absorbed-run u (part n i input) (rw z f) in
    ap (λ (v : Hasher). absorbed v (drop (i + n) input))
    (w ∙ ap₂ (with_chunk u) q (ap (λ (m : ℕ). u.len + m) (sym z)) ∙ sym a)
    ∙ sym (absorbed-append u (part n i input) (drop (i + n) input))
    ∙ ap (absorbed u) (part_then n i input)
    ∙ ap (λ (v : Hasher). absorbed v (drop i input)) e
    ∙ absorbed-roomy s (drop i input) (simp length-drop (omega arith))
    ∙ g

-- and its counters then
pub absorb_counts : (u : Hasher) (bs : List ℕ) (k n m : ℕ) {c : ChunkState} {t : Hasher} → Counts u k → length bs ≡ n → 0 < n
    → 64 * u.chunk.blocks + u.chunk.fill + n ≤ 1024 → n + m ≡ k
    → c ≡ fed u.chunk bs → t ≡ with_chunk u c (u.len + n) → Counts t m
absorb_counts u bs k n m o z p f e q w =
    let h = held-fed u.chunk bs o.within in
    rw (w, q)
    (record {
      small = omega (arith, o.small);
      low = omega (arith, h.count, h.some);
      within = h.within;
      sum = omega (arith, o.sum, h.count, h.same_counter);
      deep = rw h.same_counter o.deep;
    })

-- ---- what `new_with`, `next_chunk` and `finish` make

abbrev hasher : List ℕ → ChunkState → Stack → ℕ → Hasher
hasher key chunk stack n = record { key = key; chunk = chunk; stack = stack; len = n }

abbrev stack_of : List ℕ → ℕ → Stack
stack_of values depth = record { values = values; depth = depth }

pub new_law : (key : List ℕ) (d : ℕ) {c : ChunkState} {a : Stack} → c ≡ started key d 0 → a.values ≡ replicate 112 0 → a.depth ≡ 0
    → hasher key c a 0 ≡ new_of key d
unfolding new_of started
new_law key d e f g = ap₂ (λ (c : ChunkState) (a : Stack). hasher key c a 0) e (ap₂ stack_of f g)

pub next_law : (s : Hasher) (m : Mode) {c : ChunkState} {a : Stack} {v o : List ℕ} → m ≡ mode_of s → c ≡ started m.key m.flags (s.chunk.counter + 1)
    → a.depth ≡ pushed_depth (count_trailing_zeros 64 (s.chunk.counter + 1)) s.stack.depth
    → a.values ≡ pushed m.key m.flags (count_trailing_zeros 64 (s.chunk.counter + 1)) s.stack.values s.stack.depth v → v ≡ cv o → o ≡ last_of s.chunk 0
    → hasher s.key c a s.len ≡ next_chunk s
unfolding next_chunk started
next_law s m e ec ed ev f g =
    let k = count_trailing_zeros 64 (s.chunk.counter + 1) in
    ap₂ (λ (c : ChunkState) (a : Stack). hasher s.key c a s.len)
    (ec ∙ ap (λ (x : Mode). started x.key x.flags (s.chunk.counter + 1)) e)
    (ap₂ stack_of (ev ∙ ap₂ (λ (x : Mode) (u : List ℕ). pushed x.key x.flags k s.stack.values s.stack.depth u) e (f ∙ ap cv g)) ed)

pub finish_law : (s : Hasher) (m : Mode) {r v p : List ℕ} {n : ℕ → List ℕ} → m ≡ mode_of s → r ≡ bytes_of_words32 v → v ≡ cv p
    → p ≡ fold m.key m.flags (entries s.stack.values s.stack.depth) n root_node
    → ((x : ℕ) → n x ≡ last_of s.chunk x) → r ≡ finished s
unfolding finished
finish_law s m d e f g h =
    e ∙ ap bytes_of_words32
    (f ∙ ap cv
    (g ∙ ap₂ (λ (x : Mode) (o : ℕ → List ℕ). fold x.key x.flags (entries s.stack.values s.stack.depth) o root_node) d (fun_ext h)))
