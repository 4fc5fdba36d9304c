-- The words of a block and the bytes of words, place by place, as code reads and writes them.
use mathlib.Core.Path.{◌≡◌, refl, sym, ap, ◌∙◌}
use mathlib.Core.Logic.{⊎_elim}
use mathlib.Core.List.{List, [], ◌∷◌, ◌++◌, map}
use Prim.Native.Nat.{ℕ, zero, suc, ◌+◌, ◌*◌, ◌-◌, ◌/◌, ◌%◌, ◌^◌, ◌<◌, ◌≤◌}
use native.Mathlib.Nat.{add-zero}
use native.Mathlib.Omega.{arith}
use lib.ListN.{length, take, drop, get_or, replicate, length-map, get_or-append, get_or-eq_default, drop_of_length-le}
use lib.Seq.{drop-cons, get_or-append-add}
use Rattle.theory_laws.specs.Table.{at}
use Rattle.theory_laws.specs.Lists.{part, runs, flat, le_bytes, le_value}
use Rattle.theory_laws.proofs.Table.{tab-ext, zeros-at}
use Rattle.theory_laws.proofs.Lists.{get_d_part, AllLong, length-flat, runs_of_flat, get_d_runs, length-le_bytes, le_bytes-at}
use Rattle.theory_blake3.specs.Chunk.{word, block}
use Rattle.theory_blake3.specs.Digest.{bytes_of_words32}
use Rattle.theory_laws.proofs.Numbers.{lt_or_le}

-- ---- the number that bytes of a list hold, byte by byte

le_value-more : (n i j : ℕ) (l : List ℕ) → j ≡ suc i → le_value (take (suc n) (drop i l)) ≡ le_value (take n (drop j l)) * 256 + at l i
unfolding le_value
le_value-more n i j l e =
    ⊎_elim
    (λ (h : i < length l). rw e (ap (λ (r : List ℕ). le_value (take (suc n) r)) (drop-cons l i 0 h)))
    (λ (h : length l ≤ i).
    rw (drop_of_length-le l {i = i} h, drop_of_length-le l {i = j} (omega arith), get_or-eq_default l 0 {n = i} h) (none n))
    (lt_or_le i (length l))
  where
    none : (n : ℕ) → le_value (take (suc n) []) ≡ le_value (take n []) * 256 + 0
    none zero = refl
    none (suc n) = refl

-- a word of four bytes
pub le_value-four : (i : ℕ) (l : List ℕ) → le_value (part 4 i l) ≡ at l i + at l (i + 1) * 2 ^ 8 + at l (i + 2) * 2 ^ 16 + at l (i + 3) * 2 ^ 24
unfolding part le_value
le_value-four i l =
    let first = le_value-more 3 i (i + 1) l (omega arith) in
    let second = le_value-more 2 (i + 1) (i + 2) l (omega arith) in
    let third = le_value-more 1 (i + 2) (i + 3) l (omega arith) in
    let fourth = le_value-more 0 (i + 3) (i + 4) l (omega arith) in
    omega arith

-- ---- the words of a block

-- words of two lists with the same four bytes
pub word-ext : (a b : List ℕ) (i j : ℕ) → ((k : ℕ) → k < 4 → at a (i + k) ≡ at b (j + k)) → le_value (part 4 i a) ≡ le_value (part 4 j b)
word-ext a b i j h =
    let e : at a i ≡ at b j = simp add-zero at (h 0 (omega arith)) in
    le_value-four i a ∙ (rw (e, h 1 (omega arith), h 2 (omega arith), h 3 (omega arith))) ∙ sym (le_value-four j b)

pub block-ext : (a b : List ℕ) → ((i : ℕ) → i < 64 → at a i ≡ at b i) → block a ≡ block b
unfolding block word
block-ext a b h = tab-ext 16 (λ i k. word-ext a b (4 * i) (4 * i) (λ j l. h (4 * i + j) (omega arith)))

-- zeros after a block change nothing
pub block-padded : (bs : List ℕ) (n : ℕ) → block (bs ++ replicate n 0) ≡ block bs
block-padded bs n = block-ext (bs ++ replicate n 0) bs (λ i h. padded-at i)
  where
    padded-at : (i : ℕ) → at (bs ++ replicate n 0) i ≡ at bs i
    padded-at i =
        ⊎_elim
        (λ (h : i < length bs). get_or-append bs (replicate n 0) 0 i h)
        (λ (h : length bs ≤ i).
        let e : length bs + (i - length bs) ≡ i = omega arith in
        (rw e at (get_or-append-add bs (replicate n 0) (i - length bs) 0)) ∙ zeros-at n (i - length bs) ∙ sym (get_or-eq_default bs 0 {n = i} h))
        (lt_or_le i (length bs))

-- word i of a block of 64 bytes that stands in a list
pub word_of_part : (l : List ℕ) (from i : ℕ) → i < 16 → word (part 64 from l) i ≡ le_value (part 4 (from + 4 * i) l)
unfolding word
word_of_part l from i h =
    word-ext (part 64 from l) l (4 * i) (from + 4 * i) (λ k b.
    let e : from + (4 * i + k) ≡ from + 4 * i + k = omega arith in
    get_d_part 64 from (4 * i + k) l (omega arith) ∙ ap (at l) e)

-- ---- the bytes of words

all-four : (ws : List ℕ) → AllLong 4 (map (le_bytes 4) ws)
all-four [] = tt
all-four (w ∷ ws) = (length-le_bytes 4 w, all-four ws)

pub length-bytes_of_words32 : (ws : List ℕ) → length (bytes_of_words32 ws) ≡ 4 * length ws
unfolding bytes_of_words32
length-bytes_of_words32 ws = length-flat 4 (map (le_bytes 4) ws) (all-four ws) ∙ ap (λ (n : ℕ). 4 * n) (length-map ws (le_bytes 4))

word-at : (ws : List ℕ) (k : ℕ) → k < length ws → get_or (map (le_bytes 4) ws) k [] ≡ le_bytes 4 (at ws k)
word-at [] k h = absurd (omega arith)
word-at (w ∷ ws) zero h = refl
word-at (w ∷ ws) (suc k) h = word-at ws k (omega arith)

-- byte j of word k
pub bytes_of_words32-at : (ws : List ℕ) (k j : ℕ) → k < length ws → j < 4 → at (bytes_of_words32 ws) (4 * k + j) ≡ at ws k / 256 ^ j % 256
unfolding bytes_of_words32
bytes_of_words32-at ws k j h b =
    let xs = map (le_bytes 4) ws in
    let n : length xs ≡ length ws = length-map ws (le_bytes 4) in
    let e : runs 4 (length xs) (flat xs) ≡ xs = runs_of_flat 4 (length xs) xs refl (all-four ws) in
    sym (get_d_part 4 (4 * k) j (flat xs) b)
    ∙ ap (λ (l : List ℕ). at l j) (sym (get_d_runs 4 (length xs) k (flat xs) (omega arith)) ∙ ap (λ (r : List (List ℕ)). get_or r k []) e ∙ word-at ws k h)
    ∙ le_bytes-at 4 (at ws k) j b
