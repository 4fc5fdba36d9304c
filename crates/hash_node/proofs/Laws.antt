-- What the loops of this crate leave: words and bytes place by place.
use mathlib.Core.Path.{◌≡◌, refl, sym, ap, ap₂, ◌∙◌}
use mathlib.Core.List.{List, [], ◌∷◌, ◌++◌, map, append-nil}
use Prim.Native.Nat.{ℕ, zero, suc, ◌+◌, ◌*◌, ◌-◌, ◌^◌, ◌<◌, ◌≤◌}
use native.Mathlib.Nat.{zero-add}
use native.Mathlib.Omega.{arith}
use native.Mathlib.Numerals.{add-one}
use borrow.Rule.Slice.PartMut.{put_mid}
use lib.ListN.{length, take, drop, replicate, drop_of_length-le, length-append}
use lib.Seq.{drop-cons, drop-drop, take-append-le, sets-eq}
use Rattle.std.specs.Int.{w32, to_le_bytes, from_le_bytes}
use Rattle.theory_laws.specs.Table.{tab, at}
use Rattle.theory_laws.specs.Lists.{part, stored, flat, le_bytes, le_value}
use Rattle.theory_laws.proofs.Table.{is-tab, take-tab, tab-at}
use Rattle.theory_laws.proofs.Lists.{Bytes, length_part, lent-part, get_d_part, then_stored, stored-all, stored-nil, length-le_bytes}
use Rattle.theory_laws.proofs.Bytes.{below-part}
use Rattle.bytes_numbers.proofs.Numbers.{to_le_4, from_le_4}
use Rattle.bytes_numbers.proofs.Stores.{put_mid-stored}
use Rattle.theory_blake3.specs.Flags.{start_flag}
use Rattle.theory_blake3.specs.Chunk.{word, block}
use Rattle.theory_blake3.specs.Compression.{cv}
use Rattle.theory_blake3.specs.Tree.{pair}
use Rattle.theory_blake3.specs.Digest.{bytes_of_words32}
use Rattle.theory_blake3.proofs.Words.{block-ext, block-padded, length-bytes_of_words32}

-- the word of the four bytes that were read
pub word_read : (s : List ℕ) (i : ℕ) {w : List ℕ} {r : ℕ} → i + 4 ≤ length s → Bytes s → w ≡ take (i + 4 - i) (drop i s) → r < 2 ^ 32
    → r ≡ from_le_bytes w32 w → r ≡ le_value (part 4 i s)
word_read s i {w} {r} h b e l f =
    let p : w ≡ part 4 i s = e ∙ lent-part 4 i s in
    from_le_4 (part 4 i s) r (length_part 4 i s h) (below-part 256 4 i s (omega arith) b) l (f ∙ ap (from_le_bytes w32) p)

-- the words of a block, once all are there
pub words-all : (m bs : List ℕ) → length m ≡ 16 → ((k : ℕ) → k < 16 → at m k ≡ word bs k) → m ≡ block bs
unfolding block
words-all m bs e h = is-tab m 16 (word bs) e h

-- bytes put into a block
pub filled_with : (block ys input : List ℕ) (to from n : ℕ) → length block ≡ 64 → to + n ≤ 64 → from + n ≤ length input
    → ys ≡ take (from + n - from) (drop from input) → put_mid to (to + n - to) block ys ≡ stored block to (part n from input)
filled_with block ys input to from n m h l e =
    let p : ys ≡ part n from input = e ∙ lent-part n from input in
    let z : to + n - to ≡ n = omega arith in
    rw (z, p) (put_mid-stored block to n (part n from input) (omega arith) (length_part n from input l))

-- a block is the 64 bytes at its own start
pub block-whole : (b : List ℕ) → block (part 64 0 b) ≡ block b
block-whole b = block-ext (part 64 0 b) b (λ i h. get_d_part 64 0 i b h ∙ ap (at b) (zero-add i))

drop-zeros : (k n : ℕ) → ◌≡◌ {A = List ℕ} (drop k (replicate n 0)) (replicate (n - k) 0)
drop-zeros zero n = ap (λ (m : ℕ). replicate m 0) (let e : n ≡ n - 0 = omega arith in e)
drop-zeros (suc k) zero = ap (λ (m : ℕ). replicate m 0) (let e : 0 ≡ 0 - suc k = omega arith in e)
drop-zeros (suc k) (suc n) = drop-zeros k n ∙ ap (λ (m : ℕ). replicate m 0) (let e : n - k ≡ suc n - suc k = omega arith in e)

-- the words of a block that was put into zeros
pub padded-words : {m p : List ℕ} (bs : List ℕ) → length bs ≤ 64 → m ≡ block (part 64 0 p) → p ≡ stored (replicate 64 0) 0 bs → m ≡ block bs
unfolding stored
padded-words {m} {p} bs l e f =
    let z : 0 + length bs ≤ length {A = ℕ} (replicate 64 0) = omega arith in
    e ∙ block-whole p ∙ ap block (f ∙ sets-eq bs (replicate 64 0) 0 z ∙ ap (λ (r : List ℕ). bs ++ r) (drop-zeros (0 + length bs) 64))
    ∙ block-padded bs (64 - (0 + length bs))

-- the four bytes of a word more
pub bytes-turn : (w b ys : List ℕ) (k : ℕ) (r : List ℕ) → k < 8 → length w ≡ 8 → length b ≡ 32 → ys ≡ to_le_bytes w32 (at w k)
    → stored b (4 * k) (bytes_of_words32 (drop k w)) ≡ r
    → stored (put_mid (4 * k) (4 * k + 4 - 4 * k) b ys) (4 * (k + 1)) (bytes_of_words32 (drop (k + 1) w)) ≡ r
unfolding bytes_of_words32 flat
bytes-turn w b ys k r h n m f e =
    let four = le_bytes 4 (at w k) in
    let rest = flat (map (le_bytes 4) (drop (suc k) w)) in
    let b' = put_mid (4 * k) (4 * k + 4 - 4 * k) b ys in
    let z : 4 * k + 4 - 4 * k ≡ 4 = omega arith in
    let g : ys ≡ four = f ∙ to_le_4 (at w k) in
    let p : b' ≡ stored b (4 * k) four = rw (z, g) (put_mid-stored b (4 * k) 4 four (omega arith) (length-le_bytes 4 (at w k))) in
    let j : 4 * (k + 1) ≡ 4 * k + length four = omega (arith, length-le_bytes 4 (at w k)) in
    let i : k < length w = omega arith in
    ap (λ (l : List ℕ). stored b' (4 * (k + 1)) (flat (map (le_bytes 4) l))) (ap (λ (x : ℕ). drop x w) (add-one k))
    ∙ then_stored b b' _ (4 * k) (4 * (k + 1)) four rest p j refl ∙ (rw (drop-cons w k 0 i) at e)

pub bytes-begin : (w b : List ℕ) → length w ≡ 8 → length b ≡ 32 → stored b (4 * 0) (bytes_of_words32 (drop 0 w)) ≡ bytes_of_words32 w
bytes-begin w b n m = stored-all b (bytes_of_words32 w) (length-bytes_of_words32 w ∙ omega arith)

pub bytes-end : (w b : List ℕ) (k : ℕ) → length w ≡ 8 → 8 ≤ k → stored b (4 * k) (bytes_of_words32 (drop k w)) ≡ bytes_of_words32 w → b ≡ bytes_of_words32 w
unfolding bytes_of_words32 flat
bytes-end w b k n h e = rw (drop_of_length-le w {i = k} (omega arith), stored-nil) at e

-- a block that is not the first
pub start_later : (n : ℕ) → (n ≡ 0 → ⊥) → 0 ≡ start_flag n
start_later zero h = absurd (h refl)
start_later (suc n) h = refl

-- two chaining values put into a block of zeros
pub pair_put : (l r a b : List ℕ) → length l ≡ 8 → length r ≡ 8 → a ≡ l → b ≡ r
    → put_mid 8 8 (a ++ (0 ∷ 0 ∷ 0 ∷ 0 ∷ 0 ∷ 0 ∷ 0 ∷ 0 ∷ [])) b ≡ pair l r
unfolding pair cv
pair_put l r a b n m e f =
    let zeros : List ℕ = 0 ∷ 0 ∷ 0 ∷ 0 ∷ 0 ∷ 0 ∷ 0 ∷ 0 ∷ [] in
    let w : length (l ++ zeros) ≡ 16 = length-append l zeros ∙ omega arith in
    let k : 8 ≤ length l = omega arith in
    let first : take 8 (l ++ zeros) ≡ tab 8 (at l) = take-append-le 8 l zeros k ∙ take-tab 8 l k in
    let none : drop 8 (drop 8 (l ++ zeros)) ≡ [] = drop-drop 8 8 (l ++ zeros) ∙ drop_of_length-le (l ++ zeros) {i = 16} (omega arith) in
    let second : r ++ drop 8 (drop 8 (l ++ zeros)) ≡ tab 8 (at r) = rw (none, append-nil) (sym (tab-at r) ∙ ap (λ (n : ℕ). tab n (at r)) m) in
    rw (e, f) (ap₂ (λ (x y : List ℕ). x ++ y) first second)
