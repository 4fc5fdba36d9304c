-- Parts of the codeword that lie within a block: a block, and half a block. A half of a block is the block, under the coordinates but the last, of
-- the table folded at its last variable; and a half of block 0 is half the table.
use Prim.Native.Nat.{ℕ, zero, suc, ◌+◌, ◌*◌, ◌/◌, ◌%◌, ◌^◌, ◌≤◌, ◌<◌}
use mathlib.Core.Path.{◌≡◌, refl, sym, ap, ap₂, ◌∙◌}
use mathlib.Core.Logic.{⊎_elim}
use mathlib.Core.List.{List, ◌∷◌}
use native.Mathlib.Nat.{zero-mul, suc-mul, mul_comm, mul_assoc, mul_left_comm, add-mul, mul-le-mul_right, div-add-mod'}
use native.Mathlib.Omega.{arith}
use lib.Pow.{pow-add, pow_pos}
use lib.ListN.{length, take, drop}
use lib.Seq.{take_all}
use Rattle.theory_laws.specs.Xor.{◌⊕◌, bit}
use Rattle.theory_laws.specs.Lists.{part}
use Rattle.theory_laws.specs.Table.{tab, at}
use Rattle.theory_laws.specs.Places.{ins}
use Rattle.theory_laws.proofs.Xor.{bit-cases}
use Rattle.theory_laws.proofs.Numbers.{pow-two}
use Rattle.theory_laws.proofs.Lists.{part_same}
use Rattle.theory_laws.proofs.Table.{length-tab, at-tab, tab-ext}
use Rattle.theory_laws.proofs.Places.{ins-at}
use Rattle.theory_laws.proofs.Parts.{part-tab}
use Rattle.theory_field.specs.Words.{words}
use Rattle.theory_field.proofs.Words.{length-words-even, take_words, drop-words}
use Rattle.theory_multilinear.specs.Points.{vertex, add_point}
use Rattle.theory_multilinear.specs.Fold.{fold_at, fold_list}
use Rattle.theory_multilinear.specs.Folds.{dropped_at}
use Rattle.theory_multilinear.specs.Codeword.{shift_at, shift, block, in_blocks, encode}
use Rattle.theory_multilinear.proofs.Points.{add_point-tab}
use Rattle.theory_multilinear.proofs.Multilinear.{mle-ext}
use Rattle.theory_multilinear.proofs.Fold.{line-zero, line-one}
use Rattle.theory_multilinear.proofs.Block.{block-lt, fold_at-block}
use Rattle.theory_multilinear.proofs.Codeword.{in_blocks-at}
use Rattle.code_codeword.specs.Answers.{block_of}
use Rattle.code_codeword.specs.helpers.Shifted.{shifted_of}
use Rattle.code_codeword.proofs.Blocks.{block_of_zero}
use Rattle.code_parts.proofs.Lengths.{twice}

-- m words from word w of block eps on
within_block : (n k eps w m : ℕ) (g t : List ℕ) → eps < 2 ^ k → w + m ≤ 2 ^ n
    → part m (eps * 2 ^ n + w) (encode n k g t) ≡ tab m (λ v. block (shift n k g eps) (at t) (w + v))
unfolding encode
within_block n k eps w m g t h l =
    let F : ℕ → ℕ → ℕ = λ e. block (shift n k g e) (at t) in
    let within : eps * 2 ^ n + w + m ≤ 2 ^ (n + k) = omega (
      arith,
      suc-mul eps (2 ^ n),
      mul-le-mul_right (2 ^ n) h,
      mul_comm (2 ^ k) (2 ^ n),
      pow-add 2 n k,
    ) in
    part-tab m (eps * 2 ^ n + w) (2 ^ (n + k)) (in_blocks n F) within
    ∙ tab-ext m (λ v b. ap (in_blocks n F) (let z : eps * 2 ^ n + w + v ≡ eps * 2 ^ n + (w + v) = omega arith in z)
    ∙ in_blocks-at n eps (w + v) F (omega arith))

-- ---- a block

pub block-part : (n k eps : ℕ) (g t : List ℕ) → eps < 2 ^ k → block_of n k g eps t ≡ part (2 ^ n) (eps * 2 ^ n) (encode n k g t)
unfolding block_of
block-part n k eps g t h =
    sym (ap (λ (i : ℕ). part (2 ^ n) i (encode n k g t)) (let z : eps * 2 ^ n ≡ eps * 2 ^ n + 0 = omega arith in z)
    ∙ within_block n k eps 0 (2 ^ n) g t h (omega arith)
    ∙ tab-ext (2 ^ n) (λ v b. ap (block (shift n k g eps) (at t)) (let z : 0 + v ≡ v = omega arith in z)))

-- ---- half a block

-- a fold by a bit takes, of each pair, the entry with that bit
fold_by_bit : (i b : ℕ) (t : ℕ → ℕ) (v : ℕ) → ((w : ℕ) → t w < 2 ^ 128) → b < 2 → fold_at i b t v ≡ t (ins i b v)
unfolding fold_at
fold_by_bit i b t v lt h =
    ⊎_elim (λ e. rw e (line-zero (t (ins i 0 v)) (t (ins i 1 v))))
    (λ e. rw e (line-one (t (ins i 0 v)) (t (ins i 1 v)) (lt (ins i 0 v)) (lt (ins i 1 v)))) (bit-cases b h)

-- the last bit put in
last-place : (m b v : ℕ) → b < 2 → v < 2 ^ m → ins m b v ≡ b * 2 ^ m + v
last-place m b v h l =
    ap (ins m b) (let z : v ≡ 0 * 2 ^ m + v = omega arith in z) ∙ ins-at m 0 v b h l
    ∙ (let z : 0 * 2 ^ suc m + b * 2 ^ m + v ≡ b * 2 ^ m + v = omega arith in z)

drop-last : (m : ℕ) (f : ℕ → ℕ) → dropped_at m (tab (suc m) f) ≡ tab m f
unfolding dropped_at tab
drop-last zero f = refl
drop-last (suc m) f = ap (λ (r : List ℕ). f 0 ∷ r) (drop-last m (λ i. f (suc i)))

-- half b of a block of 2^(m + 1) entries
half_of_block : (m b v : ℕ) (f t : ℕ → ℕ) → b < 2 → v < 2 ^ m
    → block (tab (suc m) f) t (b * 2 ^ m + v) ≡ block (tab m f) (fold_at m (b ⊕ f m) t) v
half_of_block m b v f t h l =
    let ds = tab (suc m) f in
    ap (block ds t) (sym (last-place m b v h l))
    ∙ sym (fold_by_bit m b (block ds t) v (block-lt ds t) h)
    ∙ ap (λ (u : ℕ → ℕ). u v) (fold_at-block m b ds t (omega (arith, length-tab (suc m) f)))
    ∙ ap₂ (λ (es : List ℕ) (d : ℕ). block es (fold_at m (b ⊕ d) t) v) (drop-last m f) (at-tab (suc m) f m (omega arith))

-- a block is settled by the entries of its table
length_point : (m v : ℕ) (f : ℕ → ℕ) → length (add_point (vertex (length (tab m f)) v) (tab m f)) ≡ m
unfolding vertex
length_point m v f =
    ap (λ (n : ℕ). length (add_point (vertex n v) (tab m f))) (length-tab m f)
    ∙ ap length (add_point-tab m (λ i. bit i v) f) ∙ length-tab m (λ i. bit i v ⊕ f i)

block-ext : (m v : ℕ) (f : ℕ → ℕ) {t u : ℕ → ℕ} → ((w : ℕ) → w < 2 ^ m → t w ≡ u w) → block (tab m f) t v ≡ block (tab m f) u v
unfolding block
block-ext m v f same = mle-ext (add_point (vertex (length (tab m f)) v) (tab m f)) (λ w l. same w (rw (length_point m v f) at l))

-- ---- where a half begins

bit-times : (half x : ℕ) → half % 2 * x ≤ x
bit-times half x = omega (arith, mul-le-mul_right x (let z : half % 2 ≤ 1 = omega arith in z))

half_place : (half m : ℕ) → half / 2 * 2 ^ suc m + half % 2 * 2 ^ m ≡ half * 2 ^ m
half_place half m =
    sym (ap (λ (h : ℕ). h * 2 ^ m) (sym (div-add-mod' half 2)) ∙ add-mul (half / 2 * 2) (half % 2) (2 ^ m)
    ∙ ap (λ (y : ℕ). y + half % 2 * 2 ^ m) (mul_assoc (half / 2) 2 (2 ^ m) ∙ ap (◌*◌ (half / 2)) (sym (pow-two m))))

-- so the fold of the table, shifted by the coordinates that are left, is the half
half-made : (m k half : ℕ) (g t : List ℕ) → half < 2 ^ (k + 1) → length t ≡ 2 ^ suc m
    → shifted_of m (suc m) k g (half / 2) (fold_list m (half % 2 ⊕ shift_at (suc m) k g (half / 2) m) t)
    ≡ part (2 ^ m) (half * 2 ^ m) (encode (suc m) k g t)
unfolding shifted_of shift fold_list
half-made m k half g t b l =
    let F = shift_at (suc m) k g (half / 2) in
    let r = half % 2 ⊕ F m in
    let block< : half / 2 < 2 ^ k = omega (arith, twice k) in
    let ends : half % 2 * 2 ^ m + 2 ^ m ≤ 2 ^ suc m = omega (arith, pow-two m, bit-times half (2 ^ m)) in
    tab-ext (2 ^ m) (λ v c. block-ext m v F (λ w d. at-tab (length t / 2) (fold_at m r (at t)) w (omega (arith, pow-two m)))
    ∙ sym (half_of_block m (half % 2) v F (at t) (omega arith) c))
    ∙ sym (within_block (suc m) k (half / 2) (half % 2 * 2 ^ m) (2 ^ m) g t block< ends)
    ∙ ap (λ (i : ℕ). part (2 ^ m) i (encode (suc m) k g t)) (half_place half m)

pub half-part : (m n k half : ℕ) (g t : List ℕ) → n ≡ suc m → half < 2 ^ (k + 1) → length t ≡ 2 ^ n
    → shifted_of m n k g (half / 2) (fold_list m (half % 2 ⊕ shift_at n k g (half / 2) m) t) ≡ part (2 ^ m) (half * 2 ^ m) (encode n k g t)
half-part m n k half g t e b l = rw e (half-made m k half g t b (rw e at l))

-- ---- the table

words-part : (c a : ℕ) (l : List ℕ) → words (part (2 * c) (2 * a) l) ≡ part c a (words l)
unfolding part
words-part c a l = take_words c (drop (2 * a) l) ∙ ap (take c) (drop-words a l)

-- the codeword begins with the table
begins : (n k : ℕ) (g t : List ℕ) → length t ≡ 2 ^ n → ((v : ℕ) → at t v < 2 ^ 128) → take (2 ^ n) (encode n k g t) ≡ t
unfolding part
begins n k g t l lt =
    ap (λ (i : ℕ). take (2 ^ n) (drop i (encode n k g t))) (sym (zero-mul (2 ^ n)))
    ∙ sym (block-part n k 0 g t (pow_pos k)) ∙ block_of_zero n k g 0 t refl l lt

-- so the halves of block 0 are those of the table
pub table_half : (m n k half : ℕ) (g l : List ℕ) → n ≡ suc m → half < 2 → length l ≡ 2 * 2 ^ n → ((v : ℕ) → at (words l) v < 2 ^ 128)
    → words (part (2 * 2 ^ m) (half * (2 * 2 ^ m)) l) ≡ part (2 ^ m) (half * 2 ^ m) (encode n k g (words l))
table_half m n k half g l e b s lt =
    let t = words l in
    let size : length t ≡ 2 ^ n = length-words-even l (2 ^ n) s in
    ap (λ (i : ℕ). words (part (2 * 2 ^ m) i l)) (mul_left_comm half 2 (2 ^ m)) ∙ words-part (2 ^ m) (half * 2 ^ m) l
    ∙ part_same (2 ^ n) (2 ^ m) (half * 2 ^ m) t (encode n k g t)
    (take_all (2 ^ n) t (omega arith) ∙ sym (begins n k g t size lt))
    (omega (arith, ap (◌^◌ 2) e, pow-two m, mul-le-mul_right (2 ^ m) (let z : half ≤ 1 = omega arith in z)))
