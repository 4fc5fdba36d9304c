-- Words of a slice by their place: read, stored, counted; and the words settle the slice.
use mathlib.Core.Path.{◌≡◌, refl, sym, ap, ap₂, ◌∙◌, subst}
use mathlib.Core.List.{List, [], ◌∷◌, ◌++◌}
use Prim.Native.Nat.{ℕ, zero, suc, ◌+◌, ◌*◌, ◌/◌, ◌%◌, ◌^◌, ◌≤◌, ◌<◌}
use native.Mathlib.Numerals.{add-one}
use native.Mathlib.Omega.{arith}
use lib.Arith.{digits_div, digits_mod, digits_lt}
use lib.ListN.{length, set, take, drop, replicate, length-drop}
use Rattle.theory_laws.specs.Table.{tab, at}
use Rattle.theory_laws.proofs.Table.{is-tab, zeros-at}
use Rattle.theory_laws.proofs.Updates.{fill_step}
use Rattle.theory_field.specs.Words.{joined, words}
use lib.Seq.{take-nil, drop-nil, take-add, drop-drop, length-take-le}
use Rattle.theory_laws.specs.Lists.{part, le_value}
use Rattle.theory_laws.proofs.Bytes.{le_value-append}

two-more : (p : ℕ) → 2 * suc p ≡ suc (suc (2 * p))
two-more p = omega arith

pub at_words : (l : List ℕ) (p : ℕ) → at (words l) p ≡ joined (at l (2 * p + 1)) (at l (2 * p))
unfolding words
at_words [] p = refl
at_words (a ∷ []) zero = omega arith
at_words (a ∷ []) (suc p) = rw (two-more p, add-one)
at_words (a ∷ b ∷ l) zero = refl
at_words (a ∷ b ∷ l) (suc p) = rw (two-more p, add-one) (at_words l p ∙ rw add-one)

pub set_words : (l : List ℕ) (p a b : ℕ) → 2 * p + 1 < length l → words (set (set l (2 * p) a) (2 * p + 1) b) ≡ set (words l) p (joined b a)
unfolding words
set_words [] p a b h = absurd (omega arith)
set_words (x ∷ []) p a b h = absurd (omega arith)
set_words (x ∷ y ∷ l) zero a b h = refl
set_words (x ∷ y ∷ l) (suc p) a b h = rw (two-more p, add-one) (ap (λ (r : List ℕ). joined y x ∷ r) (rw add-one at (set_words l p a b (omega arith))))

pub length-words : (l : List ℕ) → length (words l) ≡ (length l + 1) / 2
unfolding words
length-words [] = refl
length-words (a ∷ []) = refl
length-words (a ∷ b ∷ l) = omega (arith, length-words l)

-- a slice of 2 × m halves has m words
pub length-words-even : (l : List ℕ) (m : ℕ) → length l ≡ 2 * m → length (words l) ≡ m
length-words-even l m h = omega (arith, length-words l)

-- and a longer one has them
pub words-there : (l : List ℕ) (m : ℕ) → 2 * m ≤ length l → m ≤ length (words l)
words-there l m h = omega (arith, length-words l)

-- a run of words out of a slice
pub take_words : (n : ℕ) (l : List ℕ) → words (take (2 * n) l) ≡ take n (words l)
unfolding words
take_words zero l = refl
take_words (suc n) [] = rw two-more
take_words (suc n) (x ∷ []) = rw two-more (ap (λ (r : List ℕ). x ∷ r) (sym (take-nil n)))
take_words (suc n) (x ∷ y ∷ l) = rw two-more (ap (λ (r : List ℕ). joined y x ∷ r) (take_words n l))

pub drop-words : (n : ℕ) (l : List ℕ) → words (drop (2 * n) l) ≡ drop n (words l)
unfolding words
drop-words zero l = refl
drop-words (suc n) [] = rw two-more
drop-words (suc n) (x ∷ []) = rw two-more (sym (drop-nil n))
drop-words (suc n) (x ∷ y ∷ l) = rw two-more (drop-words n l)

-- every half is a u64
abbrev pub Halves : List ℕ → Type 0
Halves l = (k : ℕ) → at l k < 2 ^ 64

-- the words of a slice are words, and those of slices end to end
pub words-lt : (l : List ℕ) → Halves l → (v : ℕ) → at (words l) v < 2 ^ 128
words-lt l h v = rw (at_words l v) (digits_lt {m = 2 ^ 64} {c = 2 ^ 64} (h (2 * v + 1)) (h (2 * v)))

pub words_append : (l m : List ℕ) (n : ℕ) → length l ≡ 2 * n → words (l ++ m) ≡ words l ++ words m
unfolding words
words_append [] m n e = refl
words_append (a ∷ []) m n e = absurd (omega arith)
words_append (a ∷ b ∷ l) m zero e = absurd (omega arith)
words_append (a ∷ b ∷ l) m (suc n) e = ap (λ (r : List ℕ). joined b a ∷ r) (words_append l m n (omega arith))

-- words of a slice of zeros
pub at-zeros : (n k : ℕ) → at (words (replicate n 0)) k ≡ 0
at-zeros n k = at_words (replicate n 0) k ∙ ap₂ (λ h l. joined h l) (zeros-at n (2 * k + 1)) (zeros-at n (2 * k))

-- a word by its halves, as code reads it
pub word_by_halves : (i : ℕ) (t : List ℕ) → i + 16 ≤ length t → le_value (part 16 i t) ≡ joined (le_value (part 8 (i + 8) t)) (le_value (part 8 i t))
unfolding part
word_by_halves i t h =
    let e : length (take 8 (drop i t)) ≡ 8 = length-take-le 8 (drop i t) (simp length-drop (omega arith)) in
    ap le_value (take-add 8 8 (drop i t)) ∙ le_value-append (take 8 (drop i t)) (take 8 (drop 8 (drop i t))) ∙ rw (e, drop-drop 8 i t)

-- ---- the words settle the slice

pub same-joined : (a b c d : ℕ) → b < 2 ^ 64 → d < 2 ^ 64 → joined a b ≡ joined c d → (a ≡ c) × (b ≡ d)
same-joined a b c d hb hd e = (
  sym (digits_div a hb) ∙ ap (λ (x : ℕ). x / 2 ^ 64) e ∙ digits_div c hd,
  sym (digits_mod a hb) ∙ ap (λ (x : ℕ). x % 2 ^ 64) e ∙ digits_mod c hd,
)

pub words_settle : (l m : List ℕ) → length l ≡ length m → Halves l → Halves m → words l ≡ words m → l ≡ m
unfolding words
words_settle [] [] n hl hm e = refl
words_settle [] (y ∷ m) n hl hm e = absurd (omega arith)
words_settle (x ∷ l) [] n hl hm e = absurd (omega arith)
words_settle (x ∷ []) (y ∷ []) n hl hm e = e
words_settle (x ∷ []) (y ∷ z ∷ m) n hl hm e = absurd (omega arith)
words_settle (x ∷ z ∷ l) (y ∷ []) n hl hm e = absurd (omega arith)
words_settle (x ∷ a ∷ l) (y ∷ b ∷ m) n hl hm e =
    let h = same-joined a x b y (hl 0) (hm 0) (ap (λ (r : List ℕ). at r 0) e) in
    ap₂ (λ (u : ℕ) (r : List ℕ). u ∷ r) h.1
    (ap₂ (λ (u : ℕ) (r : List ℕ). u ∷ r) h.0
    (words_settle l m (omega arith) (λ k. hl (suc (suc k))) (λ k. hm (suc (suc k))) (ap (drop 1) e)))

-- ---- a slice of words that a loop fills from the front, a word a turn

-- the first i words are those of f
abbrev pub Filled : (ℕ → ℕ) → ℕ → List ℕ → Type 0
Filled f i l = (k : ℕ) → k < i → at (words l) k ≡ f k

-- a turn
pub filled_more : (f : ℕ → ℕ) (i w : ℕ) (l l' : List ℕ) → 2 * i + 1 < length l → words l' ≡ set (words l) i w → w ≡ f i → Filled f i l
    → Filled f (i + 1) l'
filled_more f i w l l' h e g p =
    subst (λ (ws : List ℕ). (k : ℕ) → k < i + 1 → at ws k ≡ f k) (sym e) (fill_step f i (words l) w (omega (arith, length-words l)) g p)

-- after the last turn
pub filled_all : (f : ℕ → ℕ) (i m : ℕ) (l : List ℕ) → length l ≡ 2 * m → m ≤ i → Filled f i l → words l ≡ tab m f
filled_all f i m l h k p = is-tab (words l) m f (length-words-even l m h) (λ v j. p v (omega arith))
