-- A list with zeros after it, as a table: past its end a list has zeros.
use mathlib.Core.Path.{◌≡◌, refl, sym, ap, ◌∙◌}
use mathlib.Core.List.{List, [], ◌∷◌, ◌++◌}
use Prim.Native.Nat.{ℕ, zero, suc, ◌+◌, ◌-◌, ◌*◌, ◌≤◌}
use native.Mathlib.Omega.{arith}
use lib.ListN.{length, take, drop, length-append, length-drop, length-replicate}
use lib.Seq.{get_or-drop, get_or-take, length-take-le}
use Rattle.theory_laws.specs.Table.{tab, at}
use Rattle.theory_laws.proofs.Table.{is-tab, tab-at, at-tab, length-tab}
use Rattle.theory_field.specs.Words.{words}
use Rattle.theory_field.proofs.Words.{at_words, length-words-even, words_append}
use Rattle.export_tail_entries.specs.Tail.{zeros}

-- every entry is 0
abbrev pub Zero : List ℕ → Type 0
Zero z = (v : ℕ) → at z v ≡ 0

pub length-zeros : (n : ℕ) → length (zeros n) ≡ n
unfolding zeros
length-zeros n = length-replicate n 0

pub zero-zeros : (n : ℕ) → Zero (zeros n)
unfolding zeros
zero-zeros zero v = refl
zero-zeros (suc n) zero = refl
zero-zeros (suc n) (suc v) = zero-zeros n v

-- of what `blank` answers
pub length_blank : (z : List ℕ) → z ≡ zeros 512 → length z ≡ 512
length_blank z e = ap length e ∙ length-zeros 512

pub length_front : (n : ℕ) (z : List ℕ) → n ≤ 512 → z ≡ zeros 512 → length (take n z) ≡ n
length_front n z h e = length-take-le n z (omega (arith, length_blank z e))

zero-drop : (n : ℕ) (z : List ℕ) → Zero z → Zero (drop n z)
zero-drop n z h v = get_or-drop n z v 0 ∙ h (n + v)

zero-words : (z : List ℕ) → Zero z → Zero (words z)
zero-words z h v = at_words z v ∙ rw (h (2 * v + 1), h (2 * v))

at-append-zero : (l z : List ℕ) → Zero z → (v : ℕ) → at (l ++ z) v ≡ at l v
at-append-zero [] z h v = h v
at-append-zero (x ∷ l) z h zero = refl
at-append-zero (x ∷ l) z h (suc v) = at-append-zero l z h v

-- n words, or the halves a, put to the front of 256 that `blank` answered
pub padded : (n halves : ℕ) (a z : List ℕ) → halves ≡ 2 * n → n ≤ 256 → length a ≡ halves → z ≡ zeros 512 → words (a ++ drop halves z) ≡ tab 256 (at (words a))
padded n halves a z eh h la ez =
    words_append a (drop halves z) n (la ∙ eh)
    ∙ is-tab (words a ++ words (drop halves z)) 256 (at (words a)) size
    (λ v _. at-append-zero (words a) (words (drop halves z)) (zero-words (drop halves z) (zero-drop halves z zero)) v)
  where
    zero : Zero z
    zero v = ap (λ (y : List ℕ). at y v) ez ∙ zero-zeros 512 v

    size : length (words a ++ words (drop halves z)) ≡ 256
    size =
        length-append (words a) (words (drop halves z))
        ∙ omega (arith, length-words-even a n (la ∙ eh), length-words-even (drop halves z) (256 - n) (omega (arith, length-drop halves z, length_blank z ez)))

-- and read back
pub unpadded : (n m : ℕ) (l : List ℕ) → n ≤ m → length l ≡ n → take n (tab m (at l)) ≡ l
unpadded n m l h e =
    is-tab (take n (tab m (at l))) n (at l) (length-take-le n (tab m (at l)) (omega (arith, length-tab m (at l))))
    (λ v k. get_or-take n (tab m (at l)) v 0 k ∙ at-tab m (at l) v (omega arith))
    ∙ ap (λ (j : ℕ). tab j (at l)) (sym e) ∙ tab-at l

-- shorter still
pub take-padded : (n m : ℕ) (l : List ℕ) → n ≤ m → take n (tab m (at l)) ≡ tab n (at l)
take-padded n m l h =
    is-tab (take n (tab m (at l))) n (at l) (length-take-le n (tab m (at l)) (omega (arith, length-tab m (at l))))
    (λ v k. get_or-take n (tab m (at l)) v 0 k ∙ at-tab m (at l) v (omega arith))
