-- The input's sizes, its codeword, and its levels one after another.
use mathlib.Core.Path.{◌≡◌, sym, ap, ap₂, ◌∙◌}
use mathlib.Core.List.{List, ◌∷◌, ◌++◌}
use Prim.Native.Nat.{ℕ, ◌+◌, ◌-◌, ◌*◌, ◌/◌, ◌^◌, ◌≤◌, ◌<◌}
use native.Mathlib.Nat.{mul-le-mul}
use native.Mathlib.Numerals.{add-one}
use native.Mathlib.Omega.{arith}
use lib.Dec.{leb}
use borrow.Author.Tests.{leb-true, eqb-true}
use lib.Pow.{pow_mono}
use lib.ListN.{length, take, drop}
use Rattle.theory_laws.specs.Questions.{◌asks◌, on_done}
use Rattle.std.specs.Prelude.{Result, Ok, Err, IsErrAnd}
use Rattle.theory_laws.specs.Refusals.{number_of}
use Rattle.theory_laws.specs.declared.Refusal.{Refusal}
use Rattle.theory_laws.proofs.Refusals.{not-done}
use Rattle.theory_laws.specs.Table.{tab, at}
use Rattle.theory_laws.specs.Lists.{part, le_value}
use Rattle.theory_laws.proofs.Table.{at-tab, length-tab}
use Rattle.theory_laws.proofs.Questions.{all_yes}
use Rattle.theory_field.specs.Words.{words}
use Rattle.theory_multilinear.specs.Multilinear.{mle}
use Rattle.theory_multilinear.specs.Points.{add_point}
use Rattle.theory_multilinear.specs.Fold.{fold_list}
use Rattle.theory_multilinear.specs.Codeword.{shift, encode}
use Rattle.theory_multilinear.specs.Levels.{level}
use Rattle.theory_multilinear.proofs.Codeword.{length-encode}
use Rattle.theory_multilinear.proofs.Levels.{length-level, last-level-at}
use Rattle.field_bytes.specs.Words.{words_from}
use Rattle.theory_code.specs.Questions.{encode_number}
use Rattle.theory_field.proofs.Words.{take_words}
use Rattle.code_codeword.proofs.Lengths.{pow-halved, encode-done}
use Rattle.export_tail_entries.specs.declared.level.LastLevel.{LastLevel}
use Rattle.export_tail_entries.specs.Tail.{zeros, gammas_at, challenges_at, input_size, size_questions, tail_number, codeword_of, input_level, answer, tails_of}
use Rattle.export_tail_entries.specs.helpers.Room.{Whole}
use Rattle.export_tail_entries.proofs.Padded.{length_front, padded, unpadded}

-- ---- sizes

pub power_small : {e : ℕ} → e ≤ 8 → 2 ^ e ≤ 256
power_small h = pow_mono h

pub product_small : (n k : ℕ) → n + k ≤ 8 → k * n ≤ 64
product_small n k h = mul-le-mul {n₂ = 8} {m₂ = 8} (omega arith) (omega arith)

-- the challenges begin and end within the longest input
pub input_small : (n k : ℕ) → n + k ≤ 8 → challenges_at n k ≤ 5122
input_small n k h = omega (arith, power_small {e = n} (omega arith), product_small n k h)

-- where no question said no
pub whole : (s : List ℕ) → 0 ≡ tail_number s → Whole (at s 0) (at s 1) (length s) × (2 ≤ length s)
unfolding tail_number
whole s e =
    let y = all_yes ((5 asks leb 2 (length s)) ∷ size_questions (at s 0) (at s 1) (length s)) tt (sym e) in (
      record {
        k≤ = leb-true (at s 1) 4 y.1.1.0;
        n+k≤ = leb-true (at s 0 + at s 1) 8 y.1.1.1.0;
        size = eqb-true (length s) (input_size (at s 0) (at s 1)) y.1.1.1.1.0;
      },
      leb-true 2 (length s) y.0,
    )

-- ---- the codeword

pub encoded : (n k rows number : ℕ) (s table gammas out out' : List ℕ) → Whole n k (length s)
    → length table ≡ 2 * 2 ^ n → length gammas ≡ 2 * (k * n) → length out ≡ 2 * 2 ^ (n + k) → rows ≡ 2 ^ n
    → words table ≡ words_from 2 rows s → words gammas ≡ words_from (2 + 16 * rows) (k * n) s
    → number ≡ encode_number n k (length table) (length gammas) (length out)
    → words out' ≡ on_done number (encode n k (words gammas) (words table)) (words out) → words out' ≡ codeword_of n k s
unfolding codeword_of
encoded n k rows number s table gammas out out' w lt lg lo er et eg en eo =
    eo
    ∙ encode-done n k (length table) (length gammas) (length out) number _ _ en
    (record { shifts = record { n≤ = omega (arith, w.n+k≤); k≤ = w.k≤; gammas= = lg }; table= = lt }) lo
    ∙ ap₂ (encode n k)
    (eg ∙ ap (λ (r : ℕ). words_from (2 + 16 * r) (k * n) s) er)
    (et ∙ ap (λ (r : ℕ). words_from 2 r s) er)

pub length-codeword_of : (n k : ℕ) (s : List ℕ) → length (codeword_of n k s) ≡ 2 ^ (n + k)
unfolding codeword_of
length-codeword_of n k s = length-encode n k _ _

-- ---- the levels

length-input_level : (n k l m : ℕ) (s : List ℕ) → l + m ≡ n + k → length (input_level n k s l) ≡ 2 ^ m
unfolding input_level
length-input_level n k l m s e = length-level l m (codeword_of n k s) _ (length-codeword_of n k s ∙ ap (λ (x : ℕ). 2 ^ x) (sym e))

-- a level of 2^(m + k) words folded, zeros after it
pub fold-padded : (m k r half : ℕ) (from z out : List ℕ) → 0 < m → m + k ≤ 8 → half ≡ 2 ^ (m + k) → length from ≡ 512
    → z ≡ zeros 512 → length out ≡ length (take half z) → words out ≡ fold_list 0 r (words (take (2 * half) from))
    → words (out ++ drop half z) ≡ tab 256 (at (fold_list 0 r (take (2 ^ (m + k)) (words from))))
fold-padded m k r half from z out hm h eh lf ez lo eo =
    let small : half ≤ 256 = omega (arith, power_small {e = m + k} (omega arith)) in
    let front : length (take half z) ≡ half = length_front half z (omega arith) ez in
    padded (half / 2) half out z (eh ∙ pow-halved (m + k) (omega arith) ∙ ap (λ (x : ℕ). 2 * (x / 2)) (sym eh)) (omega arith) (lo ∙ front) ez
    ∙ ap (λ (x : List ℕ). tab 256 (at x))
    (eo ∙ ap (fold_list 0 r) (take_words half from ∙ ap (λ (x : ℕ). take x (words from)) eh))

-- the challenge that is read
challenge : (n k l r : ℕ) (s : List ℕ) → l < n → r ≡ le_value (part 16 (challenges_at n k + 16 * l) s) → r ≡ at (words_from (challenges_at n k) n s) l
unfolding words_from
challenge n k l r s h e = e ∙ sym (at-tab n (λ v. le_value (part 16 (challenges_at n k + 16 * v) s)) l h)

-- level l, zeros after it, is folded to level l + 1
pub next_level : (n k l r from : ℕ) (s current next : List ℕ) → l < n → n + k ≤ 8 → from ≡ challenges_at n k + 16 * l
    → r ≡ le_value (part 16 from s) → current ≡ tab 256 (at (input_level n k s l))
    → next ≡ tab 256 (at (fold_list 0 r (take (2 ^ (n - l + k)) current))) → next ≡ tab 256 (at (input_level n k s (l + 1)))
next_level n k l r from s current next h hn ef er ec en =
    en ∙ ap (λ (x : List ℕ). tab 256 (at x))
    (ap₂ (fold_list 0) (challenge n k l r s h (er ∙ ap (λ (f : ℕ). le_value (part 16 f s)) ef)) (ap (take (2 ^ (n - l + k))) ec
    ∙ unpadded (2 ^ (n - l + k)) 256 (input_level n k s l) (power_small (omega arith)) (length-input_level n k l (n - l + k) s (omega arith))) ∙ sym step)
  where
    step : input_level n k s (l + 1) ≡ fold_list 0 (at (words_from (challenges_at n k) n s) l) (input_level n k s l)
    step = unfold input_level in unfold level in rw add-one

-- entry eps of the last level is P(r + L(eps))
pub last-level-is : (n k eps : ℕ) (s : List ℕ) → eps < 2 ^ k
    → at (input_level n k s n) eps ≡ mle (at (words_from 2 (2 ^ n) s))
    (add_point (words_from (challenges_at n k) n s) (shift n k (words_from (gammas_at n) (k * n) s) eps))
unfolding input_level codeword_of
last-level-is n k eps s h =
    last-level-at n k eps (words_from (gammas_at n) (k * n) s) (words_from 2 (2 ^ n) s) (words_from (challenges_at n k) n s)
    (length-words_from (challenges_at n k) n s) h
  where
    length-words_from : (from m : ℕ) (s : List ℕ) → length (words_from from m s) ≡ m
    length-words_from from m s = unfold words_from in length-tab m _

-- ---- the answer

pub refused : (s : List ℕ) (r : Result LastLevel Refusal) (e : Refusal) → IsErrAnd r (λ y. y ≡ e) → number_of e ≡ tail_number s
    → answer r ≡ tails_of s
unfolding answer tails_of
refused s (Ok l) e i q = absurd i
refused s (Err y) e i q = rw (i, ← q, not-done e)

pub found : (s : List ℕ) (n k : ℕ) (entries : List ℕ) → 0 ≡ tail_number s → n ≡ at s 0 → k ≡ at s 1
    → words entries ≡ tab 16 (at (input_level n k s n)) → ◌≡◌ {A = ℕ × ℕ × ℕ × List ℕ} (0, n, k, words entries) (tails_of s)
unfolding tails_of
found s n k entries e en ek el = rw (el, en, ek, ← e)
