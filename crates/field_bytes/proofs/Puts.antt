-- Words put one after the other.
use Prim.Native.Nat.{ℕ, suc, ◌+◌, ◌-◌, ◌*◌, ◌≤◌, ◌<◌}
use mathlib.Core.Path.{◌≡◌, refl, sym, ◌∙◌, ap}
use mathlib.Core.List.{List, ◌∷◌, ◌++◌}
use native.Mathlib.Omega.{arith}
use native.Mathlib.Numerals.{add-one}
use lib.ListN.{length, take, drop, length-drop}
use lib.Seq.{drop-cons, length-take-le}
use Rattle.theory_laws.specs.Table.{at}
use Rattle.theory_laws.specs.Lists.{part, flat, stored, le_bytes}
use Rattle.theory_laws.proofs.Lists.{stored-nil, stored-append}
use Rattle.theory_laws.proofs.Bytes.{length-numbers, le_bytes-joined}
pub use Rattle.theory_field.proofs.Words.{words-there}
use Rattle.field_gf128.specs.Word.{word}
use Rattle.field_gf128.specs.declared.Word.{Word}
use Rattle.bytes_numbers.specs.helpers.Put.{Put}
use Rattle.bytes_numbers.proofs.Stores.{put_after, then_put, same_put}
use Rattle.field_bytes.specs.Words.{word_bytes}

-- ---- a word

pub word_put : (o : List ℕ) (from : ℕ) (o1 : List ℕ) (j : ℕ) (o2 : List ℕ) (r : ℕ) (w : Word)
    → Put o from 8 (le_bytes 8 w.lo) o1 j → Put o1 j 8 (le_bytes 8 w.hi) o2 r → w.lo < 18446744073709551616
    → Put o from 16 (le_bytes 16 (word w)) o2 r
unfolding word
word_put o from o1 j o2 r w a b h =
    let halves = le_bytes 8 w.lo ++ le_bytes 8 w.hi in
    same_put o from 16 16 halves (le_bytes 16 (word w)) o2 r refl (sym (le_bytes-joined 8 8 w.hi w.lo h))
    (then_put o from 8 _ o1 j 8 _ o2 r a b)

-- ---- words

-- what is left to store of count words from start on, from word i on
unfoldable pub words_left : List ℕ → ℕ → List ℕ → ℕ → ℕ → ℕ → List ℕ
words_left out to ws start count i = stored out to (word_bytes ws (start + i) (count - i))

pub words_begin : (out : List ℕ) (to : ℕ) (ws : List ℕ) (start count : ℕ)
    → words_left out to ws start count 0 ≡ stored out to (word_bytes ws start count)
unfolding words_left
words_begin out to ws start count =
    let e : start + 0 ≡ start = omega arith in
    let f : count - 0 ≡ count = omega arith in
    rw (e, f)

pub words_step : (out : List ℕ) (to : ℕ) (ws : List ℕ) (start count i : ℕ) (r out' : List ℕ) (k w : ℕ)
    → words_left out to ws start count i ≡ r → Put out to 16 (le_bytes 16 w) out' k → w ≡ at ws (start + i)
    → i < count → start + count ≤ length ws → words_left out' k ws start count (i + 1) ≡ r
unfolding words_left part flat
words_step out to ws start count i r out' k w e p f h n =
    let m : count - i ≡ suc (count - suc i) = omega arith in
    let s : suc (start + i) ≡ start + suc i = omega arith in
    let d : drop (start + i) ws ≡ w ∷ drop (start + suc i) ws =
    drop-cons ws (start + i) 0 (omega arith) ∙ rw (← f) (ap (λ (j : ℕ). w ∷ drop j ws) s) in
    rw (add-one, put_after p, p.bytes, ← stored-append out to (le_bytes 16 w)) (rw (m, d) at e)

pub words_put : {o out : List ℕ} {from to : ℕ} (ws : List ℕ) (start count i : ℕ)
    → words_left out to ws start count i ≡ stored o from (word_bytes ws start count) → count ≤ i → i ≤ count → to ≡ from + 16 * i
    → start + count ≤ length ws → Put o from (16 * count) (word_bytes ws start count) out to
unfolding words_left part flat
words_put {from = from} ws start count i e h g f n =
    let m : count - i ≡ 0 = omega arith in
    let c : i ≡ count = omega arith in
    record {
      bytes = rw (m, stored-nil) at e;
      size = length-numbers 16 (take count (drop start ws)) ∙ ap (λ j. 16 * j) (length-take-le count (drop start ws) (simp length-drop (omega arith)));
      end = f ∙ ap (λ j. from + 16 * j) c;
    }
