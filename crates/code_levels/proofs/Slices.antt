-- A level as a part of the levels' halves: what is read there, what `fold` leaves, what is laid there.
use Prim.Native.Nat.{ℕ, zero, suc, ◌+◌, ◌-◌, ◌*◌, ◌<◌, ◌≤◌}
use mathlib.Core.Path.{◌≡◌, refl, sym, ◌∙◌, ap, ap₂}
use mathlib.Core.Bool.{Bool, true, false}
use Rattle.std.specs.Prelude.{Result, Ok, Err}
use mathlib.Core.List.{List, ◌++◌}
use native.Mathlib.Omega.{arith}
use borrow.Author.Tests.{eqb-true}
use lib.Dec.{eqb}
use lib.ListN.{length, take, drop}
use lib.Seq.{take_at, drop-drop}
use Rattle.theory_laws.specs.Lists.{part}
use Rattle.theory_laws.specs.Questions.{pick, on_done}
use Rattle.theory_laws.proofs.Lists.{length_part}
use Rattle.theory_field.specs.Words.{words}
use Rattle.theory_multilinear.specs.Fold.{fold_list}
use Rattle.theory_code.specs.Questions.{fold_number}
use Rattle.theory_laws.specs.Refusals.{answered}
use Rattle.theory_laws.specs.declared.Refusal.{Refusal}
use Rattle.code_codeword.specs.Answers.{Folded, folded, folded_of}
use Rattle.theory_record.specs.Widths.{level_length}
use Rattle.theory_record.specs.Build.{level_start}
use Rattle.theory_record.proofs.Offsets.{level-halves, level-le}
use Rattle.code_levels.specs.helpers.Levels.{laid, LevelLent}
use Rattle.code_levels.proofs.Laying.{next_start, words-laid}

-- the part of the halves that is level l
module _ (n k l : ℕ) {from size : ℕ} (ef : from ≡ 2 * level_start n k l) (es : size ≡ level_length n k l) (xs : List ℕ) where
  pub length_of_part : from + 2 * size ≤ length xs → length (take (from + 2 * size - from) (drop from xs)) ≡ 2 * size
  unfolding part
  length_of_part h =
      let d : from + 2 * size - from ≡ 2 * size = omega arith in
      ap (λ (i : ℕ). length (take i (drop from xs))) d ∙ length_part (2 * size) from xs h

  -- the words vs of that part laid
  pub part-laid : (ys : List ℕ) → from + 2 * size ≤ length xs → length ys ≡ 2 * size
      → words (take from xs ++ (ys ++ drop (from + 2 * size - from) (drop from xs))) ≡ laid n k l (words ys) (words xs)
  unfolding laid
  part-laid ys h e =
      let b : from + (from + 2 * size - from) ≡ 2 * level_start n k (suc l) = omega (arith, ef, es, next_start n k l) in
      ap₂ (λ (i : ℕ) (zs : List ℕ). words (take i xs ++ (ys ++ zs))) ef (drop-drop (from + 2 * size - from) from xs ∙ ap (λ (j : ℕ). drop j xs) b)
      ∙ words-laid (level_start n k l) (level_start n k (suc l)) size xs ys (omega (arith, ef)) e

-- the number of `fold`'s answer
number_of : (n q : ℕ) → (folded_of n q).number ≡ q
number_of n q = go (eqb q 0) refl
  where
    go : (b : Bool) → eqb q 0 ≡ b → ◌≡◌ {A = ℕ} (pick {A = Folded} b (record { number = 0; n = n - 1 }) (record { number = q; n = 0 })).number q
    go true e = sym (eqb-true q 0 e)
    go false e = refl

numbered : (a : Result ℕ Refusal) → answered a ≡ (folded a).number
numbered (Ok m) = refl
numbered (Err e) = refl

-- what a fold answers settles its number
pub number-folded : (m q : ℕ) (a : Result ℕ Refusal) → folded a ≡ folded_of m q → answered a ≡ q
number-folded m q a e = numbered a ∙ ap (λ (x : Folded). x.number) e ∙ number_of m q

-- what a fold answers, by the lengths of what it was lent
pub fold-lent : (m k original var : ℕ) (list : List ℕ) (size : ℕ) {src out room : ℕ} (a : Result ℕ Refusal)
    → folded a ≡ folded_of m (fold_number m k original var list src out) → src ≡ 2 * size → out ≡ room
    → folded a ≡ folded_of m (fold_number m k original var list (2 * size) room)
fold-lent m k original var list size a e f g = e ∙ ap₂ (λ (x y : ℕ). folded_of m (fold_number m k original var list x y)) f g

-- its number, by the same
pub fold-number : (m k original var : ℕ) (list : List ℕ) (size : ℕ) {src out room : ℕ} (a : Result ℕ Refusal)
    → folded a ≡ folded_of m (fold_number m k original var list src out) → src ≡ 2 * size → out ≡ room
    → answered a ≡ fold_number m k original var list (2 * size) room
fold-number m k original var list size a e f g = number-folded m _ a (fold-lent m k original var list size a e f g)

-- what it leaves in the front of its buffer
pub fold-front : (room q var by : ℕ) (half ys zs src vs : List ℕ) → length ys ≡ room
    → words ys ≡ on_done q (fold_list var by (words src)) (words (take room half)) → words src ≡ vs
    → words (take room (ys ++ zs)) ≡ on_done q (fold_list var by vs) (words (take room half))
fold-front room q var by half ys zs src vs l f g =
    ap words (take_at ys zs room l) ∙ f ∙ ap (λ (x : List ℕ). on_done q (fold_list var by x) (words (take room half))) g

-- a level after the first fits twice in the half
pub twice-fits : {n k l from levels half size : ℕ} → LevelLent n k l from levels half → 0 < l → size ≡ level_length n k l → 2 * size ≤ half
twice-fits {l = zero} z p es = absurd (omega arith)
twice-fits {n = n} {k = k} {l = suc l} z p es =
    let h = z.within in
    let eh = z.room.half_long in
    omega (arith, es, eh, level-halves n k l (omega arith), level-le n k l)

-- what was copied is the front of the half
pub laid_same : (n k l : ℕ) {size : ℕ} {ys : List ℕ} (half ws : List ℕ) → size ≡ level_length n k l → ys ≡ take (2 * size) half
    → laid n k l (words ys) ws ≡ laid n k l (words (take (2 * level_length n k l) half)) ws
laid_same n k l half ws e f = ap (λ (zs : List ℕ). laid n k l (words zs) ws) (f ∙ ap (λ (i : ℕ). take (2 * i) half) e)
