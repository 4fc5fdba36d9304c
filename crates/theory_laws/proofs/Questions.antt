-- Questions in order, in the form in which a chain of `if .. { return NUMBER; }` asks for them: `search asks depth D fits F`.
use Prim.Native.Nat.{ℕ, ◌<◌, ◌≤◌}
use mathlib.Core.Path.{◌≡◌, refl, sym, ◌∙◌, ap}
use mathlib.Core.Bool.{Bool, true, false, not}
use mathlib.Core.List.{List, [], ◌∷◌, ◌++◌}
use native.Mathlib.Omega.{arith}
use borrow.Author.Tests.{le-ltb, le-leb, lt-leb, eq-eqb, ne_eqb, eqb-true, eqb-false, not-true, not-false}
use mathlib.Core.Logic.{◌⊎◌, inl, inr}
use lib.Dec.{T, leb, ltb, eqb}
use Rattle.theory_laws.specs.Questions.{pick, both, Question, first_no, on_done}
use Rattle.theory_laws.specs.Lists.{same}
use Rattle.theory_laws.proofs.Lists.{same_refl, both_true}

-- the questions, one after the other, applied backwards
module _ {A : Type 0} (r x y : A) where
  pub yes_le : (a b : ℕ) → a ≤ b → r ≡ x → r ≡ pick (leb a b) x y
  yes_le a b h e = rw (le-leb a b h) e

  pub no_le : (a b : ℕ) → b < a → r ≡ y → r ≡ pick (leb a b) x y
  no_le a b h e = rw (lt-leb a b h) e

  pub no_lt : (a b : ℕ) → b ≤ a → r ≡ y → r ≡ pick (ltb a b) x y
  no_lt a b h e = rw (le-ltb a b h) e

  pub yes_eq : (a b : ℕ) → a ≡ b → r ≡ x → r ≡ pick (eqb a b) x y
  yes_eq a b h e = rw (eq-eqb a b h) e

  pub no_eq : (a b : ℕ) → (a ≡ b → ⊥) → r ≡ y → r ≡ pick (eqb a b) x y
  no_eq a b h e = rw (ne_eqb a b h) e

  -- a question that a function answered, by what it ensures of its result q and by the branch on `!q`
  pub yes_said : (q b : Bool) → q ≡ b → not q ≡ false → r ≡ x → r ≡ pick b x y
  yes_said q b f h e = rw (← f, not-false q h) e

  pub no_said : (q b : Bool) → q ≡ b → not q ≡ true → r ≡ y → r ≡ pick b x y
  no_said q b f h e = rw (← f, not-true q h) e

  -- a number that a function gave, by what it ensures of it and by the branch on it
  pub yes_zero : (q v : ℕ) → q ≡ v → q ≡ 0 → r ≡ x → r ≡ pick (eqb v 0) x y
  yes_zero q v f h e = rw (eq-eqb v 0 (sym f ∙ h)) e

  pub no_zero : (q v : ℕ) → q ≡ v → (q ≡ 0 → ⊥) → r ≡ y → r ≡ pick (eqb v 0) x y
  no_zero q v f h e = rw (ne_eqb v 0 (λ z. h (f ∙ z))) e

pub zero-said : (q v : ℕ) → q ≡ v → q ≡ 0 → 0 ≡ v
zero-said q v f h = sym h ∙ f

pub ruleset asks = (zero-said, yes_le, no_le, no_lt, yes_eq, no_eq, yes_said, no_said, yes_zero, no_zero)

-- a question that compares a number with one that a function gave: `search (asks, asks-given)`
module _ {A : Type 0} (r x y : A) where
  pub yes_eq-given : (a b q : ℕ) → q ≡ b → a ≡ q → r ≡ x → r ≡ pick (eqb a b) x y
  yes_eq-given a b q f h e = yes_eq r x y a b (h ∙ f) e

  pub no_eq-given : (a b q : ℕ) → q ≡ b → (a ≡ q → ⊥) → r ≡ y → r ≡ pick (eqb a b) x y
  no_eq-given a b q f h e = no_eq r x y a b (λ z. h (z ∙ sym f)) e

pub ruleset asks-given = (yes_eq-given, no_eq-given)

-- where no question said no, each said yes
abbrev pub Numbered : List Question → Bool
Numbered [] = true
Numbered (q ∷ qs) = pick (eqb q.number 0) false (Numbered qs)

-- a chain in two parts: the second is put where the first says no 'no'
pub first_no-append : (xs ys : List Question) → T (Numbered xs) → first_no (xs ++ ys) ≡ pick (eqb (first_no xs) 0) (first_no ys) (first_no xs)
first_no-append [] ys t = refl
first_no-append (q ∷ xs) ys t = go q.yes? (eqb q.number 0) refl t (first_no-append xs ys)
  where
    go : (b z : Bool) → eqb q.number 0 ≡ z → T (pick z false (Numbered xs))
        → (T (Numbered xs) → first_no (xs ++ ys) ≡ pick (eqb (first_no xs) 0) (first_no ys) (first_no xs))
        → pick b (first_no (xs ++ ys)) q.number ≡ pick (eqb (pick b (first_no xs) q.number) 0) (first_no ys) (pick b (first_no xs) q.number)
    go true true e u ih = absurd u
    go true false e u ih = ih u
    go false true e u ih = absurd u
    go false false e u ih = rw e

abbrev pub AllYes : List Question → Type 0
AllYes [] = Unit
AllYes (q ∷ qs) = (q.yes? ≡ true) × AllYes qs

passed : (b : Bool) (n rest : ℕ) (m : Bool) → T (pick (eqb n 0) false m) → pick b rest n ≡ 0 → (b ≡ true) × (rest ≡ 0) × T m
passed true n rest m t e = (refl, e, go (eqb n 0) t)
  where
    go : (z : Bool) → T (pick z false m) → T m
    go true u = absurd u
    go false u = u
passed false n rest m t e = absurd (go (eqb n 0) (eq-eqb n 0 e) t)
  where
    go : (z : Bool) → z ≡ true → T (pick z false m) → ⊥
    go true f u = u
    go false f u = let w : ◌≡◌ {A = ℕ} 0 1 = cc in omega arith

pub all_yes : (qs : List Question) → T (Numbered qs) → first_no qs ≡ 0 → AllYes qs
all_yes [] t e = tt
all_yes (q ∷ qs) t e =
    let p = passed q.yes? q.number (first_no qs) (Numbered qs) t e in
    (p.0, all_yes qs p.2 p.1)

module _ (xs ys : List Question) (q : ℕ) (t : T (Numbered xs)) (e : q ≡ first_no xs) where
  pub first_stops : (q ≡ 0 → ⊥) → q ≡ first_no (xs ++ ys)
  first_stops z = sym (first_no-append xs ys t ∙ rw (← e, ne_eqb q 0 z))

  pub first_passes : (r : ℕ) → q ≡ 0 → r ≡ first_no ys → r ≡ first_no (xs ++ ys)
  first_passes r z f = f ∙ sym (first_no-append xs ys t ∙ rw (← e, eq-eqb q 0 z))

-- where each question says yes, none says no
pub yes_all : (qs : List Question) → AllYes qs → first_no qs ≡ 0
yes_all [] h = refl
yes_all (q ∷ qs) h = rw h.0 (yes_all qs h.1)

-- a question that says yes can be left out
pub left_out : (xs ys : List Question) (q : Question) → q.yes? ≡ true → first_no (xs ++ ys) ≡ first_no (xs ++ q ∷ ys)
left_out [] ys q h = rw h
left_out (x ∷ xs) ys q h = ap (λ (r : ℕ). pick x.yes? r x.number) (left_out xs ys q h)

-- all of a list in two parts
pub yes_append : (xs ys : List Question) → AllYes xs → AllYes ys → AllYes (xs ++ ys)
yes_append [] ys h k = k
yes_append (x ∷ xs) ys h k = (h.0, yes_append xs ys h.1 k)

pub append_yes : (xs ys : List Question) → AllYes (xs ++ ys) → AllYes xs × AllYes ys
append_yes [] ys h = (tt, h)
append_yes (x ∷ xs) ys h = let r = append_yes xs ys h.1 in ((h.0, r.0), r.1)

pub true_both : (a b : Bool) → a ≡ true → b ≡ true → both a b ≡ true
true_both a b e f = rw (e, f)

-- ---- a test of numbers that every question's number passes

abbrev pub numbers_pass : (ℕ → Bool) → List Question → Bool
numbers_pass t [] = true
numbers_pass t (q ∷ qs) = both (t q.number) (numbers_pass t qs)

pub pass-append : (t : ℕ → Bool) (xs ys : List Question) → numbers_pass t xs ≡ true → numbers_pass t ys ≡ true → numbers_pass t (xs ++ ys) ≡ true
pass-append t [] ys h k = k
pass-append t (q ∷ xs) ys h k =
    let a = both_true (t q.number) (numbers_pass t xs) h in
    true_both (t q.number) (numbers_pass t (xs ++ ys)) a.0 (pass-append t xs ys a.1 k)

-- where 0 passes it, so does the answer
pub answer-passes : (t : ℕ → Bool) → t 0 ≡ true → (qs : List Question) → numbers_pass t qs ≡ true → t (first_no qs) ≡ true
answer-passes t z [] h = z
answer-passes t z (q ∷ qs) h =
    let a = both_true (t q.number) (numbers_pass t qs) h in
    go q.yes? a.0 (answer-passes t z qs a.1)
  where
    go : (b : Bool) → t q.number ≡ true → t (first_no qs) ≡ true → t (pick b (first_no qs) q.number) ≡ true
    go true h rest = rest
    go false h rest = h

-- ---- tests

-- tests that ask the same
pub eqb_iff : (a b c d : ℕ) → (a ≡ b → c ≡ d) → (c ≡ d → a ≡ b) → eqb a b ≡ eqb c d
eqb_iff a b c d f g = go (eqb a b) refl
  where
    go : (t : Bool) → eqb a b ≡ t → eqb a b ≡ eqb c d
    go true e = e ∙ sym (eq-eqb c d (f (eqb-true a b e)))
    go false e = e ∙ sym (ne_eqb c d (λ z. eqb-false a b e (g z)))

pub same_yes : (a b : List ℕ) → a ≡ b → same a b ≡ true
same_yes a b e = rw e (same_refl b)

-- ---- questions that all have one number

abbrev pub AllNumbered : ℕ → List Question → Type 0
AllNumbered v [] = Unit
AllNumbered v (q ∷ qs) = (q.number ≡ v) × AllNumbered v qs

-- the first 'no' among them gives that number
pub one_number : (v : ℕ) (qs : List Question) → AllNumbered v qs → (first_no qs ≡ 0) ⊎ (first_no qs ≡ v)
one_number v [] h = inl refl
one_number v (q ∷ qs) h = go q.yes? (one_number v qs h.1)
  where
    go : (b : Bool) → (first_no qs ≡ 0) ⊎ (first_no qs ≡ v) → (pick b (first_no qs) q.number ≡ 0) ⊎ (pick b (first_no qs) q.number ≡ v)
    go true e = e
    go false e = inr h.0

-- where an entry refused
pub on_refused : {A : Type 0} (q : ℕ) (x y : A) → (q ≡ 0 → ⊥) → on_done q x y ≡ y
on_refused q x y h = rw (ne_eqb q 0 h)
