-- Level domains: at most nine bytes longer than the base domain for the levels that there are, and each level has its own.
use Prim.Native.Nat.{ℕ, zero, suc, ◌+◌, ◌-◌, ◌*◌, ◌/◌, ◌%◌, ◌<◌, ◌≤◌}
use mathlib.Core.Path.{◌≡◌, refl, sym, ◌∙◌, ap}
use mathlib.Core.Bool.{Bool, true, false}
use mathlib.Core.List.{List, [], ◌∷◌, ◌++◌}
use native.Mathlib.Omega.{arith}
use native.Mathlib.Decide.{dec_lt}
use borrow.Author.Tests.{lt-ltb, le-ltb, ltb-false}
use lib.Dec.{ltb}
use lib.ListN.{length, get_or, drop, length-append, get_or-append}
use lib.Seq.{drop_at}
use Rattle.theory_laws.specs.Questions.{pick}
use Rattle.theory_record.specs.Domain.{digit, decimal_within, decimal, level_mark, level_domain, domain_room}

-- a number of more than one digit: those before the last, and the last
abbrev longer : ℕ → ℕ → List ℕ
longer most x = decimal_within most (x / 10) ++ (digit (x % 10) ∷ [])

-- ---- a number in decimal is read back

-- what digits come to, after digits that came to v
unfoldable pub decimal_value : ℕ → List ℕ → ℕ
decimal_value v [] = v
decimal_value v (d ∷ ds) = decimal_value (v * 10 + (d - 48)) ds

value-append : (v : ℕ) (ds : List ℕ) (d : ℕ) → decimal_value v (ds ++ (d ∷ [])) ≡ decimal_value v ds * 10 + (d - 48)
unfolding decimal_value
value-append v [] d = refl
value-append v (e ∷ ds) d = value-append (v * 10 + (e - 48)) ds d

within-read : (most x : ℕ) → x ≤ most → decimal_value 0 (decimal_within most x) ≡ x
unfolding decimal_value decimal_within
within-read zero x h = omega arith
within-read (suc most) x h = go (within-read most (x / 10)) (ltb x 10) refl
  where
    go : (x / 10 ≤ most → decimal_value 0 (decimal_within most (x / 10)) ≡ x / 10) → (b : Bool) → ltb x 10 ≡ b
        → decimal_value 0 (pick b (digit x ∷ []) (longer most x)) ≡ x
    go ih true e = omega arith
    go ih false e =
        let ge = ltb-false x 10 e in
        value-append 0 (decimal_within most (x / 10)) (digit (x % 10)) ∙ rw (ih (omega arith)) (omega arith)

pub decimal-read : (x : ℕ) → decimal_value 0 (decimal x) ≡ x
unfolding decimal
decimal-read x = within-read x x (omega arith)

pub decimal_determines : (x y : ℕ) → decimal x ≡ decimal y → x ≡ y
decimal_determines x y e = sym (decimal-read x) ∙ ap (decimal_value 0) e ∙ decimal-read y

-- ---- no zero leads

within-pos : (most x : ℕ) → 0 < length (decimal_within most x)
unfolding decimal_within
within-pos zero x = omega arith
within-pos (suc most) x = go (ltb x 10)
  where
    go : (b : Bool) → 0 < length (pick b (digit x ∷ []) (longer most x))
    go true = omega arith
    go false = rw length-append (omega arith)

within_leads : (most x : ℕ) → 0 < x → x ≤ most → 48 < get_or (decimal_within most x) 0 0
unfolding decimal_within
within_leads zero x p h = absurd (omega arith)
within_leads (suc most) x p h = go (within_leads most (x / 10)) (ltb x 10) refl
  where
    go : (0 < x / 10 → x / 10 ≤ most → 48 < get_or (decimal_within most (x / 10)) 0 0) → (b : Bool) → ltb x 10 ≡ b
        → 48 < get_or (pick b (digit x ∷ []) (longer most x)) 0 0
    go ih true e = omega arith
    go ih false e =
        let ge = ltb-false x 10 e in
        rw (get_or-append (decimal_within most (x / 10)) (digit (x % 10) ∷ []) 0 0 (within-pos most (x / 10))) (ih (omega arith) (omega arith))

pub no_leading_zero : (x : ℕ) → 0 < x → 48 < get_or (decimal x) 0 0
unfolding decimal
no_leading_zero x p = within_leads x x p (omega arith)

-- ---- one digit and two

within-one : (most x : ℕ) → x < 10 → decimal_within most x ≡ digit x ∷ []
unfolding decimal_within
within-one zero x h = refl
within-one (suc most) x h = rw (lt-ltb x 10 h)

within-two : (most x : ℕ) → 10 ≤ x → x < 100 → decimal_within (suc most) x ≡ digit (x / 10) ∷ digit (x % 10) ∷ []
unfolding decimal_within
within-two most x h k = rw (le-ltb x 10 h, within-one most (x / 10) (omega arith))

pub decimal-one : (x : ℕ) → x < 10 → decimal x ≡ digit x ∷ []
unfolding decimal
decimal-one x h = within-one x x h

pub decimal-two : (x : ℕ) → 10 ≤ x → x < 100 → decimal x ≡ digit (x / 10) ∷ digit (x % 10) ∷ []
unfolding decimal
decimal-two zero h k = absurd (omega arith)
decimal-two (suc x) h k = within-two x (suc x) h k

-- ---- lengths

pub length-decimal : (x : ℕ) → x < 100 → length (decimal x) ≤ 2
length-decimal x h = go (dec_lt x 10)
  where
    go : Dec (x < 10) → length (decimal x) ≤ 2
    go (yes k) = rw (decimal-one x k) (omega arith)
    go (no k) = rw (decimal-two x (omega arith) h) (omega arith)

pub length-level_domain : (base : List ℕ) (l : ℕ) → l < 100 → length (level_domain base l) ≤ length base + 9
unfolding level_domain
length-level_domain base l h = rw (length-append, length-append) (omega (arith, length-decimal l h))

-- a base domain that question 7 admits gives level domains that it admits too
pub level_domain-fits : (base : List ℕ) (l : ℕ) → length base ≤ 200 → l < 100 → length (level_domain base l) ≤ domain_room
level_domain-fits base l h k = omega (arith, length-level_domain base l k)

-- ---- each level of a base domain has its own
pub level_domain_determines : (base : List ℕ) (l m : ℕ) → level_domain base l ≡ level_domain base m → l ≡ m
unfolding level_domain
level_domain_determines base l m e =
    let n : ℕ = length (base ++ level_mark) in
    decimal_determines l m (sym (drop_at (base ++ level_mark) (decimal l) n refl) ∙ ap (drop n) e ∙ drop_at (base ++ level_mark) (decimal m) n refl)
