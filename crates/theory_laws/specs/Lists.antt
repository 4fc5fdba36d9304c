-- Lists of bytes and of numbers: parts, runs of items of one size, stores, little-endian numbers, equality as a test.
use Rattle.std.specs.Prelude.{ℕ, zero, suc, ◌+◌, ◌*◌, ◌/◌, ◌%◌, ◌<◌, ◌≡◌, Bool, true, false, List, [], ◌∷◌, ◌++◌, eqb, length, take, drop, get_or}
use Rattle.std.proofs.lemmas.List.Edits.{sets}
use Rattle.theory_laws.specs.Questions.{both}

-- n elements from a place on. Shut, so that a numeral n is not written out as n cases
unfoldable pub part : ℕ → ℕ → List ℕ → List ℕ
part n from l = take n (drop from l)

-- c items of n elements each, from the front
unfoldable pub runs : ℕ → ℕ → List ℕ → List (List ℕ)
runs n zero l = []
runs n (suc c) l = take n l ∷ runs n c (drop n l)

-- every item is n long
abbrev pub AllLong : ℕ → List (List ℕ) → Type 0
AllLong n [] = Unit
AllLong n (x ∷ xs) = (length x ≡ n) × AllLong n xs

-- the items end to end
unfoldable pub flat : List (List ℕ) → List ℕ
flat [] = []
flat (x ∷ xs) = x ++ flat xs

-- a list with vs stored from a place on; what would go past its end is dropped
unfoldable pub stored : List ℕ → ℕ → List ℕ → List ℕ
stored l from vs = sets l from vs

-- the n bytes of a number, the lowest first
unfoldable pub le_bytes : ℕ → ℕ → List ℕ
le_bytes zero x = []
le_bytes (suc n) x = x % 256 ∷ le_bytes n (x / 256)

-- the number that bytes hold, the lowest first
unfoldable pub le_value : List ℕ → ℕ
le_value [] = 0
le_value (b ∷ bs) = le_value bs * 256 + b

-- whether two lists are equal
unfoldable pub same : List ℕ → List ℕ → Bool
same [] [] = true
same [] (y ∷ ys) = false
same (x ∷ xs) [] = false
same (x ∷ xs) (y ∷ ys) = both (eqb x y) (same xs ys)

-- bytes: every element is below 256
abbrev pub Bytes : List ℕ → Type 0
Bytes l = (k : ℕ) → get_or l k 0 < 256

-- a fact holds of every item
abbrev pub All : {A : Type 0} → (A → Type 0) → List A → Type 0
All P [] = Unit
All P (x ∷ xs) = P x × All P xs
