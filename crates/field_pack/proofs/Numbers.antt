-- An array of words by value as a list of numbers: read, stored, counted, doubled. Rests on the doubling of field_runs.
use mathlib.Core.Path.{◌≡◌, refl, ap, ap₂, ◌∙◌}
use mathlib.Core.List.{List, [], ◌∷◌}
use Prim.Native.Nat.{ℕ, zero, suc, ◌+◌, ◌/◌, ◌^◌, ◌<◌}
use native.Mathlib.Omega.{arith}
use lib.ListN.{length, get_or, set, length-map}
use Rattle.theory_laws.specs.Table.{at}
use lib.Bits.{bit_and, and_mask}
use Rattle.theory_laws.specs.Xor.{◌⊕◌, bit, sel}
use Rattle.theory_field.specs.Field.{◌⊗◌}
use Rattle.field_gf128.specs.declared.Word.{Word}
use Rattle.field_gf128.specs.Word.{word}
use Rattle.field_runs.specs.Runs.{doubled_at}
use Rattle.field_pack.specs.Phi.{numbers}

pub numbers-at : (c : List Word) (b : ℕ) (d : Word) → b < length c → word (get_or c b d) ≡ at (numbers c) b
unfolding numbers
numbers-at [] b d h = absurd (omega arith)
numbers-at (w ∷ c) zero d h = refl
numbers-at (w ∷ c) (suc b) d h = numbers-at c b d (omega arith)

pub length-numbers : (c : List Word) → length (numbers c) ≡ length c
unfolding numbers
length-numbers c = length-map c word

pub numbers-set : (c : List Word) (b : ℕ) (w : Word) → numbers (set c b w) ≡ set (numbers c) b (word w)
unfolding numbers
numbers-set [] b w = refl
numbers-set (x ∷ c) zero w = refl
numbers-set (x ∷ c) (suc b) w = ap (λ (r : List ℕ). word x ∷ r) (numbers-set c b w)

-- entry v doubled: a turn of the loop over the entries
pub numbers-doubled : (c : List Word) (v n z : ℕ) (t s : Word) → word t ≡ at (numbers c) v ⊗ z → word s ≡ at (numbers c) v ⊕ word t
    → numbers (set (set c (n + v) t) v s) ≡ doubled_at v n z (numbers c)
numbers-doubled c v n z t s e f =
    numbers-set (set c (n + v) t) v s
    ∙ ap₂ (λ (r : List ℕ) (x : ℕ). set r v x)
    (numbers-set c (n + v) t ∙ ap (set (numbers c) (n + v)) e)
    (f ∙ ap (λ (x : ℕ). at (numbers c) v ⊕ x) e)

-- a coefficient that a bit of a number chooses, as code reads both
pub chosen-at : (c : List Word) (k i b : ℕ) (d : Word) → b < length c → sel (bit_and (k / 2 ^ i) 1) (word (get_or c b d)) ≡ sel (bit i k) (at (numbers c) b)
chosen-at c k i b d h = ap₂ sel (and_mask (k / 2 ^ i) 1) (numbers-at c b d h)
