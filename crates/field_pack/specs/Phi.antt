-- Row coefficients by value, and the tables of `PhiTab` (SPECIFICATION 2.5). Rests on phi.
use Rattle.std.specs.Prelude.{ℕ, ◌+◌, ◌*◌, ◌/◌, ◌%◌, ◌^◌, List, map}
use Rattle.theory_laws.specs.Sum.{sum}
use Rattle.theory_laws.specs.Table.{tab, at}
use Rattle.theory_multilinear.specs.Phi.{phi}
use Rattle.field_gf128.specs.declared.Word.{Word}
use Rattle.field_gf128.specs.Word.{word}

-- an array of words by value, as numbers
unfoldable pub numbers : List Word → List ℕ
numbers c = map word c

-- c[b]
abbrev pub coefficients : List Word → ℕ → ℕ
coefficients c b = at (numbers c) b

-- 32 tables of 16 words, one for each nibble of a word: entry v of table j is phi of the word whose nibble j is v, the others 0
unfoldable pub phi_tab : (ℕ → ℕ) → List ℕ
phi_tab c = tab 512 (λ k. phi c (k % 16 * 2 ^ (4 * (k / 16))))

-- the sum of the entries that the nibbles of w choose, each in its table. Of `phi_tab c` it is phi of w (proofs/Windows)
unfoldable pub chosen : List ℕ → ℕ → ℕ
chosen t w = sum 32 (λ j. at t (j * 16 + w / 2 ^ (4 * j) % 16))
