-- Ring switching (SPECIFICATION 3): partial evaluations, their fold, and the indicator. Rests on phi, the equality table and
-- the multilinear extension.
use Rattle.std.specs.Prelude.{ℕ, ◌/◌, ◌%◌, ◌^◌, List, length}
use Rattle.theory_laws.specs.Xor.{bit, sel}
use Rattle.theory_laws.specs.Sum.{sum}
use Rattle.theory_laws.specs.Table.{tab, at}
use Rattle.theory_field.specs.Field.{◌⊗◌}
use Rattle.theory_multilinear.specs.Equality.{eq_at}
use Rattle.theory_multilinear.specs.Multilinear.{mle}
use Rattle.theory_multilinear.specs.Phi.{phi}

-- s_b over m words: the sum of the table entries e[v] over the words v whose bit b is set
unfoldable pub partial : ℕ → (ℕ → ℕ) → (ℕ → ℕ) → ℕ → ℕ
partial m words e b = sum m (λ v. sel (bit b (words v)) (e v))

-- `partial_evals` over two lists of 2^n entries: s_0 .. s_127
unfoldable pub partial_evals : ℕ → List ℕ → List ℕ → List ℕ
partial_evals n words e = tab 128 (partial (2 ^ n) (at words) (at e))

-- the bits of words, a word's 128 side by side: place x has bit x % 128 of word x / 128
unfoldable pub bits_of : (ℕ → ℕ) → ℕ → ℕ
bits_of words x = bit (x % 128) (words (x / 128))

-- the word whose bit j is b j
unfoldable pub word_of : (ℕ → ℕ) → ℕ
word_of b = sum 128 (λ j. sel (b j) (2 ^ j))

-- `fold_partials`: the sum over i of rb[i] times the word whose bit j is bit i of s_j
unfoldable pub fold_partials : (ℕ → ℕ) → (ℕ → ℕ) → ℕ
fold_partials s rb = sum 128 (λ i. rb i ⊗ word_of (λ j. bit i (s j)))

-- `materialize`, the indicator's table: phi of each entry of z's equality table
unfoldable pub materialize : (ℕ → ℕ) → List ℕ → List ℕ
materialize rb z = tab (2 ^ length z) (λ v. phi rb (eq_at z v))

-- `eval_at`: the multilinear extension of `materialize` at a point q. Off the cube it is not phi of an equality entry
unfoldable pub indicator : (ℕ → ℕ) → List ℕ → List ℕ → ℕ
indicator rb z q = mle (at (materialize rb z)) q
