-- What the parts of the code's work leave, lent the halves of words. Rests on the codeword and the fold.
use Rattle.std.specs.Prelude.{ℕ, ◌-◌, ◌*◌, ◌/◌, ◌^◌, List, length}
use Rattle.theory_laws.specs.Questions.{on_done}
use Rattle.theory_laws.specs.Lists.{part}
use Rattle.theory_field.specs.Words.{words}
use Rattle.theory_multilinear.specs.Codeword.{encode}
use Rattle.theory_multilinear.specs.Fold.{fold_list}

-- part i of the codeword in parts of 2^m words: those from word i × 2^m on
abbrev pub part_of_codeword : ℕ → ℕ → ℕ → List ℕ → ℕ → List ℕ → List ℕ
part_of_codeword m n k gammas i table = part (2 ^ m) (i * 2 ^ m) (encode n k (words gammas) (words table))

-- block eps, of 2^n words, or the words of the buffer as it was, by the number of the call
abbrev pub block_into : ℕ → ℕ → ℕ → List ℕ → ℕ → List ℕ → List ℕ → List ℕ
block_into number n k gammas eps table out = on_done number (part_of_codeword n n k gammas eps table) (words out)

-- half a block, of 2^(n - 1) words, in the same way
abbrev pub half_into : ℕ → ℕ → ℕ → List ℕ → ℕ → List ℕ → List ℕ → List ℕ
half_into number n k gammas half table out = on_done number (part_of_codeword (n - 1) n k gammas half table) (words out)

-- m entries of the fold at a variable by r, from entry `first` on
abbrev pub part_of_fold : ℕ → ℕ → ℕ → ℕ → List ℕ → List ℕ
part_of_fold m first var r src = part m first (fold_list var r (words src))

-- as many as the buffer has room for, or its words as they were
abbrev pub fold_part_into : ℕ → ℕ → ℕ → ℕ → List ℕ → List ℕ → List ℕ
fold_part_into number first var r src out = on_done number (part_of_fold (length out / 2) first var r src) (words out)
