-- What a run leaves, as lists of words. Rests on the field, and on the encoder's pass in `multilinear`, which has the fold too.
use Rattle.std.specs.Prelude.{◌≡◌, List, ◌++◌, map, ℕ, suc, ◌+◌, ◌*◌, ◌^◌, ◌≤◌, length, take, drop, set}
use Rattle.theory_laws.specs.Xor.{◌⊕◌}
use Rattle.theory_laws.specs.Table.{tab, at}
use Rattle.theory_field.specs.Field.{◌⊗◌}
use Rattle.theory_multilinear.proofs.Passes.{pass}

-- y + r × x, word by word
unfoldable pub plus_scaled : ℕ → List ℕ → List ℕ → List ℕ
plus_scaled r ys xs = tab (length ys) (λ v. at ys v ⊕ r ⊗ at xs v)

-- the pass at coordinate i by d: each word a, with b its partner in bit i, becomes a + d × (a + b)
unfoldable pub pass_list : ℕ → ℕ → List ℕ → List ℕ
pass_list i d l = tab (length l) (pass i d (at l))

-- the first n words e become e + e × z, and the n after them become e × z; what follows stays. So an equality table of n entries is
-- doubled by one more coordinate, z
unfoldable pub doubled : ℕ → ℕ → List ℕ → List ℕ
doubled n z l = map (λ e. e ⊕ e ⊗ z) (take n l) ++ (map (λ e. e ⊗ z) (take n l) ++ drop (n + n) l)

-- a step of it: entry v alone
abbrev pub doubled_at : ℕ → ℕ → ℕ → List ℕ → List ℕ
doubled_at v n z l = set (set l (n + v) (at l v ⊗ z)) v (at l v ⊕ at l v ⊗ z)

-- a slice of this length holds a power of two of words, and their places have a bit i
pub record Paired (i halves : ℕ) : Type 0 where
  pub m : ℕ
  pub has : i ≤ m
  pub size : halves ≡ 2 * 2 ^ suc m
