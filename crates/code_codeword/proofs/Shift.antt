-- A coordinate of L(eps), summed over the bits of eps one after another.
use mathlib.Core.Path.{◌≡◌}
use mathlib.Core.List.{List}
use Prim.Native.Nat.{ℕ, ◌+◌, ◌*◌}
use native.Mathlib.Numerals.{add-one}
use native.Mathlib.Omega.{arith}
use Rattle.theory_laws.specs.Xor.{◌⊕◌, bit, sel}
use Rattle.theory_laws.specs.Sum.{sum}
use Rattle.theory_laws.specs.Table.{at}
use Rattle.theory_laws.proofs.Xor.{⊕-zero}
use Rattle.theory_multilinear.specs.Codeword.{gamma, shift_at}

-- one more bit: set, its gamma is added
pub shift_at-set : (n j : ℕ) (g : List ℕ) (eps i : ℕ) → bit j eps ≡ 1 → shift_at n (j + 1) g eps i ≡ shift_at n j g eps i ⊕ at g (j * n + i)
unfolding shift_at sum gamma sel
shift_at-set n j g eps i h = rw (add-one, h)

-- and not set, nothing is
pub shift_at-unset : (n j : ℕ) (g : List ℕ) (eps i : ℕ) → (bit j eps ≡ 1 → ⊥) → shift_at n (j + 1) g eps i ≡ shift_at n j g eps i
unfolding shift_at sum gamma sel
shift_at-unset n j g eps i h =
    let z : bit j eps ≡ 0 = omega arith in
    rw (add-one, z) (⊕-zero (shift_at n j g eps i))
