-- The shifts: L is additive, L(0) is 0, and L(2^j) is row j of the gammas; which says all of L.
use mathlib.Core.Path.{◌≡◌, sym, ap, ◌∙◌, fun_ext}
use mathlib.Core.List.{List, map}
use Prim.Native.Nat.{ℕ, ◌+◌, ◌*◌, ◌^◌, ◌<◌}
use native.Mathlib.Nat.{zero-div}
use lib.ListN.{length, replicate}
use Rattle.theory_laws.specs.Xor.{◌⊕◌, bit, sel}
use Rattle.theory_laws.specs.Sum.{sum}
use Rattle.theory_laws.specs.Table.{tab, at}
use Rattle.theory_laws.proofs.Xor.{sel-bit}
use Rattle.theory_laws.proofs.Sum.{sum-⊕, sum-zero, sum-at}
use Rattle.theory_laws.proofs.Table.{length-tab, map-tab}
use Rattle.theory_laws.proofs.Parity.{bit-same, bit-other}
use Rattle.theory_multilinear.specs.Points.{add_point}
use Rattle.theory_multilinear.specs.Codeword.{gamma, shift_at, shift}
use Rattle.theory_laws.proofs.Table.{tab-zero}
use Rattle.theory_multilinear.proofs.Points.{add_point-tab}

pub length_shift : (n k : ℕ) (gammas : List ℕ) (eps : ℕ) → length (shift n k gammas eps) ≡ n
unfolding shift
length_shift n k gammas eps = length-tab n (shift_at n k gammas eps)

pub shift-add : (n k : ℕ) (gammas : List ℕ) (a b : ℕ) → shift n k gammas (a ⊕ b) ≡ add_point (shift n k gammas a) (shift n k gammas b)
unfolding shift shift_at
shift-add n k gammas a b =
    ap (tab n) (fun_ext (λ i.
    ap (sum k) (fun_ext (λ j. sel-bit j a b (gamma n gammas j i)))
    ∙ sum-⊕ k (λ j. sel (bit j a) (gamma n gammas j i)) (λ j. sel (bit j b) (gamma n gammas j i))))
    ∙ sym (add_point-tab n (shift_at n k gammas a) (shift_at n k gammas b))

pub shift_zero : (n k : ℕ) (gammas : List ℕ) → shift n k gammas 0 ≡ replicate n 0
unfolding shift shift_at sel
shift_zero n k gammas =
    ap (tab n) (fun_ext (λ i. ap (sum k) (fun_ext (λ j. rw (zero-div (2 ^ j)))) ∙ sum-zero k)) ∙ tab-zero n

pub shift_row : (n k j : ℕ) (gammas : List ℕ) → j < k → shift n k gammas (2 ^ j) ≡ tab n (λ i. at gammas (j * n + i))
unfolding shift shift_at gamma sel
shift_row n k j gammas h =
    ap (tab n) (fun_ext (λ i.
    sum-at k j (λ b. sel (bit b (2 ^ j)) (at gammas (b * n + i))) h (λ b a. ap (λ x. sel x (at gammas (b * n + i))) (bit-other b j a))
    ∙ ap (λ x. sel x (at gammas (j * n + i))) (bit-same j)))

-- L by a list of coordinates
pub shift-map : (n k : ℕ) (gammas : List ℕ) (eps : ℕ) → shift n k gammas eps ≡ map (shift_at n k gammas eps) (tab n (λ i. i))
unfolding shift
shift-map n k gammas eps = sym (map-tab (shift_at n k gammas eps) n (λ i. i))
