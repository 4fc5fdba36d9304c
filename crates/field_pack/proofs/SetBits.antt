-- The set bits of a number from the lowest up, as code takes them: a number and the one before it have in common all of its set bits but the
-- lowest. And phi by them.
use mathlib.Core.Path.{◌≡◌, sym, ap, ap₂, ◌∙◌}
use mathlib.Core.Logic.{⊎_elim}
use Prim.Native.Nat.{ℕ, zero, suc, ◌+◌, ◌-◌, ◌*◌, ◌/◌, ◌%◌, ◌^◌, ◌≤◌, ◌<◌, suc-le-suc, min}
use native.Mathlib.Nat.{zero-lt-suc, zero-mul, add_comm}
use native.Mathlib.Omega.{arith}
use lib.Bits.{bit_and, and_step, and_self}
use lib.Count.{count_trailing_zeros}
use lib.Pow.{pow-add}
use Rattle.theory_laws.specs.Xor.{◌⊕◌}
use Rattle.theory_laws.proofs.Numbers.{pow-two}
use Rattle.theory_laws.proofs.Xor.{odd-cases, ⊕-zero, ⊕_assoc, ⊕_comm, ⊕_dbl, ⊕-shl, ⊕-parts}
use Rattle.theory_multilinear.specs.Phi.{phi}
use Rattle.theory_multilinear.proofs.Phi.{phi-add, phi_power, phi-zero}

-- the place of the lowest set bit of a number of k bits, and the number as that bit and what is left of it
pub record Lowest (k n : ℕ) : Type 0 where
  pub place : count_trailing_zeros k n < k
  pub parts : n ≡ 2 ^ count_trailing_zeros k n ⊕ bit_and n (n - 1)

-- what is left of an even number is twice what is left of its half
left-even : (n : ℕ) → 0 < n → n % 2 ≡ 0 → bit_and n (n - 1) ≡ 2 * bit_and (n / 2) (n / 2 - 1)
left-even n p e =
    let d : (n - 1) / 2 ≡ n / 2 - 1 = omega arith in
    let o : (n - 1) % 2 ≡ 1 = omega arith in
    and_step n (n - 1) ∙ ap₂ (λ (x y : ℕ). bit_and (n / 2) x * 2 + y) d (ap₂ min e o) ∙ omega arith

-- what is left of an odd number is the number without its bit 0
left-odd : (n : ℕ) → n % 2 ≡ 1 → bit_and n (n - 1) ≡ n / 2 * 2
left-odd n e =
    let d : (n - 1) / 2 ≡ n / 2 = omega arith in
    let z : (n - 1) % 2 ≡ 0 = omega arith in
    and_step n (n - 1) ∙ ap₂ (λ (x y : ℕ). bit_and (n / 2) x * 2 + y) d (ap₂ min e z) ∙ ap (λ (x : ℕ). x * 2 + 0) (and_self (n / 2)) ∙ omega arith

lowest-even : (k n : ℕ) → 0 < n → n % 2 ≡ 0 → Lowest k (n / 2) → Lowest (suc k) n
unfolding count_trailing_zeros
lowest-even k n p e l =
    let t = count_trailing_zeros k (n / 2) in
    let twice : n ≡ 2 * (n / 2) = omega arith in
    let parts : n ≡ 2 ^ suc t ⊕ bit_and n (n - 1) =
    twice ∙ ap (λ (x : ℕ). 2 * x) l.parts ∙ ⊕_dbl (2 ^ t) (bit_and (n / 2) (n / 2 - 1))
    ∙ sym (ap₂ ◌⊕◌ (pow-two t) (left-even n p e)) in
    record { place = rw e (suc-le-suc l.place); parts = rw e parts }

lowest-odd : (k n : ℕ) → n % 2 ≡ 1 → Lowest (suc k) n
unfolding count_trailing_zeros
lowest-odd k n e =
    let parts : n ≡ 1 ⊕ bit_and n (n - 1) =
    sym (ap (λ (x : ℕ). 1 ⊕ x) (left-odd n e) ∙ ⊕_comm 1 (n / 2 * 2) ∙ ⊕-parts (n / 2) 1 1 (omega arith) ∙ omega arith) in
    record { place = rw e (zero-lt-suc k); parts = rw e parts }

pub lowest : (k n : ℕ) → 0 < n → n < 2 ^ k → Lowest k n
lowest zero n p h = absurd (omega arith)
lowest (suc k) n p h =
    ⊎_elim (λ (e : n % 2 ≡ 0). lowest-even k n p e (lowest k (n / 2) (omega arith) (omega (arith, pow-two k)))) (lowest-odd k n) (odd-cases n)

-- ---- phi by the set bits of a half, which stands in the word from a place on

-- a turn: what was added, and phi of what is left, make the whole
pub phi-turn : (c : ℕ → ℕ) (from n b acc x next whole : ℕ) → from ≤ 64 → Lowest 64 n → b ≡ from + count_trailing_zeros 64 n → x ≡ c b → next ≡ acc ⊕ x
    → acc ⊕ phi c (n * 2 ^ from) ≡ whole → next ⊕ phi c (bit_and n (n - 1) * 2 ^ from) ≡ whole
phi-turn c from n b acc x next whole f l e g h w =
    let t = count_trailing_zeros 64 n in
    let left = bit_and n (n - 1) in
    let p : 2 ^ b ≡ 2 ^ t * 2 ^ from = ap (λ (i : ℕ). 2 ^ i) (e ∙ add_comm from t) ∙ pow-add 2 t from in
    let one : x ≡ phi c (2 ^ t * 2 ^ from) = g ∙ sym (phi_power c b (omega (arith, l.place))) ∙ ap (phi c) p in
    let both : phi c (n * 2 ^ from) ≡ phi c (2 ^ t * 2 ^ from) ⊕ phi c (left * 2 ^ from) =
    ap (λ (v : ℕ). phi c (v * 2 ^ from)) l.parts ∙ ap (phi c) (sym (⊕-shl from (2 ^ t) left)) ∙ phi-add c (2 ^ t * 2 ^ from) (left * 2 ^ from) in
    ap (λ (v : ℕ). v ⊕ phi c (left * 2 ^ from)) (h ∙ ap (λ (v : ℕ). acc ⊕ v) one) ∙ ⊕_assoc acc (phi c (2 ^ t * 2 ^ from)) (phi c (left * 2 ^ from))
    ∙ ap (λ (v : ℕ). acc ⊕ v) (sym both) ∙ w

-- after the last turn
pub phi_end : (c : ℕ → ℕ) (from n acc whole : ℕ) → n ≡ 0 → acc ⊕ phi c (n * 2 ^ from) ≡ whole → acc ≡ whole
phi_end c from n acc whole z w =
    let none : n * 2 ^ from ≡ 0 = ap (λ (v : ℕ). v * 2 ^ from) z ∙ zero-mul (2 ^ from) in
    sym (ap (λ (v : ℕ). acc ⊕ phi c v) none ∙ ap (λ (v : ℕ). acc ⊕ v) (phi-zero c) ∙ ⊕-zero acc) ∙ w

-- phi of a word by its halves
pub phi-halves : (c : ℕ → ℕ) (hi lo : ℕ) → lo < 2 ^ 64 → phi c (lo * 2 ^ 0) ⊕ phi c (hi * 2 ^ 64) ≡ phi c (hi * 2 ^ 64 + lo)
phi-halves c hi lo h =
    let e : lo * 2 ^ 0 ≡ lo = omega arith in
    ⊕_comm (phi c (lo * 2 ^ 0)) (phi c (hi * 2 ^ 64)) ∙ ap (λ (x : ℕ). phi c (hi * 2 ^ 64) ⊕ phi c x) e
    ∙ sym (phi-add c (hi * 2 ^ 64) lo) ∙ ap (phi c) (⊕-parts hi 64 lo h)
