-- Laws on lists of words that the proofs of this crate cite, and the rule of the table of orders.
use Rattle.std.proofs.Common.{◌≡◌, ℕ, ◌+◌, ◌-◌, ◌*◌, ◌/◌, ◌%◌, ◌^◌, ◌<◌, ◌≤◌, ltb, List, [], length, get_or, drop, set, sym, ap, ◌∙◌, ap₂, add-zero, add_comm, arith, ltb→lt, drop_of_length-le, shr_lt}
use native.Mathlib.Nat.{mul-mod_left}
use lib.Bits.{bit_xor, bit_or, or_shifted_r}
use lib.Pow.{shl-shr, mod-pow-add}
use Rattle.theory_laws.specs.Table.{tab, at}
use Rattle.theory_laws.specs.Xor.{◌⊕◌}
use Rattle.theory_blake3.specs.Compression.{add, rotr, half, mix, columns, diagonals, round, permuted, permutation, rounds}
use Rattle.theory_blake3.specs.Orders.{powers, orders, ordered, Small, rounds_by}
use Rattle.hash_compress.specs.helpers.Rounds.{round_at}
use Rattle.theory_laws.proofs.Linear.{all_below, below}
use Rattle.theory_blake3.proofs.Compression.{rounds_by_orders}

-- the rotation as the code has it: with k for 32 - n
rotr_core : (x n k : ℕ) → x < 2 ^ (k + n) → bit_or (x / 2 ^ n) (x * 2 ^ k % 2 ^ (n + k)) ≡ x / 2 ^ n + x % 2 ^ n * 2 ^ k
rotr_core x n k h =
    ap (bit_or (x / 2 ^ n)) (mod-pow-add (x * 2 ^ k) n k ∙ ap₂ (λ (u v : ℕ). (u % 2 ^ n) * 2 ^ k + v) (shl-shr x k) (mul-mod_left x (2 ^ k))
    ∙ add-zero (x % 2 ^ n * 2 ^ k))
    ∙ or_shifted_r (x % 2 ^ n) k (x / 2 ^ n) (shr_lt k n h)
    ∙ add_comm (x % 2 ^ n * 2 ^ k) (x / 2 ^ n)

pub rotr_law : (x n : ℕ) → x < 2 ^ 32 → n < 32 → bit_or (x / 2 ^ n) (x * 2 ^ (32 - n) % 2 ^ 32) ≡ rotr x n
unfolding rotr
rotr_law x n hx hn =
    let e : n + (32 - n) ≡ 32 = omega arith in
    let f : (32 - n) + n ≡ 32 = omega arith in
    rw e at (rotr_core x n (32 - n) (rw f hx))

-- the five steps of half
pub half_law : (s : List ℕ) (a b c d x p q : ℕ) {r1 r2 r3 r4 r5 : ℕ}
    → r1 ≡ (at s a + at s b) % 2 ^ 32
    → r2 ≡ (r1 + x) % 2 ^ 32
    → r3 ≡ rotr (bit_xor (at (set s a r2) d) (at (set s a r2) a)) p
    → r4 ≡ (at (set (set s a r2) d r3) c + at (set (set s a r2) d r3) d) % 2 ^ 32
    → r5 ≡ rotr (bit_xor (at (set (set (set s a r2) d r3) c r4) b) (at (set (set (set s a r2) d r3) c r4) c)) q
    → set (set (set (set s a r2) d r3) c r4) b r5 ≡ half s a b c d x p q
unfolding half add ◌⊕◌
half_law s a b c d x p q e1 e2 e3 e4 e5 = cc

-- the two halves of G
pub mix_law : (s : List ℕ) (a b c d x y : ℕ) {s1 s2 : List ℕ} → s1 ≡ half s a b c d x 16 12 → s2 ≡ half s1 a b c d y 8 7 → s2 ≡ mix s a b c d x y
unfolding mix
mix_law s a b c d x y e1 e2 = cc

-- the eight steps of a round over the words w
pub round_law : (s w : List ℕ) {s1 s2 s3 s4 s5 s6 s7 s8 : List ℕ}
    → s1 ≡ mix s 0 4 8 12 (at w 0) (at w 1)
    → s2 ≡ mix s1 1 5 9 13 (at w 2) (at w 3)
    → s3 ≡ mix s2 2 6 10 14 (at w 4) (at w 5)
    → s4 ≡ mix s3 3 7 11 15 (at w 6) (at w 7)
    → s5 ≡ mix s4 0 5 10 15 (at w 8) (at w 9)
    → s6 ≡ mix s5 1 6 11 12 (at w 10) (at w 11)
    → s7 ≡ mix s6 2 7 8 13 (at w 12) (at w 13)
    → s8 ≡ mix s7 3 4 9 14 (at w 14) (at w 15)
    → s8 ≡ round s w
unfolding round columns diagonals
round_law s w e1 e2 e3 e4 e5 e6 e7 e8 = cc

-- each place in each order is below 16: one test that is computed
pub small-orders : (r : ℕ) → r < 7 → Small (get_or orders r [])
unfolding Small orders powers permuted permutation tab
small-orders r h = λ i k. ltb→lt (at (get_or orders r []) i) 16
    (below 16 (λ i. ltb (at (get_or orders r []) i) 16) (below 7 (λ r. all_below 16 (λ i. ltb (at (get_or orders r []) i) 16)) tt r h) i k)

-- the seven rounds, one after the other
pub rounds_law : (s m : List ℕ) {s1 s2 s3 s4 s5 s6 s7 : List ℕ}
    → s1 ≡ round s m
    → s2 ≡ round_at 1 s1 m
    → s3 ≡ round_at 2 s2 m
    → s4 ≡ round_at 3 s3 m
    → s5 ≡ round_at 4 s4 m
    → s6 ≡ round_at 5 s5 m
    → s7 ≡ round_at 6 s6 m
    → s7 ≡ rounds 7 s m
unfolding rounds orders powers ordered permuted permutation tab
rounds_law s m e1 e2 e3 e4 e5 e6 e7 = rw (e7, e6, e5, e4, e3, e2, e1)

-- past the last order nothing is left to do
pub rounds-all : (s₀ s m : List ℕ) (os : List (List ℕ)) (r : ℕ) → os ≡ orders → length os ≤ r → rounds_by (drop r os) s m ≡ rounds_by os s₀ m → s ≡ rounds 7 s₀ m
unfolding rounds_by
rounds-all s₀ s m os r e l h = (rw (drop_of_length-le os {i = r} l) at h) ∙ ap (λ (o : List (List ℕ)). rounds_by o s₀ m) e ∙ sym (rounds_by_orders s₀ m)
