-- The places of pair q at bit i: `ins i 0 q` and `ins i 1 q`. `flip i` goes from one to the other, and `del i` gives q back.
use mathlib.Core.Path.{◌≡◌, sym, ap, ap₂, ◌∙◌}
use mathlib.Core.Logic.{◌⊎◌, inl, inr, ⊎_elim}
use Prim.Native.Nat.{ℕ, zero, suc, ◌+◌, ◌-◌, ◌*◌, ◌/◌, ◌%◌, ◌^◌, ◌≤◌, ◌<◌}
use native.Mathlib.Nat.{pow-suc, div-one, mod-one}
use native.Mathlib.Omega.{arith}
use lib.Pow.{split}
use lib.Arith.{digits_div, digits_mod}
use Rattle.theory_laws.specs.Places.{ins, del, flip}
use Rattle.theory_laws.proofs.Parity.{parity, by-parity, low_bit, low_half, high_half, mod-double}

pub ins-even : (i b w : ℕ) → ins (suc i) b (w * 2) ≡ ins i b w * 2
unfolding ins
ins-even i b w = simp parity (omega arith)

pub ins-odd : (i b w : ℕ) → ins (suc i) b (w * 2 + 1) ≡ ins i b w * 2 + 1
unfolding ins
ins-odd i b w = simp parity

pub flip0_even : (w : ℕ) → flip 0 (w * 2) ≡ w * 2 + 1
unfolding flip
flip0_even w = omega arith

pub flip0_odd : (w : ℕ) → flip 0 (w * 2 + 1) ≡ w * 2
unfolding flip
flip0_odd w = omega arith

pub ins-high : (i n b x : ℕ) → i ≤ n → b < 2 → ins i b x / 2 ^ suc n ≡ x / 2 ^ n
unfolding ins
ins-high zero n b x h k = sym (high_half (x * 2 + b) n) ∙ ap (λ y. y / 2 ^ n) (omega arith)
ins-high (suc i) zero b x h k = absurd (omega arith)
ins-high (suc i) (suc n) b x h k =
    sym (high_half (ins i b (x / 2) * 2 + x % 2) (suc n)) ∙ ap (λ y. y / 2 ^ suc n) (omega arith)
    ∙ ins-high i n b (x / 2) (omega arith) k ∙ high_half x n

pub ins-low : (i n b x : ℕ) → i ≤ n → b < 2 → ins i b x % 2 ^ suc n ≡ ins i b (x % 2 ^ n)
unfolding ins
ins-low zero n b x h k = mod-double (x * 2 + b) n ∙ ap₂ (λ y c. y % 2 ^ n * 2 + c) (omega arith) (omega arith)
ins-low (suc i) zero b x h k = absurd (omega arith)
ins-low (suc i) (suc n) b x h k =
    mod-double (ins i b (x / 2) * 2 + x % 2) (suc n)
    ∙ ap₂ (λ y c. y % 2 ^ suc n * 2 + c) (omega arith) (omega arith)
    ∙ ap (λ y. y * 2 + x % 2) (ins-low i n b (x / 2) (omega arith) k)
    ∙ sym (ap₂ (λ y c. ins i b y * 2 + c) (low_half x n) (low_bit x n))

-- what a loop computes: the number of an entry's partner
pub ins_closed : (i b v : ℕ) → b < 2 → ins i b v ≡ v / 2 ^ i * 2 ^ suc i + b * 2 ^ i + v % 2 ^ i
unfolding ins
ins_closed zero b v h = rw (div-one v, mod-one v) (omega arith)
ins_closed (suc i) b v h =
    ap (λ x. x * 2 + v % 2) (ins_closed i b (v / 2) h)
    ∙ rw (high_half v i, mod-double v i, pow-suc 2 (suc i), pow-suc 2 i) (omega arith)

-- a number whose halves were taken apart comes together again
halved : (f : ℕ → ℕ) (x q : ℕ) → f ((x * 2 + q % 2) / 2) * 2 + (x * 2 + q % 2) % 2 ≡ f x * 2 + q % 2
halved f x q =
    let h : (x * 2 + q % 2) / 2 ≡ x = omega arith in
    let l : (x * 2 + q % 2) % 2 ≡ q % 2 = omega arith in
    ap₂ (λ y c. f y * 2 + c) h l

pub del-ins : (i b q : ℕ) → b < 2 → del i (ins i b q) ≡ q
unfolding del ins
del-ins zero b q h = omega arith
del-ins (suc i) b q h =
    halved (del i) (ins i b (q / 2)) q
    ∙ ap (λ x. x * 2 + q % 2) (del-ins i b (q / 2) h) ∙ omega arith

pub flip-lo : (i q : ℕ) → flip i (ins i 0 q) ≡ ins i 1 q
unfolding flip ins
flip-lo zero q = omega arith
flip-lo (suc i) q =
    halved (flip i) (ins i 0 (q / 2)) q
    ∙ ap (λ x. x * 2 + q % 2) (flip-lo i (q / 2))

pub flip-hi : (i q : ℕ) → flip i (ins i 1 q) ≡ ins i 0 q
unfolding flip ins
flip-hi zero q = omega arith
flip-hi (suc i) q =
    halved (flip i) (ins i 1 (q / 2)) q
    ∙ ap (λ x. x * 2 + q % 2) (flip-hi i (q / 2))

-- every place is one of a pair
pub lo_or_hi : (i v : ℕ) → (v ≡ ins i 0 (del i v)) ⊎ (v ≡ ins i 1 (del i v))
unfolding del ins
lo_or_hi zero v = by-parity (λ v. (v ≡ v / 2 * 2 + 0) ⊎ (v ≡ v / 2 * 2 + 1)) (λ w. inl (omega arith)) (λ w. inr (omega arith)) v
lo_or_hi (suc i) v =
    ⊎_elim
    (λ e. inl (up 0 e))
    (λ e. inr (up 1 e))
    (lo_or_hi i (v / 2))
  where
    up : (b : ℕ) → v / 2 ≡ ins i b (del i (v / 2)) → v ≡ ins i b ((del i (v / 2) * 2 + v % 2) / 2) * 2 + (del i (v / 2) * 2 + v % 2) % 2
    up b e =
        let p : (del i (v / 2) * 2 + v % 2) / 2 ≡ del i (v / 2) = omega arith in
        let q : (del i (v / 2) * 2 + v % 2) % 2 ≡ v % 2 = omega arith in
        rw (p, q) (omega arith)

pub ins-hi : (i q : ℕ) → ins i 1 q ≡ ins i 0 q + 2 ^ i
ins-hi i q = omega (arith, ins_closed i 1 q (omega arith), ins_closed i 0 q (omega arith))

pub ins-lt : (i n b q : ℕ) → i ≤ n → b < 2 → q < 2 ^ n → ins i b q < 2 ^ suc n
unfolding ins
ins-lt zero n b q h k l = omega arith
ins-lt (suc i) zero b q h k l = absurd (omega arith)
ins-lt (suc i) (suc n) b q h k l = omega (arith, ins-lt i n b (q / 2) (omega arith) k (omega arith))

pub del-lt : (i n v : ℕ) → i ≤ n → v < 2 ^ suc n → del i v < 2 ^ n
unfolding del
del-lt zero n v h l = omega arith
del-lt (suc i) zero v h l = absurd (omega arith)
del-lt (suc i) (suc n) v h l = omega (arith, del-lt i n (v / 2) (omega arith) (omega arith))

-- block m, place j of its lower half
pub ins-at : (i m j b : ℕ) → b < 2 → j < 2 ^ i → ins i b (m * 2 ^ i + j) ≡ m * 2 ^ suc i + b * 2 ^ i + j
ins-at i m j b k h = ins_closed i b (m * 2 ^ i + j) k ∙ rw (digits_div m h, digits_mod m h)

-- a block of 2 ^ i that begins below 2 ^ n ends there
pub fits-block : (i n m : ℕ) → i ≤ n → m * 2 ^ i < 2 ^ n → m * 2 ^ i + 2 ^ i ≤ 2 ^ n
fits-block zero n m h k = omega arith
fits-block (suc i) zero m h k = absurd (omega arith)
fits-block (suc i) (suc n) m h k =
    let e : m * 2 ^ suc i ≡ m * 2 ^ i * 2 = rw (pow-suc 2 i) (omega arith) in
    omega (arith, fits-block i n m (omega arith) (omega arith))

pub flip-lt : (i n v : ℕ) → i ≤ n → v < 2 ^ suc n → flip i v < 2 ^ suc n
unfolding flip
flip-lt zero n v h l = omega arith
flip-lt (suc i) zero v h l = absurd (omega arith)
flip-lt (suc i) (suc n) v h l = omega (arith, flip-lt i n (v / 2) (omega arith) (omega arith))

-- the first place of pair q, as code computes it
pub ins-first : (i q : ℕ) → ins i 0 q ≡ q + q - q % 2 ^ i
ins-first i q =
    let e : q / 2 ^ i * 2 ^ suc i ≡ q / 2 ^ i * 2 ^ i * 2 = rw (pow-suc 2 i) (omega arith) in
    omega (arith, ins_closed i 0 q (omega arith), split q i)
