-- The pairs at bit i, run by run, as the loops over pairs go: where a run's pairs have their places, what a run done leaves, and that
-- a run ends within the slice. And the places of one pair, as code computes them.
use mathlib.Core.Path.{◌≡◌, refl, sym, ap, ap₂, ◌∙◌, subst}
use mathlib.Core.List.{List}
use Prim.Native.Nat.{ℕ, zero, suc, ◌+◌, ◌*◌, ◌/◌, ◌%◌, ◌^◌, ◌≤◌, ◌<◌}
use native.Mathlib.Nat.{mod-eq_of_lt, pow-suc, add-zero}
use native.Mathlib.Numerals.{add-one}
use native.Mathlib.Omega.{arith}
use lib.Pow.{pow_mono}
use lib.ListN.{set}
use Rattle.theory_laws.specs.Table.{at}
use Rattle.theory_laws.specs.Xor.{◌⊕◌}
use Rattle.theory_laws.specs.Places.{ins, flip}
use Rattle.theory_laws.proofs.Xor.{⊕_comm}
use Rattle.theory_laws.proofs.Places.{ins-at, ins-lt, ins-hi, fits-block, flip0_even, flip0_odd}
use Rattle.theory_laws.proofs.Numbers.{pow_below}
use Rattle.theory_laws.proofs.Updates.{updated, updated-turn}
use Rattle.theory_multilinear.specs.Fold.{line, fold_at}
use Rattle.theory_field.specs.Field.{◌⊗◌}
use Rattle.theory_multilinear.proofs.Passes.{pass}
use Rattle.theory_multilinear.proofs.PassLoop.{Done, pass_step}
use Rattle.field_runs.specs.Runs.{Paired}
use Rattle.field_runs.specs.helpers.Steps.{steps, fold_steps, pass_steps, pair_stored}

-- ---- steps

-- one more, as a loop counts
pub steps-more : (n : ℕ) (step : ℕ → List ℕ → List ℕ) (l k : List ℕ) → k ≡ step n (steps n step l) → k ≡ steps (n + 1) step l
unfolding steps
steps-more n step l k e = e ∙ ap (λ m. steps m step l) (sym (add-one n))

-- what each step takes from q + j to the number after it, the steps below n take from q to q + n
pub steps-take : (P : ℕ → List ℕ → Type 0) (step : ℕ → List ℕ → List ℕ) (q n : ℕ) (l : List ℕ)
    → ((j : ℕ) (k : List ℕ) → j < n → P (q + j) k → P (suc (q + j)) (step j k)) → P q l → P (q + n) (steps n step l)
unfolding steps
steps-take P step q zero l turn start = subst (λ v. P v l) (sym (add-zero q)) start
steps-take P step q (suc n) l turn start =
    subst (λ v. P v (step n (steps n step l))) (let z : suc (q + n) ≡ q + suc n = omega arith in z)
    (turn n (steps n step l) (omega arith) (steps-take P step q n l (λ j k h. turn j k (omega arith)) start))

-- ---- a run

-- q is the first pair of a run at bit i
pub record First (i q : ℕ) : Type 0 where
  pub run : ℕ
  pub is : q ≡ run * 2 ^ i

pub first_run : (i : ℕ) → First i 0
first_run i = record { run = 0; is = omega arith }

module _ (i half q : ℕ) (stride : half ≡ 2 ^ i) (F : First i q) where
  pub next-run : First i (q + half)
  next-run = record { run = suc F.run; is = omega (arith, F.is, stride) }

  -- the two places of pair q + j
  places : (b j : ℕ) → b < 2 → j < half → ins i b (q + j) ≡ q + q + b * half + j
  places b j h l =
      let twice : F.run * 2 ^ suc i ≡ F.run * 2 ^ i * 2 = rw (pow-suc 2 i) (omega arith) in
      let apart : b * half ≡ b * 2 ^ i = ap (◌*◌ b) stride in
      ap (λ v. ins i b (v + j)) F.is ∙ ins-at i F.run j b h (omega arith) ∙ omega (arith, F.is)

  low : (j : ℕ) → j < half → q + q + j ≡ ins i 0 (q + j)
  low j l = omega (arith, places 0 j (omega arith) l)

  high : (j : ℕ) → j < half → q + q + half + j ≡ ins i 1 (q + j)
  high j l = omega (arith, places 1 j (omega arith) l)

  -- the words of a fold below q, and those of the run
  pub fold-run : (r : ℕ) (src ws us vs : List ℕ) → us ≡ updated q (λ k w. fold_at i r (at src) k) ws → vs ≡ fold_steps q half r src half us
      → vs ≡ updated (q + half) (λ k w. fold_at i r (at src) k) ws
  unfolding fold_at
  fold-run r src ws us vs done run =
      run
      ∙ steps-take (λ v l. l ≡ updated v (λ k w. fold_at i r (at src) k) ws) _ q half us
      (λ j l h e.
      updated-turn (q + j) (λ k w. fold_at i r (at src) k) ws l _ e (ap₂ (λ a b. line r (at src a) (at src b)) (low j h) (high j h))
      ∙ ap (λ v. updated v (λ k w. fold_at i r (at src) k) ws) (add-one (q + j))) done

  -- the pairs of a pass below q, and those of the run
  pub pass-run : (m d : ℕ) (t : ℕ → ℕ) (l k : List ℕ) → i ≤ m → q + half ≤ 2 ^ m → Done m i d t q l → k ≡ pass_steps q half d half l
      → Done m i d t (q + half) k
  pass-run m d t l k h within done run =
      subst (Done m i d t (q + half)) (sym run)
      (steps-take (Done m i d t) _ q half l
      (λ j k o D. pass_step m i d t (q + j) k h (omega arith) D (q + q + j) (q + q + half + j) (low j o) (high j o)) done)

-- ---- the pairs of a slice

-- lo and hi are the places of pair q, and both words are in the slice
pub record Pair (i halves q lo hi : ℕ) : Type 0 where
  pub first : lo ≡ ins i 0 q
  pub second : hi ≡ ins i 1 q
  pub inside : 2 * hi + 1 < halves
  pub order : lo ≤ hi

module _ (i halves : ℕ) (p : Paired i halves) (fits : halves < 2 ^ 64) where
  -- the code may shift by i
  pub shift : i < 64
  shift = omega (arith, p.has, pow_below 64 p.m (omega (arith, p.size)))

  pub stride : 1 * 2 ^ i % 2 ^ 64 ≡ 2 ^ i
  stride = mod-eq_of_lt (omega (arith, p.size, pow_mono p.has)) ∙ omega arith

  -- a run that begins within the slice ends within it
  pub run-within : (q : ℕ) → First i q → q < halves / 4 → q + 1 * 2 ^ i % 2 ^ 64 ≤ halves / 4
  run-within q F h = omega (arith, stride, p.size, F.is, fits-block i p.m F.run p.has (omega (arith, p.size, F.is)))

  -- the places of pair q, where its first is computed by itself
  pub pair : (q lo : ℕ) → 4 * q + 4 ≤ halves → ((j : ℕ) → 1 * 2 ^ i % 2 ^ 64 ≡ 2 ^ j → lo ≡ ins j 0 q)
      → Pair i halves q lo (lo + 1 * 2 ^ i % 2 ^ 64)
  pair q lo h e =
      let second : lo + 1 * 2 ^ i % 2 ^ 64 ≡ ins i 1 q = omega (arith, e i stride, stride, ins-hi i q) in
      record {
        first = e i stride;
        second = second;
        inside = omega (arith, second, p.size, ins-lt i p.m 1 q p.has (omega arith) (omega (arith, p.size)));
        order = omega arith;
      }

-- ---- neighbours

module _ (q : ℕ) where
  even : flip 0 (q + q) ≡ q + q + 1
  even =
      let z : q + q ≡ q * 2 = omega arith in
      ap (flip 0) z ∙ flip0_even q ∙ ap (λ v. v + 1) (sym z)

  odd : flip 0 (q + q + 1) ≡ q + q
  odd =
      let z : q + q ≡ q * 2 = omega arith in
      ap (λ v. flip 0 (v + 1)) z ∙ flip0_odd q ∙ sym z

  -- the words of pair q under a pass by d
  pub pass-even : (d : ℕ) (t : ℕ → ℕ) → t (q + q) ⊕ d ⊗ (t (q + q) ⊕ t (q + q + 1)) ≡ pass 0 d t (q + q)
  unfolding pass line
  pass-even d t = ap (λ v. t (q + q) ⊕ d ⊗ (t (q + q) ⊕ t v)) (sym even)

  pub pass-odd : (d : ℕ) (t : ℕ → ℕ) → t (q + q + 1) ⊕ d ⊗ (t (q + q) ⊕ t (q + q + 1)) ≡ pass 0 d t (q + q + 1)
  unfolding pass line
  pass-odd d t =
      ap (λ x. t (q + q + 1) ⊕ d ⊗ x) (⊕_comm (t (q + q)) (t (q + q + 1)))
      ∙ ap (λ v. t (q + q + 1) ⊕ d ⊗ (t (q + q + 1) ⊕ t v)) (sym odd)

  -- the pairs below q, and pair q
  pub pair_turn : (d : ℕ) (l ws us : List ℕ) → us ≡ updated (q + q) (λ k w. pass 0 d (at l) k) ws
      → pair_stored q d l us ≡ updated (q + 1 + (q + 1)) (λ k w. pass 0 d (at l) k) ws
  pair_turn d l ws us e =
      let g : ℕ → ℕ → ℕ = λ k w. pass 0 d (at l) k in
      updated-turn (q + q + 1) g ws (set us (q + q) (pass 0 d (at l) (q + q))) (pass 0 d (at l) (q + q + 1))
      (updated-turn (q + q) g ws us (pass 0 d (at l) (q + q)) e refl) refl
      ∙ ap (λ v. updated v g ws) (let z : q + q + 1 + 1 ≡ q + 1 + (q + 1) = omega arith in z)
