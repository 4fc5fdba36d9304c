-- The rounds by their orders are the rounds of the definition; the chaining value of a chaining value is itself.
use mathlib.Core.Path.{◌≡◌, refl, ap, ap₂, ◌∙◌}
use mathlib.Core.List.{List}
use Prim.Native.Nat.{ℕ, zero, suc, ◌+◌, ◌<◌}
use native.Mathlib.Numerals.{add-one}
use lib.ListN.{length, drop, get_or}
use lib.Seq.{drop-cons}
use Rattle.theory_laws.specs.Table.{tab}
use Rattle.theory_blake3.specs.Compression.{columns, diagonals, round, rounds, permutation, permuted, cv}
use Rattle.theory_blake3.specs.Orders.{powers, orders, ordered, rounds_by}

-- to permute a message that stands in an order is to permute the order
permuted-ordered : (m o : List ℕ) → permuted (ordered m o) ≡ ordered m (permuted o)
unfolding permuted ordered permutation tab
permuted-ordered m o = refl

rounds-powers : (n : ℕ) (s m o : List ℕ) → rounds n s (ordered m o) ≡ rounds_by (powers n o) s m
unfolding rounds rounds_by powers
rounds-powers zero s m o = refl
rounds-powers (suc n) s m o =
    ap (rounds n (round s (ordered m o))) (permuted-ordered m o) ∙ rounds-powers n (round s (ordered m o)) m (permuted o)

-- the message in its own order is the message, to a round and to the permutation
round_own : (s m : List ℕ) → round s m ≡ round s (ordered m (tab 16 (λ i. i)))
unfolding round columns diagonals ordered tab
round_own s m = refl

permuted_own : (m : List ℕ) → permuted m ≡ permuted (ordered m (tab 16 (λ i. i)))
unfolding permuted permutation ordered tab
permuted_own m = refl

-- seven rounds with the message permuted after each are the rounds that take its words in the seven orders
pub rounds_by_orders : (s m : List ℕ) → rounds 7 s m ≡ rounds_by orders s m
unfolding rounds orders
rounds_by_orders s m = ap₂ (rounds 6) (round_own s m) (permuted_own m) ∙ rounds-powers 7 s m (tab 16 (λ i. i))

-- a turn of a loop over the orders: what is left to do
pub rounds-step : (s m t : List ℕ) (os : List (List ℕ)) (r : ℕ) (d : List ℕ) → r < length os → t ≡ round s (ordered m (get_or os r d))
    → rounds_by (drop (r + 1) os) t m ≡ rounds_by (drop r os) s m
unfolding rounds_by
rounds-step s m t os r d h e = rw (add-one, drop-cons os r d, e)

pub cv-cv : (w : List ℕ) → cv (cv w) ≡ cv w
unfolding cv tab
cv-cv w = refl
