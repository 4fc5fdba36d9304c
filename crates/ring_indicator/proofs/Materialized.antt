-- phi of each entry of an equality table, in place, is the indicator's table.
use mathlib.Core.Path.{◌≡◌, ap, ◌∙◌}
use mathlib.Core.List.{List}
use Prim.Native.Nat.{ℕ, ◌+◌, ◌^◌}
use lib.ListN.{length, set}
use Rattle.theory_laws.specs.Table.{tab, at}
use Rattle.theory_laws.proofs.Table.{tab-ext}
use Rattle.theory_laws.proofs.Updates.{updated, updated-read, updated-turn}
use Rattle.theory_multilinear.specs.Equality.{eq_table}
use Rattle.theory_multilinear.specs.Phi.{phi}
use Rattle.theory_multilinear.specs.Partials.{materialize}
use Rattle.theory_multilinear.proofs.Equality.{eq_table-at}
use Rattle.ring_indicator.specs.helpers.Steps.{phi_of_each}

-- a turn of a loop over words in place: word v becomes f of what stood there
pub each_turn : (f : ℕ → ℕ) (v x p : ℕ) (xs ys zs : List ℕ) → ys ≡ updated v (λ i. f) xs → x ≡ at ys v → p ≡ f x → zs ≡ set ys v p
    → zs ≡ updated (v + 1) (λ i. f) xs
each_turn f v x p xs ys zs e r g w =
    w ∙ updated-turn v (λ i. f) xs ys p e (g ∙ ap f (r ∙ updated-read v (λ i. f) xs ys e))

-- what the loop leaves of an equality table
pub materialized : (rb : ℕ → ℕ) (zs es : List ℕ) (m : ℕ) → es ≡ eq_table zs → m ≡ 2 ^ length zs → phi_of_each rb m es ≡ materialize rb zs
unfolding materialize
materialized rb zs es m e h =
    ap (λ n. tab n (λ v. phi rb (at es v))) h ∙ tab-ext (2 ^ length zs) (λ v k. ap (λ l. phi rb (at l v)) e ∙ ap (phi rb) (eq_table-at zs v k))
