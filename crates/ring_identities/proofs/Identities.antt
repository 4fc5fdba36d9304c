-- Both identities hold, by the laws of ring switching; and the words under the row coefficients, summed as the code does, are the extension.
use mathlib.Core.Path.{◌≡◌, sym, ap, ap₂, ◌∙◌}
use mathlib.Core.List.{List}
use Prim.Native.Nat.{ℕ, ◌*◌, ◌^◌}
use lib.ListN.{length}
use Rattle.theory_laws.specs.Sum.{sum}
use Rattle.theory_laws.specs.Table.{at}
use Rattle.theory_laws.proofs.Sum.{sum-ext}
use Rattle.theory_field.specs.Field.{◌⊗◌}
use Rattle.theory_field.specs.Words.{words}
use Rattle.theory_field.proofs.Words.{length-words-even}
use Rattle.theory_multilinear.specs.Equality.{eq_table}
use Rattle.theory_multilinear.specs.Phi.{phi}
use Rattle.theory_multilinear.specs.Partials.{partial_evals, fold_partials}
use Rattle.theory_multilinear.proofs.Equality.{eq_table-at}
use Rattle.theory_multilinear.proofs.Partials.{mle_by_words, partials_mle, fold_of_partials}
use Rattle.field_gf128.specs.declared.Word.{Word}
use Rattle.field_pack.specs.Phi.{numbers, coefficients}
use Rattle.field_pack.proofs.Numbers.{length-numbers}
use Rattle.ring_identities.specs.Identities.{row_sum, extension_of_bits, sum_with_table, Evaluated, Identities, partials_at}

-- the partials, of what is lent alone
pub evaluated : (n : ℕ) (packed point e s : List ℕ) → Evaluated n packed point e s → words s ≡ partials_at n packed point
evaluated n packed point e s v = v.partial_evals_left ∙ ap (partial_evals n (words packed)) v.eq_table_left

pub identities : Identities
identities =
    record {
      first = λ n packed point e s row c v h k.
          ap₂ row_sum (evaluated n packed point e s v) k
          ∙ ap (λ m. row_sum (partials_at m packed point) (eq_table (numbers row))) (sym (length-words-even point n v.coordinates))
          ∙ partials_mle (numbers row) (words point) (words packed) (length-numbers row ∙ h);
      second = λ n packed point e s t rb v k.
          ap (λ l. fold_partials (at l) (coefficients rb)) (evaluated n packed point e s v)
          ∙ ap (λ m. fold_partials (at (partials_at m packed point)) (coefficients rb)) (sym (length-words-even point n v.coordinates))
          ∙ fold_of_partials (words point) (words packed) (coefficients rb)
          ∙ ap₂ (λ m l. sum_with_table m packed l) (length-words-even point n v.coordinates) (sym k);
    }

-- each word under the coefficients of a row point, times its entry of the point's table
pub rows_extension : (n m : ℕ) (packed point e : List ℕ) (row c : List Word) → m ≡ 2 ^ n → length point ≡ 2 * n → words e ≡ eq_table (words point)
    → length row ≡ 7 → numbers c ≡ eq_table (numbers row)
    → sum m (λ v. phi (coefficients c) (at (words packed) v) ⊗ at (words e) v) ≡ extension_of_bits packed point row
rows_extension n m packed point e row c q p f h k =
    ap (λ i. sum i (λ v. phi (coefficients c) (at (words packed) v) ⊗ at (words e) v)) (q ∙ ap (λ i. 2 ^ i) (sym (length-words-even point n p)))
    ∙ sum-ext (2 ^ length (words point)) (λ v j.
    ap₂ ◌⊗◌ (ap (λ (l : List ℕ). phi (at l) (at (words packed) v)) k) (ap (λ (l : List ℕ). at l v) f ∙ eq_table-at (words point) v j))
    ∙ mle_by_words (numbers row) (words point) (at (words packed)) (length-numbers row ∙ h)
