-- Partials tied to the table: two identities, both by changing the order of finite sums.
use mathlib.Core.Path.{◌≡◌, sym, ap, ◌∙◌, fun_ext}
use mathlib.Core.List.{List, ◌++◌}
use Prim.Native.Nat.{ℕ, zero, suc, ◌+◌, ◌*◌, ◌/◌, ◌%◌, ◌^◌, ◌<◌}
use native.Mathlib.Omega.{arith}
use lib.Arith.{digits_div, digits_mod}
use lib.Pow.{pow-add}
use lib.ListN.{length, length-append}
use Rattle.theory_laws.specs.Xor.{bit, sel}
use Rattle.theory_laws.specs.Sum.{sum}
use Rattle.theory_laws.specs.Table.{at}
use Rattle.theory_laws.proofs.Sum.{sum-ext, sum-map, sum_swap, sum_rows, made-bit, made-lt}
use Rattle.theory_laws.proofs.Table.{at-tab}
use Rattle.theory_field.specs.Field.{◌⊗◌}
use Rattle.theory_field.proofs.Product.{⊗-⊕, ⊕-⊗, ⊗_comm, ⊗-sel, zero-⊗, one-⊗-⊗}
use Rattle.theory_multilinear.specs.Equality.{eq_at, eq_table}
use Rattle.theory_multilinear.specs.Multilinear.{mle}
use Rattle.theory_multilinear.specs.Phi.{phi}
use Rattle.theory_multilinear.specs.Partials.{partial, partial_evals, bits_of, word_of, fold_partials, materialize}
use Rattle.theory_multilinear.proofs.Equality.{eq_table-at, eq-append}
use Rattle.theory_multilinear.proofs.Phi.{phi-sum, phi-sel, sel-⊗, word-times}

-- ---- the word of given bits

pub word_of-bit : (b : ℕ → ℕ) → ((j : ℕ) → b j < 2) → (j : ℕ) → j < 128 → bit j (word_of b) ≡ b j
unfolding word_of
word_of-bit b hb j h = made-bit b hb 128 j h

pub word_of-lt : (b : ℕ → ℕ) → ((j : ℕ) → b j < 2) → word_of b < 2 ^ 128
unfolding word_of
word_of-lt b hb = made-lt b hb 128

-- ---- the partials summed with row coefficients, or the words under them

bit-⊗ : (b x y : ℕ) → b < 2 → b ⊗ (x ⊗ y) ≡ sel b (x ⊗ y)
unfolding sel
bit-⊗ zero x y h = zero-⊗ (x ⊗ y)
bit-⊗ (suc zero) x y h = one-⊗-⊗ x y
bit-⊗ (suc (suc b)) x y h = absurd (omega arith)

-- row by row or word by word, for any coefficients c of the rows and any entries e of the words
pub partials_by_words : (rows m : ℕ) (words e c : ℕ → ℕ)
    → sum rows (λ b. partial m words e b ⊗ c b) ≡ sum m (λ v. sum rows (λ b. sel (bit b (words v)) (c b)) ⊗ e v)
unfolding partial
partials_by_words rows m words e c =
    ap (sum rows) (fun_ext (λ b. sum-map (λ x. x ⊗ c b) (λ x y. ⊕-⊗ x y (c b)) m (λ v. sel (bit b (words v)) (e v))))
    ∙ sum_swap rows m (λ b v. sel (bit b (words v)) (e v) ⊗ c b)
    ∙ ap (sum m) (fun_ext (λ v.
    ap (sum rows) (fun_ext (λ b. entry (bit b (words v)) (e v) (c b)))
    ∙ sym (sum-map (λ x. x ⊗ e v) (λ x y. ⊕-⊗ x y (e v)) rows (λ b. sel (bit b (words v)) (c b)))))
  where
    entry : (b x y : ℕ) → sel b x ⊗ y ≡ sel b y ⊗ x
    entry b x y = sel-⊗ b x y ∙ ap (sel b) (⊗_comm x y) ∙ sym (sel-⊗ b y x)

-- the extension of the bits of words, a word's side by side: for a row point rho of any length, the words under its coefficients
bits_by_words : (rho zs : List ℕ) (words : ℕ → ℕ)
    → sum (2 ^ length zs) (λ v. sum (2 ^ length rho) (λ b. sel (bit b (words v)) (eq_at rho b)) ⊗ eq_at zs v)
    ≡ mle (λ x. bit (x % 2 ^ length rho) (words (x / 2 ^ length rho))) (rho ++ zs)
unfolding mle
bits_by_words rho zs words =
    ap (sum (2 ^ length zs)) (fun_ext (λ v.
    sum-map (λ x. x ⊗ eq_at zs v) (λ x y. ⊕-⊗ x y (eq_at zs v)) rows (λ b. sel (bit b (words v)) (eq_at rho b))
    ∙ sum-ext rows (entry v)))
    ∙ sym (sum_rows (2 ^ length zs) rows (λ x. bit (x % rows) (words (x / rows)) ⊗ eq_at (rho ++ zs) x))
    ∙ ap (λ m. sum m (λ x. bit (x % rows) (words (x / rows)) ⊗ eq_at (rho ++ zs) x)) size
  where
    rows : ℕ
    rows = 2 ^ length rho

    size : 2 ^ length zs * 2 ^ length rho ≡ 2 ^ length (rho ++ zs)
    size = rw (length-append rho zs, pow-add 2 (length rho) (length zs)) (omega arith)

    entry : (v b : ℕ) → b < 2 ^ length rho
        → sel (bit b (words v)) (eq_at rho b) ⊗ eq_at zs v
        ≡ bit ((v * 2 ^ length rho + b) % 2 ^ length rho) (words ((v * 2 ^ length rho + b) / 2 ^ length rho)) ⊗ eq_at (rho ++ zs) (v * 2 ^ length rho + b)
    entry v b h =
        rw (eq-append rho zs (v * 2 ^ length rho + b), digits_div v h, digits_mod v h)
        (sel-⊗ (bit b (words v)) (eq_at rho b) (eq_at zs v) ∙ sym (bit-⊗ (bit b (words v)) (eq_at rho b) (eq_at zs v) (omega arith)))

-- for a row point of 7 coordinates
pub mle_by_words : (rho zs : List ℕ) (words : ℕ → ℕ) → length rho ≡ 7
    → sum (2 ^ length zs) (λ v. phi (at (eq_table rho)) (words v) ⊗ eq_at zs v) ≡ mle (bits_of words) (rho ++ zs)
unfolding phi bits_of
mle_by_words rho zs words h =
    ap (sum (2 ^ length zs)) (fun_ext (λ v. ap (λ x. x ⊗ eq_at zs v) (sum-ext 128 (λ b k. ap (sel (bit b (words v))) (eq_table-at rho b (rw h k))))))
    ∙ (rw h at (bits_by_words rho zs words))

-- s_b of a list of words and the equality table of a point
pub partial_evals-at : (zs words : List ℕ) (b : ℕ) → b < 128
    → at (partial_evals (length zs) words (eq_table zs)) b ≡ partial (2 ^ length zs) (at words) (eq_at zs) b
unfolding partial_evals partial
partial_evals-at zs words b h =
    at-tab 128 (partial (2 ^ length zs) (at words) (at (eq_table zs))) b h
    ∙ sum-ext (2 ^ length zs) (λ v k. ap (sel (bit b (at words v))) (eq_table-at zs v k))

-- SPECIFICATION 3.5, first identity: the partials summed with the coefficients of a row point of 7 coordinates are the multilinear
-- extension of the 128 × 2^n bits, the row coordinates first
pub partials_mle : (rho zs words : List ℕ) → length rho ≡ 7
    → sum 128 (λ b. at (partial_evals (length zs) words (eq_table zs)) b ⊗ at (eq_table rho) b) ≡ mle (bits_of (at words)) (rho ++ zs)
unfolding phi
partials_mle rho zs words h =
    sum-ext 128 (λ b k. ap (λ x. x ⊗ at (eq_table rho) b) (partial_evals-at zs words b k))
    ∙ partials_by_words 128 (2 ^ length zs) (at words) (eq_at zs) (at (eq_table rho))
    ∙ mle_by_words rho zs (at words) h

-- ---- the partials folded

-- by rows or by columns
pub fold_partials-phi : (s rb : ℕ → ℕ) → fold_partials s rb ≡ sum 128 (λ j. 2 ^ j ⊗ phi rb (s j))
unfolding fold_partials word_of phi
fold_partials-phi s rb =
    ap (sum 128) (fun_ext (λ i. sum-map (◌⊗◌ (rb i)) (⊗-⊕ (rb i)) 128 (λ j. sel (bit i (s j)) (2 ^ j))))
    ∙ sum_swap 128 128 (λ i j. rb i ⊗ sel (bit i (s j)) (2 ^ j))
    ∙ ap (sum 128) (fun_ext (λ j.
    ap (sum 128) (fun_ext (λ i. ⊗-sel (bit i (s j)) (rb i) (2 ^ j) ∙ ap (sel (bit i (s j))) (⊗_comm (rb i) (2 ^ j)) ∙ sym (⊗-sel (bit i (s j)) (2 ^ j) (rb i))))
    ∙ sym (sum-map (◌⊗◌ (2 ^ j)) (⊗-⊕ (2 ^ j)) 128 (λ i. sel (bit i (s j)) (rb i)))))

pub fold_partials-partial : (m : ℕ) (words e rb : ℕ → ℕ)
    → fold_partials (partial m words e) rb ≡ sum m (λ v. words v ⊗ phi rb (e v))
unfolding partial
fold_partials-partial m words e rb =
    fold_partials-phi (partial m words e) rb
    ∙ ap (sum 128) (fun_ext (λ j.
    ap (λ x. 2 ^ j ⊗ x) (phi-sum rb m (λ v. sel (bit j (words v)) (e v)))
    ∙ sum-map (◌⊗◌ (2 ^ j)) (⊗-⊕ (2 ^ j)) m (λ v. phi rb (sel (bit j (words v)) (e v)))
    ∙ ap (sum m) (fun_ext (λ v. ap (λ x. 2 ^ j ⊗ x) (phi-sel rb (bit j (words v)) (e v)) ∙ ⊗-sel (bit j (words v)) (2 ^ j) (phi rb (e v))))))
    ∙ sum_swap 128 m (λ j v. sel (bit j (words v)) (2 ^ j ⊗ phi rb (e v)))
    ∙ ap (sum m) (fun_ext (λ v. sym (word-times (words v) (phi rb (e v)))))

pub materialize-at : (rb : ℕ → ℕ) (z : List ℕ) (v : ℕ) → v < 2 ^ length z → at (materialize rb z) v ≡ phi rb (eq_at z v)
unfolding materialize
materialize-at rb z v h = at-tab (2 ^ length z) (λ v. phi rb (eq_at z v)) v h

-- SPECIFICATION 3.5, second identity: the partials folded under any row coefficients are the sum over v of word v times entry v of
-- the indicator's table
pub fold_of_partials : (zs words : List ℕ) (rb : ℕ → ℕ)
    → fold_partials (at (partial_evals (length zs) words (eq_table zs))) rb ≡ sum (2 ^ length zs) (λ v. at words v ⊗ at (materialize rb zs) v)
fold_of_partials zs words rb =
    fold_partials-phi (at (partial_evals (length zs) words (eq_table zs))) rb
    ∙ sum-ext 128 (λ j h. ap (λ x. 2 ^ j ⊗ phi rb x) (partial_evals-at zs words j h))
    ∙ sym (fold_partials-phi (partial (2 ^ length zs) (at words) (eq_at zs)) rb)
    ∙ fold_partials-partial (2 ^ length zs) (at words) (eq_at zs) rb
    ∙ sum-ext (2 ^ length zs) (λ v h. ap (λ x. at words v ⊗ x) (sym (materialize-at rb zs v h)))
