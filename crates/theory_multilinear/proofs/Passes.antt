-- How the encoder reaches a block in place, one pass for each coordinate: the passes, for the contracts of its helpers, and that in
-- order of the coordinates they leave the block.
use mathlib.Core.Path.{◌≡◌, sym, ap, ap₂, ◌∙◌, fun_ext}
use mathlib.Core.List.{List, [], ◌∷◌, ◌++◌}
use Prim.Native.Nat.{ℕ, suc, ◌+◌, ◌*◌, ◌/◌, ◌%◌, ◌^◌, ◌≤◌, ◌<◌}
use native.Mathlib.Nat.{add-zero, add-suc, suc-add, div-add-mod'}
use native.Mathlib.Numerals.{add-one}
use native.Mathlib.Omega.{arith}
use lib.ListN.{length, take}
use lib.Seq.{take-suc, length-take-le}
use Rattle.theory_laws.specs.Xor.{◌⊕◌}
use Rattle.theory_laws.specs.Table.{tab, at}
use Rattle.theory_laws.specs.Places.{flip}
use Rattle.theory_laws.proofs.Xor.{zero-⊕}
use Rattle.theory_laws.proofs.Parity.{parity, by-parity}
use Rattle.theory_laws.proofs.Table.{at-tab, tab-ext}
use Rattle.theory_laws.proofs.Places.{flip0_even, flip0_odd, flip-lt}
use Rattle.theory_multilinear.specs.Fold.{line, fold_at}
use Rattle.theory_multilinear.specs.Codeword.{block}
use Rattle.theory_laws.proofs.Parity.{place-half, place-bit}
use Rattle.theory_multilinear.proofs.Fold.{line-turned, fold_at-zero, fold_at-lt}
use Rattle.theory_multilinear.proofs.Multilinear.{mle-nil}
use Rattle.theory_multilinear.proofs.Block.{block-nil, block-cons}

-- the pass at coordinate i by d: each entry a, with b its partner in bit i, becomes a + d × (a + b)
unfoldable pub pass : ℕ → ℕ → (ℕ → ℕ) → ℕ → ℕ
pass i d t v = line d (t v) (t (flip i v))

-- the passes by ds at coordinates i, i + 1, ..
unfoldable pub passes : ℕ → List ℕ → (ℕ → ℕ) → ℕ → ℕ
passes i [] t = t
passes i (d ∷ ds) t = passes (suc i) ds (pass i d t)

-- ---- they leave the block

-- the pass at coordinate 0: an entry becomes the fold of its pair
pass-zero : (d : ℕ) (t : ℕ → ℕ) → ((v : ℕ) → t v < 2 ^ 128) → (v : ℕ) → pass 0 d t v ≡ fold_at 0 (v % 2 ⊕ d) t (v / 2)
unfolding pass
pass-zero d t ht =
    by-parity (λ v. line d (t v) (t (flip 0 v)) ≡ fold_at 0 (v % 2 ⊕ d) t (v / 2))
    (λ w. simp (parity, zero-⊕, flip0_even) (sym (fold_at-zero d t w)))
    (λ w. simp (parity, flip0_odd) (line-turned d (t (w * 2)) (t (w * 2 + 1)) (ht (w * 2)) (ht (w * 2 + 1)) ∙ sym (fold_at-zero (1 ⊕ d) t w)))

-- later passes keep the low bit of a place
passes-suc : (i : ℕ) (ds : List ℕ) (t : ℕ → ℕ) (v : ℕ) → passes (suc i) ds t v ≡ passes i ds (λ w. t (w * 2 + v % 2)) (v / 2)
unfolding passes pass flip
passes-suc i [] t v = ap t (sym (div-add-mod' v 2))
passes-suc i (d ∷ ds) t v =
    passes-suc (suc i) ds (pass (suc i) d t) v
    ∙ ap (λ f. passes (suc i) ds f (v / 2)) (fun_ext (λ w. rw (place-half w v, place-bit w v)))

pub passes-block : (ds : List ℕ) (t : ℕ → ℕ) → ((v : ℕ) → t v < 2 ^ 128) → (v : ℕ) → v < 2 ^ length ds → passes 0 ds t v ≡ block ds t v
unfolding passes
passes-block [] t ht v h = ap t (omega arith) ∙ sym (block-nil t v ∙ mle-nil t (ht 0))
passes-block (d ∷ ds) t ht v h =
    passes-suc 0 ds (pass 0 d t) v
    ∙ ap (λ f. passes 0 ds f (v / 2)) (fun_ext (λ w.
    pass-zero d t ht (w * 2 + v % 2) ∙ rw (place-half w v, place-bit w v)))
    ∙ passes-block ds (fold_at 0 (v % 2 ⊕ d) t) (fold_at-lt 0 (v % 2 ⊕ d) t ht) (v / 2) (let k : v < 2 ^ suc (length ds) = h in omega arith)
    ∙ sym (block-cons d ds t v)

-- the same of a list
pub passes-tab : (ds t : List ℕ) → ((v : ℕ) → at t v < 2 ^ 128) → tab (2 ^ length ds) (passes 0 ds (at t)) ≡ tab (2 ^ length ds) (block ds (at t))
passes-tab ds t h = tab-ext (2 ^ length ds) (passes-block ds (at t) h)

-- ---- pass after pass

passes_snoc : (i : ℕ) (ds : List ℕ) (d : ℕ) (t : ℕ → ℕ) → passes i (ds ++ (d ∷ [])) t ≡ pass (i + length ds) d (passes i ds t)
unfolding passes
passes_snoc i [] d t = rw (add-zero i)
passes_snoc i (e ∷ ds) d t = passes_snoc (suc i) ds d (pass i e t) ∙ rw (add-suc i (length ds), suc-add i (length ds))

-- the pass at coordinate i of the list that the passes before it left
pub pass-next : (n i : ℕ) (ds : List ℕ) (t : ℕ → ℕ) → i ≤ n → i < length ds
    → tab (2 ^ suc n) (pass i (at ds i) (at (tab (2 ^ suc n) (passes 0 (take i ds) t)))) ≡ tab (2 ^ suc n) (passes 0 (take (i + 1) ds) t)
unfolding pass
pass-next n i ds t h k =
    tab-ext (2 ^ suc n) (λ v l. ap₂ (line (at ds i)) (at-tab (2 ^ suc n) before v l) (at-tab (2 ^ suc n) before (flip i v) (flip-lt i n v h l)))
    ∙ ap (tab (2 ^ suc n)) (ap (λ j. pass j (at ds i) before) size ∙ sym (passes_snoc 0 (take i ds) (at ds i) t)
    ∙ ap (λ xs. passes 0 xs t) (sym (take-suc ds i 0 k) ∙ ap (λ j. take j ds) (sym (add-one i))))
  where
    before : ℕ → ℕ
    before = passes 0 (take i ds) t

    size : i ≡ 0 + length (take i ds)
    size = omega (arith, length-take-le i ds (omega arith))
