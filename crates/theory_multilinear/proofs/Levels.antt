-- The levels of a codeword: their lengths, each by the one before, and each by the committed table. Entry eps of the last level
-- is P(r + L(eps)), and its first entry is P(r).
use mathlib.Core.Path.{◌≡◌, refl, sym, ap, ap₂, ◌∙◌, fun_ext}
use mathlib.Core.List.{List, [], ◌∷◌, append-nil, map-append}
use Prim.Native.Nat.{ℕ, zero, suc, ◌+◌, ◌*◌, ◌/◌, ◌^◌, ◌≤◌, ◌<◌}
use native.Mathlib.Nat.{div-one, mod-one, zero-add}
use native.Mathlib.Omega.{arith}
use lib.Pow.{pow_pos}
use lib.ListN.{length, take, drop, replicate, drop_of_length-le}
use lib.Seq.{take-suc, take_all, length-take-le}
use Rattle.theory_laws.specs.Table.{tab, at}
use Rattle.theory_laws.proofs.Table.{at-tab}
use Rattle.theory_multilinear.specs.Multilinear.{mle}
use Rattle.theory_multilinear.specs.Fold.{line, fold_at, fold_list}
use Rattle.theory_multilinear.specs.Folds.{folds, folds_list, at_first}
use Rattle.theory_multilinear.specs.Codeword.{shift, block, in_blocks, encode}
use Rattle.theory_multilinear.specs.Points.{add_point}
use Rattle.theory_multilinear.specs.Levels.{level}
use Rattle.theory_multilinear.proofs.Fold.{fold_at-zero, length-fold_list, fold_list-lt}
use Rattle.theory_multilinear.proofs.Folds.{folds_list-append, folds-first, remaining-first, shifted-first}
use Rattle.theory_multilinear.proofs.Multilinear.{mle-folds}
use Rattle.theory_multilinear.proofs.Block.{block-nil}
use Rattle.theory_multilinear.proofs.Points.{add_point-zero}
use Rattle.theory_multilinear.proofs.Shift.{length_shift, shift_zero}
use Rattle.theory_multilinear.proofs.Codeword.{folds_code}

-- ---- each level by the one before

pub length-level : (l m : ℕ) (c r : List ℕ) → length c ≡ 2 ^ (l + m) → length (level c r l) ≡ 2 ^ m
unfolding level
length-level zero m c r h = h ∙ ap (λ x. 2 ^ x) (zero-add m)
length-level (suc l) m c r h =
    length-fold_list 0 _ (level c r l) ∙ rw (length-level l (suc m) c r (h ∙ ap (λ x. 2 ^ x) (omega arith))) (omega arith)

pub level-lt : (l : ℕ) (c r : List ℕ) → ((v : ℕ) → at c v < 2 ^ 128) → (v : ℕ) → at (level c r l) v < 2 ^ 128
unfolding level
level-lt zero c r h = h
level-lt (suc l) c r h = fold_list-lt 0 _ (level c r l) (level-lt l c r h)

-- entry q comes of entries 2q and 2q + 1
pub level-pair : (l q : ℕ) (c r : List ℕ) → q < length (level c r l) / 2
    → at (level c r (suc l)) q ≡ line (at r l) (at (level c r l) (q * 2)) (at (level c r l) (q * 2 + 1))
unfolding level fold_list
level-pair l q c r h =
    at-tab (length (level c r l) / 2) (fold_at 0 (at r l) (at (level c r l))) q h ∙ fold_at-zero (at r l) (at (level c r l)) q

-- ---- folds at variable 0

pub level-folds : (l : ℕ) (c r : List ℕ) → l ≤ length r → level c r l ≡ folds_list (at_first (take l r)) c
unfolding level folds_list
level-folds zero c r h = refl
level-folds (suc l) c r h =
    ap (fold_list 0 (at r l)) (level-folds l c r (omega arith))
    ∙ sym (folds_list-append (at_first (take l r)) (at_first (at r l ∷ [])) c)
    ∙ ap (λ fs. folds_list fs c) (sym (map-append (λ (x : ℕ). record { var = 0; by = x }) (take l r) (at r l ∷ [])) ∙ ap at_first (sym (take-suc r l 0 h)))

-- ---- each level by the committed table

-- level l: block eps is that, under the last n - l coordinates of L(eps), of the table folded l times by r + L(eps)
pub level_code : (n l m k : ℕ) (gammas t r : List ℕ) → n ≡ l + m → l ≤ length r
    → level (encode n k gammas t) r l
    ≡ tab (2 ^ (m + k)) (in_blocks m (λ eps. block (drop l (shift n k gammas eps)) (folds (at_first (add_point (take l r) (shift n k gammas eps))) (at t))))
level_code n l m k gammas t r e h =
    level-folds l (encode n k gammas t) r h
    ∙ folds_code (at_first (take l r)) k gammas t (folds-first n m (take l r) (e ∙ ap (λ x. x + m) (sym size)))
    ∙ ap (λ F. tab (2 ^ (m + k)) (in_blocks m F)) (fun_ext (λ eps.
    ap₂ (λ ds fs. block ds (folds fs (at t)))
    (remaining-first (take l r) (shift n k gammas eps) ∙ ap (λ x. drop x (shift n k gammas eps)) size)
    (shifted-first (take l r) (shift n k gammas eps) (omega (arith, size, length_shift n k gammas eps)))))
  where
    size : length (take l r) ≡ l
    size = length-take-le l r h

-- the last level
pub last-level : (n k : ℕ) (gammas t r : List ℕ) → length r ≡ n
    → level (encode n k gammas t) r n ≡ tab (2 ^ k) (λ eps. mle (at t) (add_point r (shift n k gammas eps)))
unfolding in_blocks
last-level n k gammas t r h =
    level_code n n 0 k gammas t r (omega arith) (omega arith)
    ∙ ap₂ tab (ap (λ x. 2 ^ x) (zero-add k)) (fun_ext (λ eps.
    rw (div-one eps, mod-one eps, drop_of_length-le (shift n k gammas eps) {i = n} (omega (arith, length_shift n k gammas eps)), take_all n r (omega arith))
    (block-nil (folds (at_first (add_point r (shift n k gammas eps))) (at t)) 0
    ∙ mle-folds (add_point r (shift n k gammas eps)) [] (at t) ∙ ap (mle (at t)) (append-nil (add_point r (shift n k gammas eps))))))

pub last-level-at : (n k eps : ℕ) (gammas t r : List ℕ) → length r ≡ n → eps < 2 ^ k
    → at (level (encode n k gammas t) r n) eps ≡ mle (at t) (add_point r (shift n k gammas eps))
last-level-at n k eps gammas t r h he =
    ap (λ l. at l eps) (last-level n k gammas t r h) ∙ at-tab (2 ^ k) (λ eps. mle (at t) (add_point r (shift n k gammas eps))) eps he

-- its first entry
pub last-level-first : (n k : ℕ) (gammas t r : List ℕ) → length r ≡ n → at (level (encode n k gammas t) r n) 0 ≡ mle (at t) r
last-level-first n k gammas t r h =
    last-level-at n k 0 gammas t r h (pow_pos k)
    ∙ ap (mle (at t)) (ap (add_point r) (shift_zero n k gammas ∙ ap (λ x. replicate x 0) (sym h)) ∙ add_point-zero r)
