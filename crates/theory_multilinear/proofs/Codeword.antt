-- The codeword: blocks end to end, its entries, and the codeword folded at any variables.
use mathlib.Core.Path.{◌≡◌, refl, sym, ap, ◌∙◌, fun_ext}
use mathlib.Core.List.{List, [], ◌∷◌, ◌++◌}
use Prim.Native.Nat.{ℕ, suc, ◌+◌, ◌*◌, ◌%◌, ◌^◌, ◌≤◌, ◌<◌}
use native.Mathlib.Nat.{suc-mul, mul_comm}
use native.Mathlib.Omega.{arith}
use lib.Arith.{digits_lt, digits_div, digits_mod}
use lib.Pow.{pow-add}
use lib.ListN.{length}
use Rattle.theory_laws.specs.Table.{tab, at}
use Rattle.theory_laws.proofs.Table.{length-tab, at-tab, is-tab, tab-ext, tab-add}
use Rattle.theory_laws.proofs.Places.{ins-high, ins-low}
use Rattle.theory_multilinear.specs.Multilinear.{mle}
use Rattle.theory_multilinear.specs.Fold.{fold_at}
use Rattle.theory_multilinear.specs.Folds.{Fold, folds, folds_list, Folds, none, more, remaining, shifted}
use Rattle.theory_multilinear.specs.Codeword.{shift_at, shift, all_coordinates, shift_over, block, in_blocks, encode}
use Rattle.theory_multilinear.specs.Points.{vertex, add_point}
use Rattle.theory_laws.proofs.Table.{at-tab-lt}
use Rattle.theory_multilinear.proofs.Folds.{folds_list-tab, remaining-map}
use Rattle.theory_multilinear.proofs.Block.{block-lt, block-zero, folds-block}
use Rattle.theory_multilinear.proofs.Shift.{length_shift, shift_zero, shift-map}

-- ---- blocks end to end

pub in_blocks-at : (n eps v : ℕ) (F : ℕ → ℕ → ℕ) → v < 2 ^ n → in_blocks n F (eps * 2 ^ n + v) ≡ F eps v
unfolding in_blocks
in_blocks-at n eps v F h = rw (digits_div eps h, digits_mod eps h)

-- entry eps × 2^n + v of 2^k blocks
pub at-blocks : (n k eps v : ℕ) (F : ℕ → ℕ → ℕ) → eps < 2 ^ k → v < 2 ^ n → at (tab (2 ^ (n + k)) (in_blocks n F)) (eps * 2 ^ n + v) ≡ F eps v
at-blocks n k eps v F he hv = at-tab (2 ^ (n + k)) (in_blocks n F) (eps * 2 ^ n + v) within ∙ in_blocks-at n eps v F hv
  where
    within : eps * 2 ^ n + v < 2 ^ (n + k)
    within = rw (pow-add 2 n k, mul_comm (2 ^ n) (2 ^ k)) (digits_lt he hv)

-- one more block: how a loop over blocks goes on
pub in_blocks-next : (n eps : ℕ) (F : ℕ → ℕ → ℕ) → tab (suc eps * 2 ^ n) (in_blocks n F) ≡ tab (eps * 2 ^ n) (in_blocks n F) ++ tab (2 ^ n) (F eps)
in_blocks-next n eps F =
    ap (λ m. tab m (in_blocks n F)) (suc-mul eps (2 ^ n)) ∙ tab-add (eps * 2 ^ n) (2 ^ n) (in_blocks n F)
    ∙ ap (λ (r : List ℕ). tab (eps * 2 ^ n) (in_blocks n F) ++ r) (tab-ext (2 ^ n) (λ v h. in_blocks-at n eps v F h))

-- a fold acts block by block
fold_at-in_blocks : (i n r : ℕ) (F : ℕ → ℕ → ℕ) → i ≤ n → fold_at i r (in_blocks (suc n) F) ≡ in_blocks n (λ eps. fold_at i r (F eps))
unfolding in_blocks fold_at
fold_at-in_blocks i n r F h =
    fun_ext (λ x. rw (ins-high i n 0 x h (omega arith), ins-high i n 1 x h (omega arith), ins-low i n 0 x h (omega arith), ins-low i n 1 x h (omega arith)))

pub folds-in_blocks : {n m : ℕ} (fs : List Fold) (F : ℕ → ℕ → ℕ) → Folds n m fs → folds fs (in_blocks n F) ≡ in_blocks m (λ eps. folds fs (F eps))
unfolding folds
folds-in_blocks [] F none = refl
folds-in_blocks (f ∷ fs) F (more {n = n} h hs) =
    ap (folds fs) (fold_at-in_blocks f.var n f.by F h) ∙ folds-in_blocks fs (λ eps. fold_at f.var f.by (F eps)) hs

-- ---- the codeword

pub length-encode : (n k : ℕ) (gammas t : List ℕ) → length (encode n k gammas t) ≡ 2 ^ (n + k)
unfolding encode
length-encode n k gammas t = length-tab _ _

pub encode-lt : (n k : ℕ) (gammas t : List ℕ) (x : ℕ) → at (encode n k gammas t) x < 2 ^ 128
unfolding encode in_blocks
encode-lt n k gammas t = at-tab-lt 128 _ _ (λ x. block-lt _ (at t) (x % 2 ^ n))

-- entry eps × 2^n + v
pub encode-at : (n k eps v : ℕ) (gammas t : List ℕ) → eps < 2 ^ k → v < 2 ^ n
    → at (encode n k gammas t) (eps * 2 ^ n + v) ≡ mle (at t) (add_point (vertex n v) (shift n k gammas eps))
unfolding encode block
encode-at n k eps v gammas t he hv =
    at-blocks n k eps v (λ eps. block (shift n k gammas eps) (at t)) he hv ∙ rw (length_shift n k gammas eps)

-- block 0 is the table
pub first_block : (n k : ℕ) (gammas t : List ℕ) → length t ≡ 2 ^ n → ((v : ℕ) → at t v < 2 ^ 128) → tab (2 ^ n) (block (shift n k gammas 0) (at t)) ≡ t
first_block n k gammas t l h =
    sym (is-tab t (2 ^ n) (block (shift n k gammas 0) (at t)) l (λ v b. sym (rw (shift_zero n k gammas) (block-zero n (at t) h v b))))

-- ---- folded at any variables

-- L read at a list of coordinates: a fold drops its variable's
pub remaining-shift : (fs : List Fold) (n k : ℕ) (gammas : List ℕ) (eps : ℕ)
    → remaining fs (shift n k gammas eps) ≡ shift_over n k gammas (remaining fs (all_coordinates n)) eps
unfolding shift_over
remaining-shift fs n k gammas eps = ap (remaining fs) (shift-map n k gammas eps) ∙ remaining-map fs (shift_at n k gammas eps) (all_coordinates n)

-- SPECIFICATION 6.5: block eps of the folded codeword is block eps of the encoding, under the remaining coordinates, of the table
-- folded at the same variables, each challenge r replaced by r plus the entry of L(eps) there
pub folds_code : {n m : ℕ} (fs : List Fold) (k : ℕ) (gammas t : List ℕ) → Folds n m fs
    → folds_list fs (encode n k gammas t)
    ≡ tab (2 ^ (m + k)) (in_blocks m (λ eps. block (remaining fs (shift n k gammas eps)) (folds (shifted fs (shift n k gammas eps)) (at t))))
unfolding encode
folds_code {n = n} {m = m} fs k gammas t hs =
    folds_list-tab fs k (in_blocks n (λ eps. block (shift n k gammas eps) (at t))) hs
    ∙ ap (tab (2 ^ (m + k))) (folds-in_blocks fs (λ eps. block (shift n k gammas eps) (at t)) hs
    ∙ ap (in_blocks m) (fun_ext (λ eps. folds-block fs (shift n k gammas eps) (at t) hs (length_shift n k gammas eps))))

-- the same of an entry, L(eps) being read at the coordinates that remain of 0 to n - 1
pub folds_code_at : {n m : ℕ} (fs : List Fold) (k eps v : ℕ) (gammas t : List ℕ) → Folds n m fs → eps < 2 ^ k → v < 2 ^ m
    → at (folds_list fs (encode n k gammas t)) (eps * 2 ^ m + v)
    ≡ block (shift_over n k gammas (remaining fs (all_coordinates n)) eps) (folds (shifted fs (shift n k gammas eps)) (at t)) v
folds_code_at {n = n} {m = m} fs k eps v gammas t hs he hv =
    ap (λ l. at l (eps * 2 ^ m + v)) (folds_code fs k gammas t hs)
    ∙ at-blocks m k eps v (λ eps. block (remaining fs (shift n k gammas eps)) (folds (shifted fs (shift n k gammas eps)) (at t))) he hv
    ∙ ap (λ ds. block ds (folds (shifted fs (shift n k gammas eps)) (at t)) v) (remaining-shift fs n k gammas eps)
