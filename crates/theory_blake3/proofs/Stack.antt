-- The stack and the tree: what is folded over the stack is the tree, and merging by the count's trailing zeros gives the next stack.
use mathlib.Core.Path.{◌≡◌, refl, ap, ◌∙◌}
use mathlib.Core.Logic.{⊎_elim}
use mathlib.Core.List.{List, [], ◌∷◌, ◌++◌}
use Prim.Native.Nat.{ℕ, zero, suc, ◌+◌, ◌*◌, ◌-◌, ◌^◌, ◌<◌, ◌≤◌}
use native.Mathlib.Nat.{add_comm, le_of_suc-le-suc, not-suc-le-zero}
use native.Mathlib.Omega.{arith}
use lib.ListN.{length, take, drop, length-append, length-drop, drop_of_length-le}
use lib.Seq.{take-append-le, drop-append-le, take_all}
use lib.Pow.{pow_pos}
use lib.Count.{count_trailing_zeros, ones, ones_in, ones_cat, ones-ones}
use borrow.Author.Tests.{le-leb, lt-leb}
use Rattle.theory_blake3.specs.Compression.{cv}
use Rattle.theory_blake3.specs.Chunk.{chunk}
use Rattle.theory_blake3.specs.Tree.{parent, tree, chunks_bytes}
use Rattle.theory_blake3.specs.Stack.{fold, stack, merge}
use Rattle.theory_blake3.proofs.Tree.{tree-low, tree-split}
use Rattle.theory_laws.proofs.Numbers.{lt_or_le, pow-two, tz_pow, tz_add, tz_ones}

module _ (key : List ℕ) (d : ℕ) where
  -- the stack's two cases
  pub stack_yes : (k t : ℕ) (bs : List ℕ) → chunks_bytes k ≤ length bs
      → stack key d (suc k) t bs ≡ stack key d k (t + 2 ^ k) (drop (chunks_bytes k) bs) ++ (cv (tree key d k t (take (chunks_bytes k) bs) 0) ∷ [])
  unfolding stack
  stack_yes k t bs h = simp (le-leb (chunks_bytes k) (length bs) h)

  pub stack_no : (k t : ℕ) (bs : List ℕ) → length bs < chunks_bytes k → stack key d (suc k) t bs ≡ stack key d k t bs
  unfolding stack
  stack_no k t bs h = simp (lt-leb (chunks_bytes k) (length bs) h)

  pub fold_snoc : (st : List (List ℕ)) (e : List ℕ) (o : ℕ → List ℕ) (x : ℕ)
      → fold key d (st ++ (e ∷ [])) o x ≡ parent key d e (cv (fold key d st o 0)) x
  unfolding fold
  fold_snoc [] e o x = refl
  fold_snoc (s ∷ st) e o x = fold_snoc st e (parent key d s (cv (o 0))) x

  -- the stack over no chunk is empty
  pub stack-nil : (k t : ℕ) → stack key d k t [] ≡ []
  unfolding stack
  stack-nil zero t = refl
  stack-nil (suc k) t = stack_no k t [] (omega (arith, pow_pos k)) ∙ stack-nil k t

  -- n chunks that are finished, and one that is not empty: the tree is the fold
  pub fold-tree : (k t n : ℕ) (done cur : List ℕ) (x : ℕ) → length done ≡ 1024 * n → n < 2 ^ k → 1 ≤ length cur → length cur ≤ 1024
      → fold key d (stack key d k t done) (chunk key d (t + n) cur) x ≡ tree key d k t (done ++ cur) x
  unfolding fold stack tree
  fold-tree zero t n [] cur x e h a b = ap (λ (i : ℕ). chunk key d i cur x) (omega arith)
  fold-tree zero t n (y ∷ ys) cur x e h a b = absurd (omega arith)
  fold-tree (suc k) t n done cur x e h a b =
      ⊎_elim
      (λ (l : n < 2 ^ k).
      let f = fold-tree k t n done cur x e l a b in
      rw (stack_no k t done (omega arith), tree-low key d k t (done ++ cur) x (simp length-append (omega arith))) f)
      (λ (g : 2 ^ k ≤ n).
      let P = 2 ^ k in
      let j : 1024 * P ≤ length done = omega arith in
      let f = fold-tree k (t + P) (n - P) (drop (1024 * P) done) cur 0 (simp length-drop (omega arith)) (omega (arith, pow-two k)) a b in
      let i : (t + P) + (n - P) ≡ t + n = omega arith in
      let f' = rw i at f in
      let split = tree-split key d k t (done ++ cur) x (simp length-append (omega arith)) in
      rw (stack_yes k t done j, fold_snoc, f', split, take-append-le (1024 * P) done cur j, drop-append-le (1024 * P) done cur j))
      (lt_or_le n (2 ^ k))

  pub merge-append : (m : ℕ) (st e : List (List ℕ)) (v : List ℕ) → m ≤ length st → merge key d m (st ++ e) v ≡ merge key d m st v ++ e
  unfolding merge
  merge-append zero st e v h = refl
  merge-append (suc m) [] e v h = absurd (not-suc-le-zero h)
  merge-append (suc m) (s ∷ st) e v h = merge-append m st e (cv (parent key d s v 0)) (le_of_suc-le-suc h)

  pub merge-all : (st : List (List ℕ)) (o : ℕ → List ℕ) → merge key d (length st) st (cv (o 0)) ≡ cv (fold key d st o 0) ∷ []
  unfolding merge fold
  merge-all [] o = refl
  merge-all (s ∷ st) o = merge-all st (parent key d s (cv (o 0)))

  -- a value on the stack for each binary digit that is set
  pub stack-length : (k t n : ℕ) (done : List ℕ) → length done ≡ 1024 * n → n < 2 ^ k → length (stack key d k t done) ≡ ones n
  unfolding stack ones ones_in
  stack-length zero t n done e h =
      let z : n ≡ 0 = omega arith in
      rw z
  stack-length (suc k) t n done e h =
      ⊎_elim
      (λ (l : n < 2 ^ k). rw (stack_no k t done (omega arith)) (stack-length k t n done e l))
      (λ (g : 2 ^ k ≤ n).
      let P = 2 ^ k in
      let j : 1024 * P ≤ length done = omega arith in
      let q : n - P < P = omega (arith, pow-two k) in
      let f = stack-length k (t + P) (n - P) (drop (1024 * P) done) (simp length-drop (omega arith)) q in
      let s : 1 * P + (n - P) ≡ n = omega arith in
      let u = rw s at (ones_cat k 1 (n - P) q) in
      rw (stack_yes k t done j, length-append, f, u) (add_comm (ones (n - P)) 1))
      (lt_or_le n (2 ^ k))

module _ (key : List ℕ) (d : ℕ) where
  -- the chunk that makes them 2^k
  push_full : (K k t n : ℕ) (done c : List ℕ) → k ≤ K → length done ≡ 1024 * n → length c ≡ 1024 → n + 1 ≡ 2 ^ k
      → merge key d (count_trailing_zeros K (n + 1)) (stack key d (suc k) t done) (cv (chunk key d (t + n) c 0)) ≡ stack key d (suc k) t (done ++ c)
  push_full K k t n done c w e m p =
      let l : n < 2 ^ k = omega arith in
      let r : length (done ++ c) ≡ chunks_bytes k = simp length-append (omega arith) in
      let st = stack key d k t done in
      let q : 2 ^ k - 1 ≡ n = omega arith in
      let z : count_trailing_zeros K (n + 1) ≡ k = rw p (tz_pow K k w) in
      let u : length st ≡ k = stack-length key d k t n done e l ∙ rw q at (ones-ones k) in
      let f = fold-tree key d k t n done c 0 e l (omega arith) (omega arith) in
      let g = merge-all key d st (chunk key d (t + n) c) in
      let g' = rw (u, f) at g in
      rw (
        stack_no key d k t done (omega arith),
        z,
        g',
        stack_yes key d k t (done ++ c) (omega arith),
        take_all (chunks_bytes k) (done ++ c) (omega arith),
        drop_of_length-le (done ++ c) {i = chunks_bytes k} (omega arith),
        stack-nil key d k (t + 2 ^ k),
      )

  -- a chunk more: the stack's top values are joined, as many as the new count has trailing zeros
  pub push_stack : (K k t n : ℕ) (done c : List ℕ) → k ≤ K → length done ≡ 1024 * n → length c ≡ 1024 → n + 1 < 2 ^ k
      → merge key d (count_trailing_zeros K (n + 1)) (stack key d k t done) (cv (chunk key d (t + n) c 0)) ≡ stack key d k t (done ++ c)
  push_stack K zero t n done c w e m h = absurd (omega arith)
  push_stack K (suc k) t n done c w e m h =
      ⊎_elim
      (λ (l : n + 1 < 2 ^ k).
      rw (stack_no key d k t done (omega arith), stack_no key d k t (done ++ c) (simp length-append (omega arith)))
      (push_stack K k t n done c (omega arith) e m l))
      (λ (g : 2 ^ k ≤ n + 1).
      ⊎_elim (λ (l : n < 2 ^ k). push_full K k t n done c (omega arith) e m (omega arith)) (λ (g : 2 ^ k ≤ n).
      let P = 2 ^ k in
      let j : 1024 * P ≤ length done = omega arith in
      let jc : 1024 * P ≤ length (done ++ c) = simp length-append (omega arith) in
      let q : n - P + 1 < P = omega (arith, pow-two k) in
      let rest = drop (1024 * P) done in
      let ld : length rest ≡ 1024 * (n - P) = simp length-drop (omega arith) in
      let f = push_stack K k (t + P) (n - P) rest c (omega arith) ld m q in
      let i : (t + P) + (n - P) ≡ t + n = omega arith in
      let s : P + (n - P + 1) ≡ n + 1 = omega arith in
      let z : count_trailing_zeros K (n + 1) ≡ count_trailing_zeros K (n - P + 1) = rw s at (tz_add K k (n - P + 1) (omega arith) q) in
      let b : count_trailing_zeros K (n - P + 1) ≤ length (stack key d k (t + P) rest) =
      rw (stack-length key d k (t + P) (n - P) rest ld (omega arith)) (tz_ones K (n - P)) in
      let f' = rw i at f in
      rw (stack_yes key d k t done j, stack_yes key d k t (done ++ c) jc, z, take-append-le (1024 * P) done c j, drop-append-le (1024 * P) done c j, ← f')
      (merge-append key d (count_trailing_zeros K (n - P + 1)) (stack key d k (t + P) rest) _ _ b))
      (lt_or_le n (2 ^ k)))
      (lt_or_le (n + 1) (2 ^ k))
