-- The tree: its cases, and the specification's wording of it (section 2.1).
use mathlib.Core.Path.{◌≡◌, refl, ap, ◌∙◌}
use mathlib.Core.Logic.{⊎_elim}
use mathlib.Core.List.{List, []}
use Prim.Native.Nat.{ℕ, zero, suc, ◌+◌, ◌-◌, ◌^◌, ◌<◌, ◌≤◌}
use native.Mathlib.Nat.{add-zero, le_trans, mul-le-mul_left}
use native.Mathlib.Omega.{arith}
use lib.ListN.{length, take, drop, length-drop, length-take}
use lib.Pow.{pow_mono}
use borrow.Author.Tests.{le-leb, lt-leb}
use Rattle.theory_blake3.specs.Compression.{cv}
use Rattle.theory_blake3.specs.Chunk.{chunk}
use Rattle.theory_blake3.specs.Tree.{parent, tree, chunks_bytes}
use Rattle.theory_laws.proofs.Numbers.{pow-two, lt_or_le}

-- 2^k chunks, k below n, are fewer bytes than these, and twice as many are not
abbrev pub LeftLevel : List ℕ → ℕ → Type 0
LeftLevel bs n = (k : ℕ) × (k < n) × (chunks_bytes k < length bs) × (length bs ≤ chunks_bytes (suc k))

-- more than a chunk: there is a largest power of two of chunks that leaves something
pub left-level : (bs : List ℕ) → 1024 < length bs → length bs ≤ chunks_bytes 54 → LeftLevel bs 54
left-level bs l u = go 54 u
  where
    go : (n : ℕ) → length bs ≤ chunks_bytes n → LeftLevel bs n
    go zero h = absurd (omega arith)
    go (suc n) h =
        ⊎_elim (λ (a : chunks_bytes n < length bs). (n, omega arith, a, h)) (λ (b : length bs ≤ chunks_bytes n). lift n (go n b))
        (lt_or_le (chunks_bytes n) (length bs))
      where
        lift : (n : ℕ) → LeftLevel bs n → LeftLevel bs (suc n)
        lift n r = (r.0, omega (arith, r.1), r.2, r.3)

module _ (key : List ℕ) (d : ℕ) where
  -- the tree's two cases
  pub tree-low : (k t : ℕ) (bs : List ℕ) (x : ℕ) → length bs ≤ chunks_bytes k → tree key d (suc k) t bs x ≡ tree key d k t bs x
  unfolding tree
  tree-low k t bs x h = simp (le-leb (length bs) (chunks_bytes k) h)

  pub tree-split : (k t : ℕ) (bs : List ℕ) (x : ℕ) → chunks_bytes k < length bs
      → tree key d (suc k) t bs x ≡ parent key d (cv (tree key d k t (take (chunks_bytes k) bs) 0)) (cv (tree key d k (t + 2 ^ k) (drop (chunks_bytes k) bs) 0)) x
  unfolding tree
  tree-split k t bs x h = simp (lt-leb (length bs) (chunks_bytes k) h)

  pub tree-nil : (k t x : ℕ) → tree key d k t [] x ≡ chunk key d t [] x
  unfolding tree
  tree-nil zero t x = refl
  tree-nil (suc k) t x = tree-low k t [] x (omega arith) ∙ tree-nil k t x

  -- more levels than the chunks need change nothing
  pub tree-levels : (k j t : ℕ) (bs : List ℕ) (x : ℕ) → length bs ≤ chunks_bytes k → tree key d (k + j) t bs x ≡ tree key d k t bs x
  tree-levels k zero t bs x h = ap (λ (n : ℕ). tree key d n t bs x) (add-zero k)
  tree-levels k (suc j) t bs x h =
      let e : k + suc j ≡ suc (k + j) = omega arith in
      rw (e, tree-low (k + j) t bs x (le_trans h (mul-le-mul_left 1024 (pow_mono {i = k} {j = k + j} (omega arith))))) (tree-levels k j t bs x h)

  -- where 2^k chunks do not hold the bytes, and 2^(k+1) do, the left subtree is 2^k chunks, the largest power of two that leaves something
  pub tree_is : (k t : ℕ) (bs : List ℕ) (x : ℕ) → k < 54 → chunks_bytes k < length bs → length bs ≤ chunks_bytes (suc k)
      → tree key d 54 t bs x ≡ parent key d (cv (tree key d 54 t (take (chunks_bytes k) bs) 0)) (cv (tree key d 54 (t + 2 ^ k) (drop (chunks_bytes k) bs) 0)) x
  tree_is k t bs x h l u =
      let e : suc k + (54 - suc k) ≡ 54 = omega arith in
      let f : k + (54 - k) ≡ 54 = omega arith in
      let a = rw e at (tree-levels (suc k) (54 - suc k) t bs x u) in
      let b = rw f at (tree-levels k (54 - k) t (take (chunks_bytes k) bs) 0 (simp length-take (omega arith))) in
      let c = rw f at (tree-levels k (54 - k) (t + 2 ^ k) (drop (chunks_bytes k) bs) 0 (simp length-drop (omega (arith, pow-two k)))) in
      a ∙ (rw (b, c) (tree-split k t bs x l))

  -- a chunk alone
  pub tree-one : (t : ℕ) (bs : List ℕ) (x : ℕ) → length bs ≤ 1024 → tree key d 54 t bs x ≡ chunk key d t bs x
  unfolding tree
  tree-one t bs x h = tree-levels 0 54 t bs x h
