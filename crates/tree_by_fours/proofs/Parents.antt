-- Four nodes of a level at once: a turn of the loop.
use Prim.Native.Nat.{ℕ, ◌+◌, ◌-◌, ◌*◌, ◌≤◌}
use mathlib.Core.Path.{◌≡◌, sym, ◌∙◌, ap, ap₂}
use mathlib.Core.List.{List, ◌++◌}
use native.Mathlib.Omega.{arith}
use lib.ListN.{length, take, drop}
use lib.Seq.{drop-drop}
use Rattle.theory_laws.specs.Lists.{part, runs, flat, stored}
use Rattle.theory_laws.proofs.Lists.{part_same, flat_append, stored-nil, take-stored}
use Rattle.theory_merkle.specs.Message.{prefixed, node_prefix}
use Rattle.theory_merkle.specs.Tree.{node_digest, parents}
use Rattle.theory_merkle.proofs.Message.{node_message-is}
use Rattle.bytes_numbers.specs.helpers.Put.{Put}
use Rattle.tree_four_messages.specs.helpers.Strides.{four, Each}
use Rattle.tree_four_messages.proofs.Whole.{four-ext, four_hashed}
use Rattle.tree_by_fours.proofs.Walk.{put_then}
use Rattle.tree_by_fours.proofs.Splits.{four-parents, parents-split}

-- no parent by fours
pub parents-none : (H : List ℕ → List ℕ) (domain : List ℕ) (level dst : ℕ) (l tree : List ℕ)
    → tree ≡ stored tree dst (flat (parents H domain level (runs 32 (2 * 0) l)))
unfolding parents runs flat
parents-none H domain level dst l tree = sym (stored-nil tree dst)

-- the first turn, and after the last
pub parents_begin : (H : List ℕ → List ℕ) (domain : List ℕ) (level all dst : ℕ) (l tree : List ℕ)
    → stored tree dst (flat (parents H domain level (runs 32 (2 * (all - 0)) l))) ≡ stored tree dst (flat (parents H domain level (runs 32 (2 * all) l)))
parents_begin H domain level all dst l tree = let m : all - 0 ≡ all = omega arith in rw m

pub parents_end : (H : List ℕ → List ℕ) (domain : List ℕ) (level all j dst : ℕ) (l tree r : List ℕ) → all ≤ j
    → stored tree dst (flat (parents H domain level (runs 32 (2 * (all - j)) l))) ≡ r → tree ≡ r
unfolding parents runs flat
parents_end H domain level all j dst l tree r h e = let m : 2 * (all - j) ≡ 0 = omega arith in rw (m, stored-nil) at e

-- the level below is kept
pub below-kept : (below dst n k : ℕ) (tree₀ tree tree' d : List ℕ) → take below tree ≡ take below tree₀ → below ≤ dst → Put tree dst n d tree' k
    → take below tree' ≡ take below tree₀
below-kept below dst n k tree₀ tree tree' d same h p = ap (take below) p.bytes ∙ take-stored below tree dst d h ∙ same

-- ---- a turn: four parents, of the eight digests from byte src on

module _ (H : List ℕ → List ℕ) (domain : List ℕ) (level src below : ℕ) (tree₀ tree : List ℕ)
    (same : take below tree ≡ take below tree₀) (within : src + 256 ≤ below) where
  -- a child of the four, among those of the level below
  child : (i : ℕ) → i + 32 ≤ 256 → part 32 (src + i) tree ≡ part 32 i (drop src tree₀)
  unfolding part
  child i h = part_same below 32 (src + i) tree tree₀ same (omega arith) ∙ ap (take 32) (sym (drop-drop i src tree₀))

  module _ (p : ℕ) (m m' : List ℕ) (sized : length (node_prefix domain level) ≡ p) (kept : Each p m (λ k. node_prefix domain level))
      (filled : Each (p + 80) m' (λ k. part p (1024 * k) m ++ (prefixed (part 32 (src + 64 * k) tree) ++ prefixed (part 32 (src + 64 * k + 32) tree)))) where
    -- the digests of the four messages are the four parents
    parents_hashed : flat (four (λ k. H (part (p + 80) (1024 * k) m'))) ≡ flat (parents H domain level (runs 32 8 (drop src tree₀)))
    unfolding node_digest
    parents_hashed =
        let l : List ℕ = drop src tree₀ in
        let rest : ℕ → List ℕ = λ k. prefixed (part 32 (src + 64 * k) tree) ++ prefixed (part 32 (src + 64 * k + 32) tree) in
        four_hashed (node_prefix domain level) p 80 rest m m' sized kept filled H
        ∙ ap flat (four-ext (λ k. H (node_prefix domain level ++ rest k))
        (λ k. node_digest H domain level (part 32 (32 * (2 * k)) l) (part 32 (32 * (2 * k + 1)) l))
        (λ k h.
        let a : part 32 (src + 64 * k) tree ≡ part 32 (32 * (2 * k)) l = child (64 * k) (omega arith)
        ∙ ap (λ i. part 32 i l) (let e : 64 * k ≡ 32 * (2 * k) = omega arith in e) in
        let b : part 32 (src + 64 * k + 32) tree ≡ part 32 (32 * (2 * k + 1)) l
        = ap (λ i. part 32 i tree) (let e : src + 64 * k + 32 ≡ src + (64 * k + 32) = omega arith in e)
        ∙ child (64 * k + 32) (omega arith) ∙ ap (λ i. part 32 i l) (let e : 64 * k + 32 ≡ 32 * (2 * k + 1) = omega arith in e) in
        ap H (sym (node_message-is domain level (part 32 (src + 64 * k) tree) (part 32 (src + 64 * k + 32) tree)))
        ∙ ap₂ (λ (x y : List ℕ). node_digest H domain level x y) a b)
        ∙ sym (four-parents H domain level 32 l))

    pub parents-turn : (all j dst next : ℕ) (tree' r : List ℕ) → j + 4 ≤ all
        → Put tree dst 128 (flat (four (λ k. H (part (p + 80) (1024 * k) m')))) tree' next
        → stored tree dst (flat (parents H domain level (runs 32 (2 * (all - j)) (drop src tree₀)))) ≡ r
        → stored tree' next (flat (parents H domain level (runs 32 (2 * (all - (j + 4))) (drop (src + 256) tree₀)))) ≡ r
    parents-turn all j dst next tree' r lt put e =
        let l : List ℕ = drop src tree₀ in
        let b : ℕ = all - (j + 4) in
        let s : all - j ≡ 4 + b = omega arith in
        let four' : List (List ℕ) = parents H domain level (runs 32 8 l) in
        let more : List (List ℕ) = parents H domain level (runs 32 (2 * b) (drop 256 l)) in
        let split : flat (parents H domain level (runs 32 (2 * (all - j)) l)) ≡ flat four' ++ flat more
        = ap (λ i. flat (parents H domain level (runs 32 (2 * i) l))) s ∙ ap flat (parents-split H domain level 32 4 b l) ∙ flat_append four' more in
        ap (λ (x : List ℕ). stored tree' next (flat (parents H domain level (runs 32 (2 * b) x)))) (sym (drop-drop 256 src tree₀))
        ∙ put_then tree dst 128 (flat four') tree' next (flat more) r (rw parents_hashed at put) (ap (stored tree dst) (sym split) ∙ e)
