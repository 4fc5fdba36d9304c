-- The turns of the loops that write the levels above the leaves.
use Prim.Native.Nat.{ℕ, suc, ◌+◌, ◌-◌, ◌*◌, ◌/◌, ◌^◌, ◌≤◌, ◌<◌}
use mathlib.Core.Path.{◌≡◌, refl, sym, ◌∙◌, ap, ap₂}
use mathlib.Core.List.{List, ◌++◌, append-nil}
use native.Mathlib.Omega.{arith}
use native.Mathlib.Numerals.{add-one}
use lib.Pow.{pow_pos}
use lib.ListN.{length, take, drop, length-drop}
use lib.Seq.{drop-drop, length-take-le}
use Rattle.theory_laws.specs.Lists.{part, runs, flat, stored}
use Rattle.theory_laws.proofs.Lists.{AllLong, length_runs, runs-long, flat-runs, runs-flat, length-flat, part_same, flat_append}
use Rattle.theory_laws.proofs.Lists.{stored-all, stored_same, stored_over, then_stored, take-stored, drop-stored, runs_same}
use Rattle.theory_merkle.specs.Digests.{DigestsLong}
use Rattle.theory_merkle.specs.Message.{prefixed, node_prefix}
use Rattle.theory_merkle.specs.Tree.{node_digest, parents, levels_from, end_to_end}
use Rattle.theory_merkle.proofs.Message.{node_message-is}
use Rattle.theory_merkle.proofs.Levels.{length-parents, parents-long, length-end_to_end, end_to_end-long}
use Rattle.bytes_numbers.specs.helpers.Put.{Put}
use Rattle.tree_digest.specs.helpers.Hashed.{Hashed}
use Rattle.tree_by_fours.proofs.Splits.{parents-split}
use Rattle.tree_by_fours.proofs.Walk.{put_then}

-- ---- one level above another

-- the digest of a node, by the prefix that is kept
node_hashed : (H : List ℕ → List ℕ) (domain : List ℕ) (level : ℕ) (l r message message' d : List ℕ) (prefix : ℕ) → take prefix message ≡ node_prefix domain level
    → Hashed H message prefix (prefixed l ++ prefixed r) message' d
    → d ≡ node_digest H domain level l r
unfolding node_digest
node_hashed H domain level l r message message' d prefix e h = h.digest ∙ ap (λ (p : List ℕ). H (p ++ (prefixed l ++ prefixed r))) e
    ∙ ap H (sym (node_message-is domain level l r))

module _ (H : List ℕ → List ℕ) (domain : List ℕ) (level half j src below : ℕ) (tree₀ : List ℕ)
    {tree tree' message message' l r d out : List ℕ} {dst k prefix : ℕ} where
  pub parents-step : take below tree ≡ take below tree₀ → j < half → src + 64 ≤ below → l ≡ part 32 src tree → r ≡ part 32 (src + 32) tree
      → take prefix message ≡ node_prefix domain level
      → Hashed H message prefix (prefixed l ++ prefixed r) message' d → Put tree dst (length d) d tree' k
      → stored tree dst (flat (parents H domain level (runs 32 (2 * (half - j)) (drop src tree₀)))) ≡ out
      → stored tree' k (flat (parents H domain level (runs 32 (2 * (half - (j + 1))) (drop (src + 64) tree₀)))) ≡ out
  unfolding parents runs flat part
  parents-step same lt fits el er e h p f =
      let x : l ≡ take 32 (drop src tree₀) = el ∙ part_same below 32 src tree tree₀ same (omega arith) in
      let y : r ≡ take 32 (drop (src + 32) tree₀) = er ∙ part_same below 32 (src + 32) tree tree₀ same (omega arith) in
      let z = node_hashed H domain level l r message message' d prefix e h in
      let m : 2 * (half - j) ≡ suc (suc (2 * (half - (j + 1)))) = omega arith in
      let s : src + 32 + 32 ≡ src + 64 = omega arith in
      let rest : List ℕ = flat (parents H domain level (runs 32 (2 * (half - (j + 1))) (drop (src + 64) tree₀))) in
      put_then tree dst (length d) d tree' k rest out p
      (ap (λ (u : List ℕ). stored tree dst (u ++ rest)) (z ∙ ap₂ (λ (a b : List ℕ). node_digest H domain level a b) x y)
      ∙ (rw (m, drop-drop 32 src tree₀, drop-drop 32 (src + 32) tree₀, s) at f))

-- the parents up to one, and those from it on, are all of them
pub parents_join : (H : List ℕ → List ℕ) (sized : DigestsLong H) (domain : List ℕ) (level from half done : ℕ) (t t1 t2 : List ℕ)
    → done ≤ half → from + 96 * half ≤ length t
    → t1 ≡ stored t (from + 64 * half) (flat (parents H domain level (runs 32 (2 * done) (drop from t))))
    → t2 ≡ stored t1 (from + 64 * half + 32 * done) (flat (parents H domain level (runs 32 (2 * (half - done)) (drop (from + 64 * done) t1))))
    → t2 ≡ stored t (from + 64 * half) (flat (parents H domain level (runs 32 (2 * half) (drop from t))))
unfolding part
parents_join H sized domain level from half done t t1 t2 h room e f =
    let rest : ℕ = half - done in
    let below : ℕ = from + 64 * half in
    let s : done + rest ≡ half = omega arith in
    let j : from + 32 * (2 * done) ≡ from + 64 * done = omega arith in
    let a : List (List ℕ) = parents H domain level (runs 32 (2 * done) (drop from t)) in
    let b : List (List ℕ) = parents H domain level (runs 32 (2 * rest) (drop (from + 64 * done) t)) in
    let n : length (flat a) ≡ 32 * done = length-flat 32 a (parents-long H domain sized level (runs 32 (2 * done) (drop from t)))
    ∙ ap (λ k. 32 * k) (length-parents H domain level done (runs 32 (2 * done) (drop from t)) (length_runs 32 (2 * done) (drop from t))) in
    let same : take below t1 ≡ take below t = ap (take below) e ∙ take-stored below t below (flat a) (omega arith) in
    let read : runs 32 (2 * rest) (drop (from + 64 * done) t1) ≡ runs 32 (2 * rest) (drop (from + 64 * done) t)
    = runs_same 32 (2 * rest) _ _ (part_same below (32 * (2 * rest)) (from + 64 * done) t1 t same (omega arith)) in
    let split : parents H domain level (runs 32 (2 * half) (drop from t)) ≡ a ++ b
    = ap (λ k. parents H domain level (runs 32 (2 * k) (drop from t))) (sym s) ∙ parents-split H domain level 32 done rest (drop from t)
    ∙ ap (λ (l : List ℕ). a ++ parents H domain level (runs 32 (2 * rest) l)) (drop-drop (32 * (2 * done)) from t ∙ ap (λ k. drop k t) j) in
    then_stored t t1 t2 below (below + 32 * done) (flat a) (flat b) e (omega arith)
    (f ∙ ap (λ (xs : List (List ℕ)). stored t1 (below + 32 * done) (flat (parents H domain level xs))) read)
    ∙ ap (stored t below) (sym (flat_append a b) ∙ ap flat (sym split))

-- ---- all levels

module _ (H : List ℕ → List ℕ) (sized : DigestsLong H) (domain : List ℕ) where
  abbrev above : ℕ → ℕ → List (List ℕ) → List ℕ
  above depth level ds = flat (end_to_end (levels_from H domain depth level ds))

  -- a level and those above it, in bytes
  above-length : (h l : ℕ) (ds : List (List ℕ)) → length ds ≡ 2 ^ h → AllLong 32 ds → length (above h l ds) + 32 ≡ 64 * 2 ^ h
  above-length h l ds n a =
      let e = length-end_to_end H domain h l ds n in
      omega (arith, length-flat 32 (end_to_end (levels_from H domain h l ds)) (end_to_end-long H domain sized h l ds a))

  pub levels-step : (t t' r : List ℕ) (depth level from m half : ℕ) → level < depth → m ≡ 2 ^ (depth - level) → half ≡ m / 2 → from + 64 * m ≡ length t + 32
      → t' ≡ stored t (from + 64 * half) (flat (parents H domain level (runs 32 (2 * half) (drop from t))))
      → stored t from (above (depth - level) level (runs 32 m (drop from t))) ≡ r
      → stored t' (from + 64 * half) (above (depth - (level + 1)) (level + 1) (runs 32 half (drop (from + 64 * half) t'))) ≡ r
  unfolding end_to_end levels_from
  levels-step t t' r depth level from m half lt e f n w c =
      let k : ℕ = depth - suc level in
      let s : depth - level ≡ suc k = omega arith in
      let e2 : m ≡ 2 * 2 ^ k = e ∙ rw s (omega arith) in
      let hk : half ≡ 2 ^ k = omega arith in
      let m2 : m ≡ 2 * half = omega arith in
      let D : List ℕ = drop from t in
      let l_d : length D ≡ length t - from = length-drop from t in
      let ds : List (List ℕ) = runs 32 (2 * half) D in
      let ps : List (List ℕ) = parents H domain level ds in
      let lp : length ps ≡ half = length-parents H domain level half ds (length_runs 32 (2 * half) D) in
      let ap32 : AllLong 32 ps = parents-long H domain sized level ds in
      let l_u : length (flat ps) ≡ 32 * half = length-flat 32 ps ap32 ∙ ap (λ i. 32 * i) lp in
      let j : ℕ = from + 64 * half in
      let W : List ℕ = above k (suc level) ps in
      let l_w : length W + 32 ≡ 64 * 2 ^ k = above-length k (suc level) ps (lp ∙ hk) ap32 in
      let dr : drop j t' ≡ flat ps ++ drop (j + length (flat ps)) t = ap (drop j) w ∙ drop-stored t j (flat ps) (omega arith) in
      let rn : runs 32 half (drop j t') ≡ ps = ap₂ (λ (i : ℕ) (l : List ℕ). runs 32 i l) (sym lp) dr ∙ runs-flat 32 ps (drop (j + length (flat ps)) t) ap32 in
      let la : length (take (64 * half) D) ≡ 64 * half = length-take-le (64 * half) D (omega arith) in
      let g : stored t' j W ≡ stored t j W = ap (λ (x : List ℕ). stored x j W) w ∙ stored_over t j (flat ps) W (omega arith) in
      let q : stored t j W ≡ stored t from (take (64 * half) D ++ W)
      = then_stored t t (stored t j W) from j (take (64 * half) D) W (sym (stored_same (64 * half) from t)) (omega arith) refl in
      let z : 32 * (2 * half) ≡ 64 * half = omega arith in
      let u : flat (ds ++ end_to_end (levels_from H domain k (suc level) ps)) ≡ take (64 * half) D ++ W
      = flat_append ds (end_to_end (levels_from H domain k (suc level) ps)) ∙ ap (λ (x : List ℕ). x ++ W) (flat-runs 32 (2 * half) D ∙ ap (λ i. take i D) z) in
      ap₂ (λ (i : ℕ) (xs : List (List ℕ)). stored t' j (above (depth - (level + 1)) i xs)) (add-one level) rn
      ∙ ap (λ i. stored t' j (above i (suc level) ps)) (ap (λ i. depth - i) (add-one level))
      ∙ g ∙ q ∙ ap (λ (x : List ℕ). stored t from x) (sym u) ∙ (rw (s, m2) at c)

  pub levels_end : (t r : List ℕ) (depth level from m : ℕ) → depth ≤ level → m ≡ 2 ^ (depth - level)
      → stored t from (above (depth - level) level (runs 32 m (drop from t))) ≡ r → t ≡ r
  unfolding end_to_end levels_from runs flat
  levels_end t r depth level from m h e c =
      let s : depth - level ≡ 0 = omega arith in
      let m1 : m ≡ 1 = e ∙ ap (λ i. 2 ^ i) s in
      sym (stored_same 32 from t) ∙ ap (λ (x : List ℕ). stored t from x) (sym (append-nil (take 32 (drop from t)))) ∙ (rw (s, m1) at c)

  pub levels_begin : (t : List ℕ) (depth groups : ℕ) → groups ≡ 2 ^ depth → length t + 32 ≡ 64 * groups
      → stored t 0 (above (depth - 0) 0 (runs 32 groups t)) ≡ above depth 0 (runs 32 groups t)
  levels_begin t depth groups e n =
      let s : depth - 0 ≡ depth = omega arith in
      let p : 1 ≤ 2 ^ depth = pow_pos depth in
      let a : AllLong 32 (runs 32 groups t) = runs-long 32 groups t (omega arith) in
      let l = above-length depth 0 (runs 32 groups t) (length_runs 32 groups t ∙ e) a in
      rw s (stored-all t (above depth 0 (runs 32 groups t)) (omega arith))
