-- The parents of a run of pairs, a few at once.
use Prim.Native.Nat.{ℕ, ◌+◌, ◌-◌, ◌*◌, ◌/◌, ◌%◌, ◌≤◌}
use mathlib.Core.Path.{◌≡◌, refl, sym, ◌∙◌, ap}
use mathlib.Core.List.{List, ◌++◌}
use native.Mathlib.Omega.{arith}
use lib.ListN.{length, take, drop}
use lib.Seq.{drop-drop, take_at, take_all}
use Rattle.theory_laws.specs.Lists.{part, runs, flat, stored}
use Rattle.theory_laws.proofs.Lists.{length_runs, runs-take, runs_same, length-flat, flat_append, stored-all, length-stored, drop-stored}
use Rattle.theory_merkle.specs.Digests.{DigestsLong}
use Rattle.theory_merkle.specs.Tree.{parents}
use Rattle.theory_merkle.proofs.Levels.{length-parents, parents-long}
use Rattle.bytes_numbers.specs.helpers.Put.{Put}
use Rattle.tree_by_fours.proofs.Splits.{parents-split}
use Rattle.tree_by_fours.proofs.Walk.{put_then}
use Rattle.tree_by_fours.proofs.Parents.{parents_end}
use Rattle.tree_parts.specs.Parts.{parents_of}
use Rattle.tree_parts.specs.helpers.Some.{some_parents}

module _ (H : List ℕ → List ℕ) (sized : DigestsLong H) (domain : List ℕ) (level : ℕ) where
  pub length_some : (m : ℕ) (l : List ℕ) → length (some_parents H domain level m l) ≡ 32 * m
  length_some m l =
      length-flat 32 (parents H domain level (runs 32 (2 * m) l)) (parents-long H domain sized level (runs 32 (2 * m) l))
      ∙ ap (λ k. 32 * k) (length-parents H domain level m (runs 32 (2 * m) l) (length_runs 32 (2 * m) l))

  -- the parents of what is lent are those of where it begins
  some_lent : (m from : ℕ) (children : List ℕ)
      → some_parents H domain level m (take (from + 64 * m - from) (drop from children)) ≡ some_parents H domain level m (drop from children)
  some_lent m from children =
      let e : from + 64 * m - from ≡ 32 * (2 * m) = omega arith in
      ap (λ (xs : List (List ℕ)). flat (parents H domain level xs)) (rw e (runs-take 32 (2 * m) (drop from children)))

  -- ---- a few, made right after their children

  pub some_made : (m : ℕ) (children both both1 both2 : List ℕ) → length children ≡ 64 * m → 96 * m ≤ length both
      → both1 ≡ stored both 0 children
      → both2 ≡ stored both1 (0 + 64 * m) (some_parents H domain level m (drop 0 both1))
      → take (96 * m - 64 * m) (drop (64 * m) both2) ≡ some_parents H domain level m children
  unfolding part
  some_made m children both both1 both2 n room e f =
      let z : 32 * (2 * m) ≡ length children = omega arith in
      let front : both1 ≡ children ++ drop (0 + length children) both = e ∙ drop-stored both 0 children (omega arith) in
      let same : some_parents H domain level m both1 ≡ some_parents H domain level m children =
      ap (λ (xs : List (List ℕ)). flat (parents H domain level xs)) (runs_same 32 (2 * m) both1 children
      (rw z (ap (take (length children)) front ∙ take_at children (drop (0 + length children) both) (length children) refl
      ∙ sym (take_all (length children) children (omega arith))))) in
      let ps : List ℕ = some_parents H domain level m both1 in
      let j : 0 + 64 * m ≡ 64 * m = omega arith in
      let l : length ps ≡ 32 * m = length_some m both1 in
      let there : drop (64 * m) both2 ≡ ps ++ drop (64 * m + length ps) both1 =
      ap (drop (64 * m)) (f ∙ ap (λ k. stored both1 k ps) j) ∙ drop-stored both1 (64 * m) ps (omega (arith, ap length e, length-stored both 0 children)) in
      let q : 96 * m - 64 * m ≡ 32 * m = omega arith in
      ap (λ k. take k (drop (64 * m) both2)) q
      ∙ ap (take (32 * m)) there ∙ take_at ps (drop (64 * m + length ps) both1) (32 * m) l ∙ same

  -- ---- a turn

  pub parents-turn : (all done m from to next : ℕ) (children out out' r : List ℕ) → done + m ≤ all
      → Put out to (32 * m) (some_parents H domain level m (take (from + 64 * m - from) (drop from children))) out' next
      → stored out to (some_parents H domain level (all - done) (drop from children)) ≡ r
      → stored out' next (some_parents H domain level (all - (done + m)) (drop (from + 64 * m) children)) ≡ r
  parents-turn all done m from to next children out out' r h put e =
      let l : List ℕ = drop from children in
      let b : ℕ = all - (done + m) in
      let s : all - done ≡ m + b = omega arith in
      let j : from + 32 * (2 * m) ≡ from + 64 * m = omega arith in
      let first : List (List ℕ) = parents H domain level (runs 32 (2 * m) l) in
      let more : List (List ℕ) = parents H domain level (runs 32 (2 * b) (drop (from + 64 * m) children)) in
      let split : some_parents H domain level (all - done) l ≡ flat first ++ flat more =
      ap (λ k. some_parents H domain level k l) s ∙ ap flat (parents-split H domain level 32 m b l)
      ∙ flat_append first (parents H domain level (runs 32 (2 * b) (drop (32 * (2 * m)) l)))
      ∙ ap (λ (x : List ℕ). flat first ++ some_parents H domain level b x) (drop-drop (32 * (2 * m)) from children ∙ ap (λ k. drop k children) j) in
      put_then out to (32 * m) (flat first) out' next (flat more) r (rw (some_lent m from children) at put) (ap (stored out to) (sym split) ∙ e)

  -- after the last
  pub parents-made : (all done to : ℕ) (children out out₀ l : List ℕ) → all ≤ done → all ≡ length out₀ / 32 → length children % 64 ≡ 0
      → length out₀ ≡ length children / 2
      → stored out to (some_parents H domain level (all - done) l) ≡ stored out₀ 0 (some_parents H domain level all children)
      → out ≡ parents_of H domain level children
  parents-made all done to children out out₀ l h a pairs half e =
      let n : 2 * all ≡ length children / 32 = omega arith in
      parents_end H domain level all done to l out (stored out₀ 0 (some_parents H domain level all children)) h e
      ∙ stored-all out₀ (some_parents H domain level all children) (length_some all children ∙ omega arith)
      ∙ ap (λ k. flat (parents H domain level (runs 32 k children))) n
