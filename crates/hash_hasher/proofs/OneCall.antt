-- The digest in one call: a turn of its walk over the chunks, and its end.
use mathlib.Core.Path.{◌≡◌, refl, sym, ap, ap₂, ◌∙◌}
use mathlib.Core.List.{List, [], ◌∷◌}
use Prim.Native.Nat.{ℕ, zero, suc, ◌+◌, ◌*◌, ◌-◌, ◌<◌, ◌≤◌}
use native.Mathlib.Nat.{add-zero}
use native.Mathlib.Omega.{arith}
use lib.Count.{ones, ones_in}
use lib.ListN.{replicate, length, take, drop, length-drop}
use lib.Seq.{take_all}
use Rattle.theory_laws.specs.Lists.{part}
use Rattle.theory_laws.proofs.Lists.{length-stored, lent-part}
use Rattle.theory_blake3.specs.Flags.{root_node}
use Rattle.theory_blake3.specs.Compression.{cv}
use Rattle.theory_blake3.specs.Chunk.{chunk_from, chunk}
use Rattle.theory_blake3.specs.Digest.{bytes_of_words32, root, digest}
use Rattle.theory_blake3.specs.Stack.{stack, entries, fold, pushed, pushed_depth}
use Rattle.theory_blake3.proofs.Stack.{stack-nil}
use Rattle.theory_laws.specs.Table.{at}
use Rattle.hash_four_lanes.specs.helpers.Lane.{lane}
use Rattle.hash_four_chunks.specs.helpers.FourChunks.{which}
use Rattle.hash_stack.specs.declared.Stack.{Stack}
use Rattle.hash_stack.proofs.Tower.{merges, tower_depth, tower_step, tower_root}
use Rattle.hash_hasher.specs.helpers.Walk.{Walked, Four}

-- before the first chunk
pub walk_begin : (key : List ℕ) (d : ℕ) (input : List ℕ) (a : Stack) → a.values ≡ replicate 112 0 → a.depth ≡ 0 → Walked key d input a 0 0
unfolding entries ones ones_in
walk_begin key d input a v n = record {
  place = refl;
  within = omega arith;
  some = omega arith;
  wide = ap length v;
  deep = n;
  tower = ap₂ entries v n ∙ sym (stack-nil key d 54 0);
}

-- the value of one chunk more goes onto the stack
pub walk_push : (key : List ℕ) (d : ℕ) (input : List ℕ) (a : Stack) (from t : ℕ) {a' : Stack} {v : List ℕ} → length input ≤ 16777216
    → 1024 < length input - from
    → Walked key d input a from t → v ≡ cv (chunk key d t (part 1024 from input) 0)
    → a'.depth ≡ pushed_depth (merges t) a.depth → a'.values ≡ pushed key d (merges t) a.values a.depth v → Walked key d input a' (from + 1024) (t + 1)
unfolding pushed
walk_push key d input a from t {a'} {v} m l w g p q =
    let e = w.place in
    let k : from + 1024 ≡ 1024 * (t + 1) = omega (arith, e) in
    let c : v ≡ cv (chunk key d t (part 1024 (1024 * t) input) 0) = g ∙ ap (λ (i : ℕ). cv (chunk key d t (part 1024 i input) 0)) e in
    record {
      place = k;
      within = omega arith;
      some = omega arith;
      wide = ap length q ∙ length-stored a.values _ _ ∙ w.wide;
      deep = p ∙ tower_depth key d t a.depth w.deep (omega arith);
      tower = ap₂ entries q p
          ∙ tower_step key d t a.depth w.deep input a.values v (omega arith) (omega arith) w.wide
          (w.tower ∙ ap (λ (i : ℕ). stack key d 54 0 (take i input)) e) c
          ∙ ap (λ (i : ℕ). stack key d 54 0 (take i input)) (sym k);
    }

-- a turn with one chunk
pub walk_turn : (key : List ℕ) (d : ℕ) (input : List ℕ) (a : Stack) (from t : ℕ) {a' : Stack} {v : List ℕ} (o : ℕ → List ℕ) → length input ≤ 16777216
    → 1024 < length input - from
    → Walked key d input a from t → ((x : ℕ) → o x ≡ chunk key d t (take (from + 1024 - from) (drop from input)) x) → v ≡ cv (o 0)
    → a'.depth ≡ pushed_depth (merges t) a.depth → a'.values ≡ pushed key d (merges t) a.values a.depth v → Walked key d input a' (from + 1024) (t + 1)
walk_turn key d input a from t o m l w f g p q =
    walk_push key d input a from t m l w (g ∙ ap cv (f 0 ∙ ap (λ (bs : List ℕ). chunk key d t bs 0) (lent-part 1024 from input))) p q

-- ---- four chunks at once

part_at : (n i j : ℕ) (l : List ℕ) → j ≡ i + n → take (j - i) (drop i l) ≡ part n i l
part_at n i j l e = ap (λ (k : ℕ). take (k - i) (drop i l)) e ∙ lent-part n i l

-- the lanes that `batch::chunks` gives for four parts that stand one after the other
pub four-values : (key : List ℕ) (d t from : ℕ) (input r : List ℕ)
    → ((k : ℕ) → k < 4 → lane 8 r k ≡ cv (chunk_from d 15 key 1 (at (t ∷ (t + 1) ∷ (t + 2) ∷ (t + 3) ∷ []) k)
    (which (take (from + 1024 - from) (drop from input)) (take (from + 2048 - (from + 1024)) (drop (from + 1024) input))
    (take (from + 3072 - (from + 2048)) (drop (from + 2048) input)) (take (from + 4096 - (from + 3072)) (drop (from + 3072) input)) k) 0))
    → (k : ℕ) → k < 4 → lane 8 r k ≡ cv (chunk key d (t + k) (part 1024 (from + 1024 * k) input) 0)
unfolding which chunk
four-values key d t from input r g zero h = g 0 h
    ∙ ap₂ (λ (n : ℕ) (bs : List ℕ). cv (chunk_from d 15 key 1 n bs 0)) (sym (add-zero t))
    (lent-part 1024 from input ∙ ap (λ (i : ℕ). part 1024 i input) (sym (add-zero from)))
four-values key d t from input r g (suc zero) h = g 1 h
    ∙ ap (λ (bs : List ℕ). cv (chunk_from d 15 key 1 (t + 1) bs 0)) (part_at 1024 (from + 1024) (from + 2048) input (omega arith))
four-values key d t from input r g (suc (suc zero)) h = g 2 h
    ∙ ap (λ (bs : List ℕ). cv (chunk_from d 15 key 1 (t + 2) bs 0)) (part_at 1024 (from + 2048) (from + 3072) input (omega arith))
four-values key d t from input r g (suc (suc (suc zero))) h = g 3 h
    ∙ ap (λ (bs : List ℕ). cv (chunk_from d 15 key 1 (t + 3) bs 0)) (part_at 1024 (from + 3072) (from + 4096) input (omega arith))
four-values key d t from input r g (suc (suc (suc (suc k)))) h = absurd (omega arith)

-- a turn of `push_four`: lane l of the four
pub lane-turn : (key : List ℕ) (d : ℕ) (input : List ℕ) (a : Stack) (from t l : ℕ) {a' : Stack} {v u : List ℕ} → l < 4
    → Four key d input from t v → u ≡ lane 8 v l
    → Walked key d input a (from + 1024 * l) (t + l) → a'.depth ≡ pushed_depth (merges (t + l)) a.depth
    → a'.values ≡ pushed key d (merges (t + l)) a.values a.depth u
    → Walked key d input a' (from + 1024 * (l + 1)) (t + (l + 1))
lane-turn key d input a from t l {a'} {v} {u} h f e w p q =
    let i : from + 1024 * l + 1024 ≡ from + 1024 * (l + 1) = omega arith in
    let j : t + l + 1 ≡ t + (l + 1) = omega arith in
    let r = walk_push key d input a (from + 1024 * l) (t + l) {a' = a'} {v = u} f.small (omega (arith, f.left)) w (e ∙ f.values l h) p q in
    rw (i, j) at r

pub walk_end : (key : List ℕ) (d : ℕ) (input : List ℕ) (a : Stack) (from t : ℕ) {r v : List ℕ} (o p : ℕ → List ℕ) → length input ≤ 16777216
    → length input - from ≤ 1024
    → Walked key d input a from t → ((x : ℕ) → o x ≡ chunk key d t (take (length input - from) (drop from input)) x)
    → ((x : ℕ) → p x ≡ fold key d (entries a.values a.depth) o x) → v ≡ cv (p 8) → r ≡ bytes_of_words32 v → r ≡ digest key d input
unfolding digest root
walk_end key d input a from t o p m l w f g q s =
    let e = w.place in
    let z : take (length input - from) (drop from input) ≡ drop (1024 * t) input
    = take_all (length input - from) (drop from input) (simp length-drop (omega arith)) ∙ ap (λ (i : ℕ). drop i input) e in
    s ∙ ap bytes_of_words32
    (q ∙ ap cv
    (g root_node
    ∙ tower_root key d t input (entries a.values a.depth) o root_node (omega arith) (omega arith) (omega (arith, w.some)) (omega (arith, w.some))
    (w.tower ∙ ap (λ (i : ℕ). stack key d 54 0 (take i input)) e)
    (λ y. f y ∙ ap (λ (bs : List ℕ). chunk key d t bs y) z)))
