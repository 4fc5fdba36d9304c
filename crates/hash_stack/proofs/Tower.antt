-- The array of a stack that stands for the finished chunks: one chunk more, and the root over the last one.
use mathlib.Core.Path.{◌≡◌, refl, sym, ap, ◌∙◌, fun_ext}
use mathlib.Core.Logic.{⊎_elim}
use mathlib.Core.List.{List, [], ◌∷◌}
use Prim.Native.Nat.{ℕ, ◌+◌, ◌*◌, ◌-◌, ◌^◌, ◌<◌, ◌≤◌, min}
use native.Mathlib.Nat.{zero-add}
use native.Mathlib.Omega.{arith}
use lib.Count.{count_trailing_zeros, ones, ones-le}
use lib.ListN.{length, take, drop, take-append-drop, length-drop}
use lib.Seq.{length-take-le, take-add}
use Rattle.theory_laws.specs.Lists.{part}
use Rattle.theory_laws.proofs.Lists.{length_part}
use Rattle.theory_blake3.specs.Compression.{cv}
use Rattle.theory_blake3.specs.Chunk.{chunk}
use Rattle.theory_blake3.specs.Tree.{tree}
use Rattle.theory_blake3.specs.Stack.{stack, entries, fold, pushed, pushed_depth}
use Rattle.theory_blake3.proofs.Compression.{cv-cv}
use Rattle.theory_blake3.proofs.Tree.{tree-nil}
use Rattle.theory_blake3.proofs.Stack.{push_stack, fold-tree, stack-nil}
use Rattle.hash_stack.proofs.Array.{pushed-merge, length-cv}
use Rattle.theory_laws.proofs.Numbers.{lt_or_le, tz_ones, ones_next}

-- how many values are joined to the next chunk's, where n chunks are finished
abbrev pub merges : ℕ → ℕ
merges n = count_trailing_zeros 64 (n + 1)

-- the stack after n chunks, in the array a
module _ (key : List ℕ) (d n depth : ℕ) (e : depth ≡ ones n) where
  -- it is as deep as digits are set in the count, and there is room for the next value
  pub tower_merges : merges n ≤ depth
  tower_merges = omega (arith, tz_ones 64 n)

  pub tower_depth : n + 1 < 2 ^ 64 → pushed_depth (merges n) depth ≡ ones (n + 1)
  unfolding pushed_depth
  tower_depth h = omega (arith, ones_next 64 n h, tz_ones 64 n)

  pub tower_room : n + 1 < 2 ^ 14 → depth - merges n < 14
  unfolding pushed_depth
  tower_room h = omega (arith, tower_depth (omega arith), ones-le 14 (n + 1) h)

  -- another chunk
  pub tower_step : (bs a v : List ℕ) → n + 1 < 2 ^ 14 → 1024 * n + 1024 ≤ length bs → length a ≡ 112
      → entries a depth ≡ stack key d 54 0 (take (1024 * n) bs) → v ≡ cv (chunk key d n (part 1024 (1024 * n) bs) 0)
      → entries (pushed key d (merges n) a depth v) (pushed_depth (merges n) depth) ≡ stack key d 54 0 (take (1024 * (n + 1)) bs)
  unfolding part
  tower_step bs a v h l w st ev =
      let c = part 1024 (1024 * n) bs in
      let o = chunk key d n c 0 in
      let k : 1024 * (n + 1) ≡ 1024 * n + 1024 = omega arith in
      let front = take (1024 * n) bs in
      let f = push_stack key d 64 54 0 n front c (omega arith) (length-take-le (1024 * n) bs (omega arith)) (length_part 1024 (1024 * n) bs l) (omega arith) in
      let f' = rw (zero-add n) at f in
      pushed-merge key d (merges n) depth a v tower_merges (omega (arith, tower_room h)) (rw ev (length-cv o))
      ∙ rw (st, ev, cv-cv o) f'
      ∙ ap (stack key d 54 0) (sym (take-add (1024 * n) 1024 bs) ∙ ap (λ (m : ℕ). take m bs) (sym k))

nil_of : (bs : List ℕ) → length bs < 1 → bs ≡ []
nil_of [] h = refl
nil_of (b ∷ bs) h = absurd (omega arith)

-- the parents over the last chunk make the tree
pub tower_root : (key : List ℕ) (d n : ℕ) (bs : List ℕ) (st : List (List ℕ)) (o : ℕ → List ℕ) (x : ℕ) → 1024 * n ≤ length bs
    → length bs ≤ 1024 * n + 1024 → min 1 (length bs) ≤ length bs - 1024 * n → n < 2 ^ 14 → st ≡ stack key d 54 0 (take (1024 * n) bs)
    → ((y : ℕ) → o y ≡ chunk key d n (drop (1024 * n) bs) y) → fold key d st o x ≡ tree key d 54 0 bs x
unfolding fold
tower_root key d n bs st o x h l m b p q =
    ⊎_elim
    (λ (z : length bs < 1).
    let e : bs ≡ [] = nil_of bs z in
    let i : n ≡ 0 = omega arith in
    rw (p, e, i, stack-nil key d 54 0) (q x ∙ rw (e, i) (sym (tree-nil key d 54 0 x))))
    (λ (z : 1 ≤ length bs).
    let front = take (1024 * n) bs in
    let f =
    fold-tree key d 54 0 n front (drop (1024 * n) bs) x (length-take-le (1024 * n) bs h) (omega arith) (simp length-drop (omega arith))
    (simp length-drop (omega arith)) in
    let f' = rw (zero-add n, take-append-drop) at f in
    rw p (ap (λ (c : ℕ → List ℕ). fold key d (stack key d 54 0 front) c x) (fun_ext q) ∙ f'))
    (lt_or_le (length bs) 1)
