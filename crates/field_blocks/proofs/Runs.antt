-- Runs of blocks: what is asked of their lengths, and how loops take them in, hash them and give them out, block by block.
use mathlib.Core.Path.{◌≡◌, refl, sym, ap, ap₂, ◌∙◌, fun_ext}
use mathlib.Core.List.{List, [], ◌∷◌, map, map-map}
use Prim.Native.Nat.{ℕ, zero, suc, ◌+◌, ◌-◌, ◌*◌, ◌/◌, ◌%◌, ◌≤◌, ◌<◌}
use native.Mathlib.Omega.{arith}
use borrow.Author.Tests.{eqb-true, eq-eqb, ne_eqb}
use lib.Dec.{eqb}
use lib.ListN.{length, take, drop, replicate, length-map}
use lib.Seq.{drop-drop, take_all}
use Rattle.theory_laws.specs.Xor.{◌⊕◌}
use Rattle.theory_laws.specs.Table.{tab, at}
use Rattle.theory_laws.specs.Lists.{part, runs, flat, le_bytes}
use Rattle.theory_laws.specs.Questions.{◌asks◌}
use Rattle.theory_laws.proofs.Questions.{all_yes}
use Rattle.theory_laws.proofs.Table.{tab-ext, at-tab, map_at}
use Rattle.theory_laws.proofs.Lists.{stored-all}
use Rattle.theory_field.specs.Field.{◌⊗◌}
use Rattle.theory_field.proofs.Product.{⊗_comm}
use Rattle.bytes_numbers.specs.helpers.Put.{Put}
use Rattle.field_bytes.specs.Words.{word_bytes}
use Rattle.theory_gcm.specs.Blocks.{imported, exported, blocks}
use Rattle.theory_gcm.specs.helpers.Mirrored.{turned}
use Rattle.theory_gcm.specs.helpers.Hash.{hash_from}
use Rattle.theory_gcm.proofs.Mirrored.{exported-turned}
use Rattle.theory_gcm.proofs.Ghash.{ghash-words}
use Rattle.field_blocks.specs.Answers.{run_number, imported_run, exported_run, hash_number, hashed_of}

-- what the questions, all answered yes, say of the lengths
pub run-sizes : (bytes halves number : ℕ) → number ≡ run_number bytes halves → number ≡ 0 → (bytes % 16 ≡ 0) × (halves ≡ 2 * (bytes / 16))
unfolding run_number
run-sizes bytes halves number e z =
    let y = all_yes ((5 asks eqb (bytes % 16) 0) ∷ (5 asks eqb halves (2 * (bytes / 16))) ∷ []) tt (sym e ∙ z) in
    (eqb-true (bytes % 16) 0 y.0, eqb-true halves (2 * (bytes / 16)) y.1.0)

-- ---- taken in

-- a function of each item of a run, by the items' places
map_runs : (f : List ℕ → ℕ) (n c : ℕ) (l : List ℕ) → map f (runs n c l) ≡ tab c (λ v. f (part n (n * v) l))
unfolding runs tab part
map_runs f n zero l = refl
map_runs f n (suc c) l =
    let e : 0 ≡ n * 0 = omega arith in
    ap₂ (λ (x : ℕ) (r : List ℕ). x ∷ r) (ap (λ (k : ℕ). f (take n (drop k l))) e)
    (map_runs f n c (drop n l) ∙ tab-ext c (λ v h. ap (λ (r : List ℕ). f (take n r)) (drop-drop (n * v) n l ∙ ap (λ (k : ℕ). drop k l) (next v))))
  where
    next : (v : ℕ) → n + n * v ≡ n * suc v
    next v = omega arith

pub imported-tab : (l : List ℕ) → tab (length l / 16) (λ v. imported (part 16 (16 * v) l)) ≡ imported_run l
unfolding imported_run blocks
imported-tab l = sym (map_runs imported 16 (length l / 16) l)

-- ---- hashed

-- what the hash from y is of the blocks that are left from block v on, of n
unfoldable pub hash_left : ℕ → ℕ → ℕ → ℕ → List ℕ → ℕ
hash_left h y n v l = hash_from h y (map imported (runs 16 (n - v) (drop (16 * v) l)))

pub hash_begin : (h : ℕ) (l : List ℕ) → hash_left h 0 (length l / 16) 0 l ≡ hash_from h 0 (imported_run l)
unfolding hash_left imported_run blocks
hash_begin h l =
    let e : length l / 16 - 0 ≡ length l / 16 = omega arith in
    ap (λ (n : ℕ). hash_from h 0 (map imported (runs 16 n l))) e

pub hash-step : (h y y' w n v : ℕ) (l : List ℕ) → v < n → w ≡ imported (part 16 (16 * v) l) → y' ≡ h ⊗ (y ⊕ w)
    → hash_left h y' n (v + 1) l ≡ hash_left h y n v l
unfolding hash_left hash_from runs part
hash-step h y y' w n v l k e f =
    let m : n - v ≡ suc (n - (v + 1)) = omega arith in
    let d : drop (16 * (v + 1)) l ≡ drop 16 (drop (16 * v) l) = ap (λ (i : ℕ). drop i l) next ∙ sym (drop-drop 16 (16 * v) l) in
    sym (ap (λ (i : ℕ). hash_from h y (map imported (runs 16 i (drop (16 * v) l)))) m
    ∙ ap₂ (λ (z : ℕ) (r : List ℕ). hash_from h z (map imported (runs 16 (n - (v + 1)) r))) sum (sym d))
  where
    next : 16 * (v + 1) ≡ 16 * v + 16
    next = omega arith

    sum : (y ⊕ imported (take 16 (drop (16 * v) l))) ⊗ h ≡ y'
    sum = ap (λ (x : ℕ). (y ⊕ x) ⊗ h) (sym e) ∙ ⊗_comm (y ⊕ w) h ∙ sym f

pub hash_end : (h y n v : ℕ) (l : List ℕ) → n ≤ v → hash_left h y n v l ≡ y
unfolding hash_left hash_from runs
hash_end h y n v l k =
    let e : n - v ≡ 0 = omega arith in
    ap (λ (i : ℕ). hash_from h y (map imported (runs 16 i (drop (16 * v) l)))) e

-- ---- given out

pub at_map : (f : ℕ → ℕ) (l : List ℕ) (v : ℕ) → v < length l → f (at l v) ≡ at (map f l) v
at_map f l v h = sym (ap (λ (r : List ℕ). at r v) (map_at f l) ∙ at-tab (length l) (λ i. f (at l i)) v h)

-- the turned words, put one after the other
pub exported-bytes : (ws : List ℕ) (n : ℕ) → length ws ≡ n → word_bytes (map (turned 16) ws) 0 n ≡ exported_run ws
unfolding exported_run part
exported-bytes ws n e =
    ap (λ (l : List ℕ). flat (map (le_bytes 16) l)) (take_all n (map (turned 16) ws) (omega (arith, length-map ws (turned 16))))
    ∙ ap flat (map-map (le_bytes 16) (turned 16) ws ∙ ap (λ (f : ℕ → List ℕ). map f ws) (fun_ext (λ w. sym (exported-turned w))))

pub exported_put : {o out : List ℕ} {to : ℕ} (ws : List ℕ) (n : ℕ) → length ws ≡ n → length o ≡ 16 * n
    → Put o 0 (16 * n) (word_bytes (map (turned 16) ws) 0 n) out to → out ≡ exported_run ws
exported_put {o} ws n e k p = p.bytes ∙ stored-all o (word_bytes (map (turned 16) ws) 0 n) (p.size ∙ sym k) ∙ exported-bytes ws n e

-- ---- the answer of the hash

pub hash-refused : (key bytes : List ℕ) → (length bytes % 16 ≡ 0 → ⊥) → hashed_of key bytes ≡ (5, replicate 16 0)
unfolding hashed_of hash_number
hash-refused key bytes h = rw (ne_eqb (length bytes % 16) 0 h)

pub hash-done : (key bytes : List ℕ) (k w : ℕ) → length bytes % 16 ≡ 0 → k ≡ imported key → w ≡ hash_from k 0 (imported_run bytes)
    → hashed_of key bytes ≡ (0, exported w)
unfolding hashed_of hash_number imported_run
hash-done key bytes k w h e f =
    rw (eq-eqb (length bytes % 16) 0 h)
    (ap (λ (b : List ℕ). (0, b)) (ghash-words key bytes ∙ ap exported (ap (λ (x : ℕ). hash_from x 0 (map imported (blocks bytes))) (sym e) ∙ sym f)))
