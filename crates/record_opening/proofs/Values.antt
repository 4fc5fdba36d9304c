-- The values of a group, read one after the other.
use Prim.Native.Nat.{ℕ, ◌+◌, ◌*◌, ◌<◌, ◌≤◌}
use mathlib.Core.Path.{◌≡◌, sym, ◌∙◌, ap, ap₂}
use mathlib.Core.List.{List, []}
use native.Mathlib.Omega.{arith}
use lib.ListN.{length, take, drop, length-map, get_or-map}
use lib.Seq.{ext_get_or, get_or-take, drop-drop, length-take-le}
use Rattle.theory_laws.specs.Table.{at}
use Rattle.theory_laws.specs.Lists.{part, runs, le_value}
use Rattle.theory_laws.proofs.Lists.{length_runs, get_d_runs}
use Rattle.theory_field.specs.Words.{words, joined}
use Rattle.theory_field.proofs.Words.{Filled, at_words, length-words-even}
use Rattle.theory_merkle.specs.Tree.{leaf_digest}
use Rattle.theory_record.specs.Widths.{widest}
use Rattle.record_opening.specs.helpers.Opening.{values_from}

pub value-from : (s : List ℕ) (from c j : ℕ) → j < c → at (values_from s from c) j ≡ le_value (part 16 (from + 16 * j) s)
unfolding values_from le_value part
value-from s from c j h =
    get_or-map le_value (runs 16 c (drop from s)) j [] ∙ ap le_value (get_d_runs 16 c j (drop from s) h ∙ ap (take 16) (drop-drop (16 * j) from s))

pub length-values_from : (s : List ℕ) (from c : ℕ) → length (values_from s from c) ≡ c
unfolding values_from
length-values_from s from c = length-map (runs 16 c (drop from s)) le_value ∙ length_runs 16 c (drop from s)

-- a slice whose first words are filled with them
pub values_filled : (s : List ℕ) (from c i : ℕ) (v : List ℕ) → Filled (λ j. le_value (part 16 (from + 16 * j) s)) i v → length v ≡ 2 * widest
    → c ≤ widest → c ≤ i → words (take (2 * c) v) ≡ values_from s from c
values_filled s from c i v f n h g =
    let len : length (take (2 * c) v) ≡ 2 * c = length-take-le (2 * c) v (omega arith) in
    let k : length (words (take (2 * c) v)) ≡ c = length-words-even (take (2 * c) v) c len in
    ext_get_or 0 (words (take (2 * c) v)) (values_from s from c) (k ∙ sym (length-values_from s from c)) (λ j p.
    let q : j < c = omega arith in
    at_words (take (2 * c) v) j
    ∙ ap₂ joined (get_or-take (2 * c) v (2 * j + 1) 0 (omega arith)) (get_or-take (2 * c) v (2 * j) 0 (omega arith))
    ∙ sym (at_words v j) ∙ f j (omega arith) ∙ sym (value-from s from c j q))

-- the halves of the group's words
pub halves_long : (c : ℕ) (l : List ℕ) → length l ≡ 2 * widest → c ≤ widest → 2 * c ≡ length (take (2 * c) l)
halves_long c l n h = sym (length-take-le (2 * c) l (omega arith))

pub leaf_of_values : (H : List ℕ → List ℕ) (domain : List ℕ) (count width g : ℕ) (ws vs d : List ℕ) → d ≡ leaf_digest H domain count width g ws → ws ≡ vs
    → d ≡ leaf_digest H domain count width g vs
leaf_of_values H domain count width g ws vs d e f = e ∙ ap (leaf_digest H domain count width g) f

pub halves-back : (c : ℕ) (l : List ℕ) → length l ≡ 2 * widest → c ≤ widest → length (take (2 * c) l) ≡ 2 * c
halves-back c l n h = sym (halves_long c l n h)
