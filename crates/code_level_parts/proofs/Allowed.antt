-- What the questions, all answered yes, say of a level and of what is lent; with that no step of the work is refused.
use Prim.Native.Nat.{ℕ, suc, ◌+◌, ◌-◌, ◌*◌, ◌/◌, ◌%◌, ◌^◌, ◌≤◌, ◌<◌}
use mathlib.Core.Path.{◌≡◌, refl, sym, ◌∙◌, ap}
use mathlib.Core.List.{List, [], ◌∷◌, ◌++◌}
use native.Mathlib.Omega.{arith}
use lib.Dec.{eqb, leb, ltb}
use lib.ListN.{length}
use borrow.Author.Tests.{leb-true, ltb-true, eqb-true, le-leb, lt-ltb, eq-eqb}
use Rattle.theory_laws.specs.Lists.{part, flat}
use Rattle.theory_laws.specs.Questions.{◌asks◌, on_done}
use Rattle.theory_laws.proofs.Questions.{all_yes, yes_all}
use Rattle.theory_blake3.specs.Modes.{under}
use Rattle.theory_merkle.specs.Tree.{tree_of}
use Rattle.theory_merkle.specs.Questions.{build_questions}
use Rattle.theory_merkle.specs.Numbers.{build_number}
use Rattle.theory_merkle.specs.PartQuestions.{leaves_questions, parents_questions, leaves_number, parents_number}
use Rattle.theory_code.specs.Questions.{sized, lent}
use Rattle.theory_code.specs.PartQuestions.{fold_part_number}
use Rattle.theory_record.specs.declared.Trees.{Trees}
use Rattle.theory_record.specs.Widths.{Widths, widths_of, level_length, level_width, level_groups, tree_length}
use Rattle.theory_record.specs.Domain.{level_domain}
use Rattle.theory_record.specs.Query.{size_questions}
use Rattle.theory_record.specs.Scheme.{scheme}
use Rattle.theory_record.specs.Trees.{tree_for}
use Rattle.theory_record.proofs.Domain.{level_domain-fits}
use Rattle.theory_record.proofs.Widths.{PowersOfTwo, powers, narrow}
use Rattle.theory_record.proofs.LevelTree.{build_allowed}
use Rattle.theory_record.proofs.Ranges.{SizesFit, sizes_fit, fit_sizes, sizes-small}
use Rattle.tree_parts.specs.Parts.{parents_of}
use Rattle.code_level_parts.specs.Numbers.{next_part_number, level_leaves_number, level_parents_number}
use Rattle.code_level_parts.specs.helpers.Fits.{NextFits, LeavesFit, ParentsFit}

-- ---- the next level

pub next_fits : (n k l first values out : ℕ) {number : ℕ} → number ≡ next_part_number n k l first values out → number ≡ 0
    → NextFits n k l first values out
unfolding next_part_number
next_fits n k l first values out e z =
    let y = sizes_fit n k (all_yes (size_questions n k
    ++ ((4 asks ltb l n) ∷ (5 asks eqb values (2 * level_length n k l)) ∷ (5 asks eqb (out % 2) 0)
    ∷ (11 asks leb (first + out / 2) (level_length n k (suc l))) ∷ [])) tt (sym e ∙ z)) in
    record {
      n_le = y.0.n_most;
      k_le = y.0.k_most;
      level-lt = ltb-true l n y.1.0;
      values_are = eqb-true _ _ y.1.1.0;
      whole = eqb-true _ _ y.1.1.1.0;
      within = leb-true _ _ y.1.1.1.1.0;
    }

-- and where all of that is so, no question says no
pub next_yes : (n k l first values out : ℕ) → SizesFit n k → NextFits n k l first values out → 0 ≡ next_part_number n k l first values out
unfolding next_part_number
next_yes n k l first values out z h =
    sym (yes_all (size_questions n k
    ++ ((4 asks ltb l n) ∷ (5 asks eqb values (2 * level_length n k l)) ∷ (5 asks eqb (out % 2) 0)
    ∷ (11 asks leb (first + out / 2) (level_length n k (suc l))) ∷ []))
    (fit_sizes n k z (lt-ltb l n h.level-lt, (eq-eqb _ _ h.values_are, (eq-eqb _ _ h.whole, (le-leb _ _ h.within, tt))))))

-- the fold of level l is not refused
pub next-allowed : (n k l first values out : ℕ) → NextFits n k l first values out → fold_part_number (n - l) k 0 first values out ≡ 0
unfolding fold_part_number level_length
next-allowed n k l first values out h =
    let e : n + k - l ≡ n - l + k = omega (arith, h.level-lt) in
    let s : n + k - l ≡ suc (n + k - suc l) = omega (arith, h.level-lt) in
    let v : values ≡ 2 * 2 ^ (n - l + k) = h.values_are ∙ ap (λ i. 2 * 2 ^ i) e in
    let p : 2 ^ (n - l + k) ≡ 2 * 2 ^ (n + k - suc l) = ap (λ i. 2 ^ i) (sym e ∙ s) ∙ omega arith in
    let n≤ : n - l ≤ 20 = omega (arith, h.n_le) in
    let var< : 0 < n - l = omega (arith, h.level-lt) in
    let ends : first + out / 2 ≤ 2 ^ (n - l + k) / 2 = omega (arith, h.within, p) in
    yes_all
    (sized (n - l) k
    (lent values (2 ^ (n - l + k)) ∷ (5 asks eqb (out % 2) 0) ∷ (6 asks ltb 0 (n - l)) ∷ (11 asks leb (first + out / 2) (2 ^ (n - l + k) / 2)) ∷ []))
    (le-leb _ _ n≤, (le-leb _ _ h.k_le, (eq-eqb _ _ v, (eq-eqb _ _ h.whole, (lt-ltb _ _ var<, (le-leb _ _ ends, tt))))))

-- so what it leaves is the part
pub done : {A : Type 0} (q v : ℕ) (x y z : A) → q ≡ v → v ≡ 0 → z ≡ on_done q x y → z ≡ x
done q v x y z e f h = rw (e, f) at h

-- ---- the leaves of a level's tree

pub leaves_fit : (s : Widths) (n k l base first values out : ℕ) {number : ℕ} → number ≡ level_leaves_number s n k l base first values out → number ≡ 0
    → LeavesFit s n k l base first values out
unfolding level_leaves_number
leaves_fit s n k l base first values out e z =
    let y = sizes_fit n k (all_yes (size_questions n k
    ++ ((4 asks leb l n) ∷ (5 asks eqb values (2 * level_length n k l)) ∷ (5 asks eqb (out % 32) 0) ∷ (7 asks leb base 200)
    ∷ (11 asks leb (first + out / 32) (level_groups s n k l)) ∷ [])) tt (sym e ∙ z)) in
    record {
      small = sizes-small n k y.0;
      level-le = leb-true l n y.1.0;
      base_le = leb-true base 200 y.1.1.1.1.0;
      values_are = eqb-true _ _ y.1.1.0;
      whole = eqb-true _ _ y.1.1.1.0;
      within = leb-true _ _ y.1.1.1.1.1.0;
    }

pub leaves_yes : (s : Widths) (n k l base first values out : ℕ) → SizesFit n k → LeavesFit s n k l base first values out
    → 0 ≡ level_leaves_number s n k l base first values out
unfolding level_leaves_number
leaves_yes s n k l base first values out z h =
    sym (yes_all (size_questions n k
    ++ ((4 asks leb l n) ∷ (5 asks eqb values (2 * level_length n k l)) ∷ (5 asks eqb (out % 32) 0) ∷ (7 asks leb base 200)
    ∷ (11 asks leb (first + out / 32) (level_groups s n k l)) ∷ []))
    (fit_sizes n k z (
      le-leb l n h.level-le,
      (
        eq-eqb _ _ h.values_are,
        (
          eq-eqb _ _ h.whole,
          (
            le-leb _ _ h.base_le,
            (le-leb _ _ h.within, tt),
          ),
        ),
      ),
    )))

leaves-allowed : (s : Widths) (p : PowersOfTwo s) (n k l domain first values out : ℕ) → s.width ≤ 512 → n + k ≤ 24 → domain ≤ 255
    → values ≡ 2 * level_length n k l → out % 32 ≡ 0 → first + out / 32 ≤ level_groups s n k l
    → leaves_number domain (level_length n k l) (level_width s n k l) first values out ≡ 0
unfolding leaves_number build_number level_groups
leaves-allowed s p n k l domain first values out w small d v whole within =
    let count : ℕ = level_length n k l in
    let width : ℕ = level_width s n k l in
    let tree : ℕ = 32 * tree_length s n k l in
    let y = all_yes (build_questions domain count width values tree) tt (build_allowed s p n k l domain values tree w small d v refl) in
    yes_all (leaves_questions domain count width first values out)
    (y.0, (y.1.0, (y.1.1.0, (y.1.1.1.0, (le-leb _ _ within, (y.1.1.1.1.0, (eq-eqb _ _ whole, tt)))))))

pub leaves-unrefused : (how : Trees) {n k l first : ℕ} (base : List ℕ) {domain : List ℕ} {halves out count width q : ℕ}
    → LeavesFit (widths_of how.set) n k l (length base) first halves out
    → domain ≡ level_domain base l → count ≡ level_length n k l → width ≡ level_width (widths_of how.set) n k l
    → q ≡ leaves_number (length domain) count width first halves out → q ≡ 0
leaves-unrefused how {n} {k} {l} {first} base {halves = halves} {out = out} y ed ec ew e =
    let d : length (level_domain base l) ≤ 255 = omega (arith, level_domain-fits base l y.base_le (omega (arith, y.small, y.level-le))) in
    let w : (widths_of how.set).width ≤ 512 = omega (arith, narrow how.set) in
    let z = leaves-allowed (widths_of how.set) (powers how.set) n k l _ first halves out w y.small d y.values_are y.whole y.within in
    (rw (ed, ec, ew) at e) ∙ z

pub leaves-built : (how : Trees) {n k l first : ℕ} (base values : List ℕ) {domain : List ℕ} {halves count width : ℕ} (out : List ℕ) {t : List ℕ}
    → LeavesFit (widths_of how.set) n k l (length base) first halves (length out)
    → domain ≡ level_domain base l → count ≡ level_length n k l → width ≡ level_width (widths_of how.set) n k l
    → t ≡ on_done (leaves_number (length domain) count width first halves (length out))
    (part (length out) (32 * first) (flat (tree_of (under how.mode) domain count width values))) out
    → t ≡ part (length out) (32 * first) (flat (tree_for (scheme how base n k) l values))
unfolding tree_for
leaves-built how {n} {k} {l} {first} base values {halves = halves} out y ed ec ew e =
    let d : length (level_domain base l) ≤ 255 = omega (arith, level_domain-fits base l y.base_le (omega (arith, y.small, y.level-le))) in
    let w : (widths_of how.set).width ≤ 512 = omega (arith, narrow how.set) in
    let z = leaves-allowed (widths_of how.set) (powers how.set) n k l _ first halves (length out) w y.small d y.values_are y.whole y.within in
    rw (ed, ec, ew, z) at e

-- ---- the parents in a level's tree

pub parents_fit : (n k l base children out : ℕ) {number : ℕ} → number ≡ level_parents_number n k l base children out → number ≡ 0
    → ParentsFit l base children out
unfolding level_parents_number
parents_fit n k l base children out e z =
    let y = sizes_fit n k (all_yes (size_questions n k
    ++ ((4 asks leb l n) ∷ (5 asks eqb (children % 64) 0) ∷ (5 asks eqb out (children / 2)) ∷ (7 asks leb base 200) ∷ [])) tt (sym e ∙ z)) in
    record {
      level-le = omega (arith, y.0.n_most, leb-true l n y.1.0);
      base_le = leb-true base 200 y.1.1.1.1.0;
      pairs = eqb-true _ _ y.1.1.0;
      out_is = eqb-true _ _ y.1.1.1.0;
    }

parents-allowed : (domain children out : ℕ) → domain ≤ 255 → children % 64 ≡ 0 → out ≡ children / 2 → parents_number domain children out ≡ 0
unfolding parents_number
parents-allowed domain children out d pairs half =
    yes_all (parents_questions domain children out) (eq-eqb _ _ pairs, (eq-eqb _ _ half, (le-leb _ _ d, tt)))

pub parents-unrefused : {l : ℕ} (base : List ℕ) {domain : List ℕ} {children out q : ℕ} → ParentsFit l (length base) children out
    → domain ≡ level_domain base l → q ≡ parents_number (length domain) children out → q ≡ 0
parents-unrefused {l} base {children = children} {out = out} y ed e =
    let d : length (level_domain base l) ≤ 255 = omega (arith, level_domain-fits base l y.base_le (omega (arith, y.level-le))) in
    (rw ed at e) ∙ parents-allowed (length (level_domain base l)) children out d y.pairs y.out_is

pub parents-built : (H : List ℕ → List ℕ) {l : ℕ} (height : ℕ) (base children : List ℕ) {domain : List ℕ} (out : List ℕ) {t : List ℕ}
    → ParentsFit l (length base) (length children) (length out) → domain ≡ level_domain base l
    → t ≡ on_done (parents_number (length domain) (length children) (length out)) (parents_of H domain height children) out
    → t ≡ parents_of H (level_domain base l) height children
parents-built H {l} height base children out y ed e =
    let d : length (level_domain base l) ≤ 255 = omega (arith, level_domain-fits base l y.base_le (omega (arith, y.level-le))) in
    let z = parents-allowed (length (level_domain base l)) (length children) (length out) d y.pairs y.out_is in
    rw (ed, z) at e
