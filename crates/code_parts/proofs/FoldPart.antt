-- A part of a fold, entry by entry.
use Prim.Native.Nat.{ℕ, suc, ◌+◌, ◌/◌, ◌^◌, ◌≤◌}
use mathlib.Core.Path.{◌≡◌, sym}
use mathlib.Core.List.{List}
use native.Mathlib.Omega.{arith}
use lib.ListN.{length}
use Rattle.theory_laws.specs.Table.{tab, at}
use Rattle.theory_laws.proofs.Parts.{part-tab}
use Rattle.theory_field.specs.Words.{words}
use Rattle.theory_field.proofs.Words.{length-words-even}
use Rattle.theory_multilinear.specs.Fold.{fold_at, fold_list}
use Rattle.code_parts.specs.Parts.{part_of_fold}
use Rattle.code_parts.specs.helpers.FoldPart.{PartFits}

-- the fold has half as many words as what is folded
fold-room : (var first out : ℕ) (src : List ℕ) → PartFits var first (length src) out → first + out / 2 ≤ length (words src) / 2
fold-room var first out src fits =
    let p = fits.paired in
    omega (arith, fits.within, p.size, length-words-even src (2 ^ suc p.m) p.size)

-- the entries from `first` on are the part of the fold
pub part-made : (var r first out : ℕ) (src : List ℕ) → PartFits var first (length src) out
    → tab (out / 2) (λ v. fold_at var r (at (words src)) (first + v)) ≡ part_of_fold (out / 2) first var r src
unfolding fold_list
part-made var r first out src fits =
    sym (part-tab (out / 2) first (length (words src) / 2) (fold_at var r (at (words src))) (fold-room var first out src fits))
