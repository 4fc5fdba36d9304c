-- `code_parts::shift_half` meets its contract.
use Prim.Native.Nat.{ℕ, ◌-◌, ◌^◌, ◌%◌, ◌/◌}
use mathlib.Core.Path.{◌≡◌, ap, ap₂, ◌∙◌}
use native.Mathlib.Omega.{arith}
use lib.ListN.{length}
use Rattle.theory_laws.specs.Xor.{◌⊕◌}
use Rattle.theory_field.specs.Words.{words}
use Rattle.theory_field.proofs.Words.{length-words-even, words-lt}
use Rattle.field_gf128.specs.Word.{word}
use Rattle.theory_multilinear.specs.Fold.{fold_list}
use Rattle.theory_multilinear.specs.Codeword.{shift_at}
use Rattle.theory_multilinear.proofs.Fold.{length-fold_list, fold_list-lt}
use Rattle.code_codeword.proofs.Blocks.{none_passed, all-passed}
use Rattle.code_codeword.proofs.Lengths.{has_bit}
use Rattle.code_parts.proofs.Lengths.{halved}
use Rattle.code_parts.proofs.Block.{half-part}
use Rattle.code_parts.proofs.shift_half.Goals as goal

-- a word whose high half is 0
low_word : (x : ℕ) → word (record { lo = x; hi = 0 }) ≡ x
unfolding word
low_word x = omega arith

pub fold-requires : goal.fold-requires
fold-requires c =
    let a = c.args in let z = c.requires.0 in (
      has_bit a.code.now.n (a.code.now.n - 1) (length a.table.now) (omega (arith, z.some)) z.table=,
      omega (arith, z.table=, z.out=, halved a.code.now.n z.some),
      c.requires.1,
    )

pub returns : goal.returns
returns c =
    let a = c.args in let z = c.requires.0 in let g = words a.code.now.gammas.now in
    let t = words a.table.now in
    let size = length-words-even a.table.now (2 ^ a.code.now.n) z.table= in
    let u = fold_list (a.code.now.n - 1) (a.half % 2 ⊕ shift_at a.code.now.n a.code.now.k g (a.half / 2) (a.code.now.n - 1)) t in
    let folded : words c.fold.new.out ≡ u = c.fold.ensures
    ∙ ap (λ (r : ℕ). fold_list (a.code.now.n - 1) r t) (c.add-r.ensures ∙ ap₂ ◌⊕◌ (low_word _) c.coordinate.ensures) in
    c.shift_table.ensures u
    (folded ∙ none_passed (a.code.now.n - 1) a.code.now.n a.code.now.k g (a.half / 2) u (length-fold_list _ _ t ∙ omega (arith, size, halved a.code.now.n z.some)))
    ∙ all-passed (a.code.now.n - 1) a.code.now.n a.code.now.k g (a.half / 2) u
    (fold_list-lt _ _ t (words-lt a.table.now (λ j. (c.type_inv.table j).fits)))
    ∙ half-part (a.code.now.n - 1) a.code.now.n a.code.now.k a.half g t (omega (arith, z.some)) z.below size
