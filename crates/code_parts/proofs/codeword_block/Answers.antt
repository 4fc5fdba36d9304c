-- `code_parts::codeword_block` meets its contract.
use mathlib.Core.Path.{refl, ◌∙◌}
use native.Mathlib.Omega.{arith}
use lib.Pow.{pow_pos}
use borrow.Author.Rules.{rules}
use Rattle.theory_field.specs.Words.{words}
use Rattle.code_parts.proofs.Lengths.{within-sizes, block-said}
use Rattle.code_parts.proofs.Block.{block-part}
use Rattle.code_parts.proofs.codeword_block.Goals as goal

pub returns-in_err-questions_within-clause-value : goal.returns-in_err-questions_within-clause-value
returns-in_err-questions_within-clause-value c = search (block-said, rules)

pub align-requires : goal.align-requires
align-requires c =
    let z = within-sizes _ _ _ _ _ _ _ _ c.in_ok-questions_within.ensures refl in
    (refl, omega (arith, z.sizes.table=, pow_pos c.args.n))

pub encode_block-requires : goal.encode_block-requires
encode_block-requires c =
    let z = within-sizes _ _ _ _ _ _ _ _ c.in_ok-questions_within.ensures refl in
    (z.sizes.table=, z.out=, omega arith)

pub invariant_of-code : goal.invariant_of-code
invariant_of-code c = record { sizes = (within-sizes _ _ _ _ _ _ _ _ c.in_ok-questions_within.ensures refl).sizes.shifts }

pub returns : goal.returns
returns c =
    let number = c.in_ok-questions_within.ensures in let z = within-sizes _ _ _ _ _ _ _ _ number refl in
    let a = c.args in record {
      value = block-said _ _ _ _ _ _ _ number;
      out_after = c.encode_block.ensures
          ∙ block-part a.n a.k a.eps (words a.gammas.now) (words a.table.now) z.below;
    }
