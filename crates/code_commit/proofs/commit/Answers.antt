-- `code_commit::commit` meets its contract.
use mathlib.Core.Path.{refl, ◌∙◌, ap}
use Rattle.theory_multilinear.specs.Codeword.{all_coordinates}
use Rattle.code_commit.proofs.Sizes.{not-refused, commit_sizes, derive_allowed, encode-allowed, tree-allowed, made, codeword-made, tree-made}
use borrow.Author.Rules.{rules}
use Rattle.code_commit.proofs.commit.Goals as goal

pub unwrap-requires : goal.unwrap-requires
unwrap-requires c = not-refused _ (c.derive.ensures.value ∙ derive_allowed (commit_sizes c.in_ok-questions.ensures refl))

pub unwrap-requires-2 : goal.unwrap-requires-2
unwrap-requires-2 c =
    not-refused _ (c.encode.ensures.value ∙ encode-allowed (commit_sizes c.in_ok-questions.ensures refl) (search rules))

pub build_level-requires : goal.build_level-requires
build_level-requires c =
    tree-allowed (commit_sizes c.in_ok-questions.ensures refl) (search rules)

pub returns : goal.returns
returns c =
    let h = commit_sizes c.in_ok-questions.ensures refl in
    let g = made _ _ _ _ _ c.derive.ensures.value (derive_allowed h) c.derive.ensures.out_after in
    let w = made _ _ _ _ _ c.encode.ensures.value (encode-allowed h (search rules)) c.encode.ensures.out_after in record { value = c.in_ok-questions.ensures; gammas_after = g; codeword_after = codeword-made _ _ _ _ g w; coordinates_after = c.all_coordinates.ensures ∙ ap all_coordinates h.list=; tree_after = tree-made _ _ _ _ g w _ _ c.build_level.ensures }
