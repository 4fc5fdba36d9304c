-- The small values, those of comparing among them, hold of the definitions, all of them by one fact. All but the inverse are computed: that
-- one is the word whose product with 2 is 1.
use mathlib.Core.Path.{◌≡◌, refl, sym, ap}
use mathlib.Core.List.{◌++◌}
use lib.Dec.{lit<}
use lib.ListN.{drop}
use Rattle.theory_laws.specs.Xor.{◌⊕◌, sel}
use Rattle.theory_laws.specs.Sum.{sum}
use Rattle.theory_laws.specs.Table.{tab}
use Rattle.theory_laws.specs.Places.{ins}
use Rattle.theory_field.specs.Field.{reduction, xtime, mul_bits, ◌⊗◌, sq, inverse}
use Rattle.theory_field.proofs.Inverse.{inverse_unique}
use Rattle.theory_multilinear.specs.Equality.{prod, factor, eq_at, eq_table}
use Rattle.theory_multilinear.specs.Multilinear.{mle}
use Rattle.theory_multilinear.specs.Fold.{line, fold_at, fold_list}
use Rattle.theory_multilinear.specs.Folds.{folds_list, dropped_at, remaining, shifted}
use Rattle.theory_multilinear.specs.Codeword.{gamma, shift_at, shift, shift_over, block, in_blocks, encode}
use Rattle.theory_multilinear.specs.Points.{vertex, add_point}
use Rattle.theory_multilinear.specs.Phi.{phi}
use Rattle.theory_multilinear.specs.Partials.{partial, partial_evals, materialize, indicator}
use Rattle.theory_laws.specs.Lists.{flat, le_bytes, same}
use Rattle.theory_merkle.specs.Message.{prefixed, serialize_prefix, serialize_parts, words_bytes}
use Rattle.theory_merkle.specs.Message.{leaf_label, leaf_prefix, leaf_rest, leaf_message, node_label, node_message}
use Rattle.theory_merkle.specs.Binding.{differing, last_differing, messages, messages_of, collision}
use Rattle.theory_record.specs.Widths.{widths_of, width_for, level_length, level_width}
use Rattle.theory_record.specs.Domain.{decimal_within, decimal, level_domain}
use Rattle.theory_record.specs.Query.{pair_of}
use Rattle.theory_compare.specs.Compare.{opening_found, pair_found, levels_found, in_buffer}
use Rattle.theory_small_values.specs.Compare.{compare_cases}
use Rattle.theory_small_values.specs.Cases.{one, codeword, cases, AllHold}

inverse_of_2 : inverse 2 ≡ 0x80000000000000000000000000000043
unfolding reduction xtime mul_bits ◌⊗◌ sel ◌⊕◌
inverse_of_2 = sym (inverse_unique 2 0x80000000000000000000000000000043 (lit< tt) (lit< tt) refl)

pub all_hold : AllHold (cases ++ compare_cases)
unfolding codeword reduction xtime mul_bits ◌⊗◌ sq sel ◌⊕◌ sum tab ins prod factor eq_at eq_table mle line fold_at fold_list
    folds_list dropped_at remaining shifted gamma shift_at shift shift_over vertex add_point block in_blocks encode phi partial partial_evals materialize indicator
    flat le_bytes same prefixed serialize_prefix serialize_parts leaf_label node_label words_bytes leaf_prefix leaf_rest leaf_message node_message
    differing last_differing messages messages_of collision widths_of width_for level_length level_width decimal_within decimal level_domain
    pair_of opening_found pair_found levels_found in_buffer
all_hold = (refl, (refl, (refl, (ap one inverse_of_2, rest))))
  where
    -- all but the first four
    rest : AllHold (drop 4 (cases ++ compare_cases))
    rest = (refl, (refl, (refl, (refl, (refl, (refl, (refl, (refl, (refl, (refl, (refl, (refl, (refl, (refl, (refl, (refl, (refl, (refl, tt))))))))))))))))))
