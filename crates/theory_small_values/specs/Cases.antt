-- The small values of SPECIFICATION 12.1: what the definitions give, and what is expected. Rests on every crate that
-- has one of these definitions.
use Rattle.std.specs.Prelude.{ℕ, ◌^◌, ◌≡◌, List, [], ◌∷◌, map, replicate}
use Rattle.theory_laws.specs.Table.{at}
use Rattle.theory_field.specs.Field.{◌⊗◌, sq, inverse}
use Rattle.theory_multilinear.specs.Equality.{eq_table}
use Rattle.theory_multilinear.specs.Fold.{fold_list}
use Rattle.theory_multilinear.specs.Folds.{folds_list, remaining, shifted}
use Rattle.theory_multilinear.specs.Codeword.{shift, all_coordinates, shift_over, encode}
use Rattle.theory_multilinear.specs.Partials.{partial_evals, indicator}
use Rattle.theory_record.specs.declared.WidthSet.{WidthSet}
use Rattle.theory_record.specs.Widths.{widths_of, width_for}

-- a case: the values that a definition gives, and those of the specification
pub record Case : Type 0 where
  pub given : List ℕ
  pub expected : List ℕ

infix 40 ◌gives◌
abbrev pub ◌gives◌ : List ℕ → List ℕ → Case
a gives b = record { given = a; expected = b }

-- one value
abbrev pub one : ℕ → List ℕ
one x = x ∷ []

-- n = k = 1, table 5, 9, gamma 7
unfoldable pub codeword : List ℕ
codeword = encode 1 1 (one 7) (5 ∷ 9 ∷ [])

abbrev pub cases : List Case
cases =
    (one (2 ^ 127 ⊗ 2) gives one 0x87)
    ∷ (one (3 ⊗ 3) gives one 5)
    ∷ (one (sq (2 ^ 127)) gives one 0xC0000000000000000000000000001067)
    ∷ (one (inverse 2) gives one 0x80000000000000000000000000000043)
    ∷ (eq_table (2 ∷ []) gives (3 ∷ 2 ∷ []))
    ∷ (eq_table (2 ∷ 4 ∷ []) gives (15 ∷ 10 ∷ 12 ∷ 8 ∷ []))
    -- z = (2), point (2), rb[0] = 1, rb[1] = 4, others 0
    ∷ (one (indicator (at (1 ∷ 4 ∷ [])) (2 ∷ []) (2 ∷ [])) gives one 7)
    -- words (5), empty point: s_0 = s_2 = 1, others 0
    ∷ (partial_evals 0 (5 ∷ []) (eq_table []) gives (1 ∷ 0 ∷ 1 ∷ replicate 125 0))
    ∷ (codeword gives (5 ∷ 9 ∷ 33 ∷ 45 ∷ []))
    -- folded by 2
    ∷ (fold_list 0 2 codeword gives (29 ∷ 57 ∷ []))
    -- the second of these is the table 5, 9 folded by 2 + 7: 7 is the coordinate of L(1) that is folded away
    ∷ (folds_list (shifted (record { var = 0; by = 2 } ∷ []) (shift 1 1 (one 7) 1)) (5 ∷ 9 ∷ []) gives one 57)
    -- the coordinates that two folds at variable 1 leave of four, and L(1) read from these
    ∷ (remaining (record { var = 1; by = 2 } ∷ record { var = 1; by = 3 } ∷ []) (all_coordinates 4) gives (0 ∷ 3 ∷ []))
    ∷ (shift_over 4 1 (7 ∷ 8 ∷ 9 ∷ 10 ∷ []) (0 ∷ 3 ∷ []) 1 gives (7 ∷ 10 ∷ []))
    -- the widths of lengths 1, 2, 8, 16 under the present set
    ∷ (map (width_for (widths_of WidthSet.Present)) (1 ∷ 2 ∷ 8 ∷ 16 ∷ []) gives (1 ∷ 2 ∷ 2 ∷ 8 ∷ []))
    -- and of 1, 2, 32, 64 under the wide set
    ∷ (map (width_for (widths_of WidthSet.Wide)) (1 ∷ 2 ∷ 32 ∷ 64 ∷ []) gives (1 ∷ 2 ∷ 2 ∷ 32 ∷ []))
    ∷ []

-- every case of a list gives what is expected
abbrev pub AllHold : List Case → Type 0
AllHold [] = Unit
AllHold (c ∷ cs) = (c.given ≡ c.expected) × AllHold cs
