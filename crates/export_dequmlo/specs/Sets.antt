-- The sets of widths as C names them, by number: 0 is the present one and 1 the wide one. Any other number is refused with 4 before every other question.
use Rattle.std.specs.Prelude.{◌≡◌, ℕ, ◌≤◌, ◌<◌, Result, Ok, Err, leb, eqb}
use Rattle.theory_laws.specs.Questions.{pick}
use Rattle.theory_laws.specs.Refusals.{number_of}
use Rattle.theory_laws.specs.declared.Refusal.{Refusal}
use Rattle.theory_record.specs.declared.WidthSet.{WidthSet}

-- the set that a number names
unfoldable pub set_of : ℕ → WidthSet
set_of widths = pick (eqb widths 0) WidthSet.Present WidthSet.Wide

-- what is made of the set that a number names; where it names none, what is answered or left instead
abbrev pub with_set : {A : Type 0} → ℕ → (WidthSet → A) → A → A
with_set widths made instead = pick (leb widths 1) (made (set_of widths)) instead

-- that a call answers the set that a number names, or refuses a number that names none with 4
abbrev pub Names : ℕ → Result WidthSet Refusal → Type 0
Names widths (Ok set) = (widths ≤ 1) × (set ≡ set_of widths)
Names widths (Err e) = (1 < widths) × (number_of e ≡ 4)
