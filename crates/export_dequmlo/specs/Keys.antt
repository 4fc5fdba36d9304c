-- Keys of trees as C lends them: a number, 0 for none, and 32 bytes. Rests on BLAKE3's modes, the sets of widths and the scheme.
use Rattle.std.specs.Prelude.{◌≡◌, ℕ, ◌≤◌, ◌<◌, Result, Ok, Err, eqb}
use Rattle.theory_laws.specs.Questions.{pick}
use Rattle.theory_laws.specs.Refusals.{number_of}
use Rattle.theory_laws.specs.declared.Refusal.{Refusal}
use Rattle.theory_blake3.specs.declared.Mode.{Mode}
use Rattle.theory_blake3.specs.Modes.{hash_mode, keyed_mode}
use Rattle.theory_record.specs.declared.WidthSet.{WidthSet}
use Rattle.theory_record.specs.declared.Trees.{Trees}
use Rattle.theory_record.specs.Scheme.{Scheme}
use Rattle.theory_record.specs.declared.Deposit.{Deposit}
use Rattle.theory_record.specs.Lent.{Slice, scheme_of, fixed_by}
use Rattle.export_dequmlo.specs.Sets.{set_of, with_set}
use Rattle.export_dequmlo.specs.declared.keys.Key.{Key}

-- the mode of trees under a key or none
unfoldable pub mode_of : Key → Mode
mode_of key = pick (eqb key.keyed 0) hash_mode (keyed_mode key.bytes)

-- how trees are made under a key or none and a set of widths; and the set that a number names
abbrev pub trees_under : Key → WidthSet → Trees
trees_under key set = record { set = set; mode = mode_of key }

abbrev pub trees_of : Key → ℕ → Trees
trees_of key widths = trees_under key (set_of widths)

-- what is made under these; where the number names no set, what is answered or left instead
abbrev pub with_trees : {A : Type 0} → Key → ℕ → (Trees → A) → A → A
with_trees key widths made instead = with_set widths (λ set. made (trees_under key set)) instead

-- the scheme under these, of a lent base domain, n and k
abbrev pub scheme_by : Key → ℕ → Slice → ℕ → ℕ → Scheme
scheme_by key widths base n k = scheme_of (trees_of key widths) base n k

-- that a call answers how trees are made under these, or refuses a number that names no set with 4
abbrev pub MadeBy : Key → ℕ → Result Trees Refusal → Type 0
MadeBy key widths (Ok how) = (widths ≤ 1) × (how ≡ trees_of key widths)
MadeBy key widths (Err e) = (1 < widths) × (number_of e ≡ 4)

-- the same of a deposit with trees so made, a lent base domain, n and k
abbrev pub Deposited : Key → ℕ → Slice → ℕ → ℕ → Result Deposit Refusal → Type 0
Deposited key widths base n k (Ok d) = (widths ≤ 1) × (fixed_by d ≡ scheme_by key widths base n k)
Deposited key widths base n k (Err e) = (1 < widths) × (number_of e ≡ 4)
