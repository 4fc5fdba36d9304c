-- A group and a path of a record by the bytes at which they begin, and the three questions put to both (SPECIFICATION 8.2, 16 to 18, 22 to
-- 24, 28 to 30). Rests on the format of records and on the levels' widths and trees.
use Rattle.std.specs.Prelude.{ℕ, ◌+◌, ◌*◌, ◌≤◌, ◌<◌, ◌≡◌, true, List, [], ◌∷◌, Option, Some, None, Result, Ok, Err, map, eqb, length, drop}
use Rattle.theory_laws.specs.Questions.{Question, ◌asks◌, first_no}
use Rattle.theory_laws.specs.Lists.{runs, same, le_value}
use Rattle.theory_merkle.specs.Tree.{root_of_path}
use Rattle.theory_record.specs.Trees.{leads_to}
use Rattle.theory_record.specs.Format.{run_count, run_fits, run_items}
use Rattle.record_reader.specs.declared.Opening.{Opening}
use Rattle.record_opening.specs.declared.Fault.{Fault}
use Rattle.record_opening.specs.declared.Fault.TheVariants.{Width, Depth, Root}
use Rattle.theory_record.specs.Scheme.{Scheme, width_at, depth_at}
use Rattle.theory_record.specs.Widths.{widest}

-- c values from a byte of s on
unfoldable pub values_from : List ℕ → ℕ → ℕ → List ℕ
values_from s i c = map le_value (runs 16 c (drop i s))

-- the values and the digests of the counted runs at a byte of s
unfoldable pub values_at : List ℕ → ℕ → List ℕ
values_at s i = map le_value (run_items 16 (drop i s))

unfoldable pub digests_at : List ℕ → ℕ → List (List ℕ)
digests_at s i = run_items 32 (drop i s)

-- the root that the group of a place, whose values stand from one byte of s on, and the digests from another lead to
abbrev pub root_from : (List ℕ → List ℕ) → List ℕ → ℕ → ℕ → ℕ → List ℕ → ℕ → ℕ → ℕ → List ℕ
root_from H domain count width place s from path depth = root_of_path H domain count width place (values_from s from width) (runs 32 depth (drop path s))

-- both are all there, of a domain and an s so long
abbrev pub WayThere : ℕ → ℕ → ℕ → ℕ → ℕ → ℕ → Type 0
WayThere domain width s from path depth = (domain ≤ 255) × (0 < width) × (width ≤ widest) × (from + 16 * width ≤ s) × (path + 32 * depth ≤ s)

-- the group and the path at two bytes of s are all there, and n, k, the level and the base domain are in their ranges
pub record Readable (S : Scheme) (l : ℕ) (s : List ℕ) (group path : ℕ) : Type 0 where
  pub n_most : S.n ≤ 20
  pub k_most : S.k ≤ 4
  pub level_most : l ≤ S.n
  pub base_short : length S.base ≤ 200
  pub group_fits : run_fits 16 (drop group s) ≡ true
  pub path_fits : run_fits 32 (drop path s) ≡ true

-- and the one has the level's width, the other its depth
pub record Sized (S : Scheme) (l : ℕ) (s : List ℕ) (group path : ℕ) : Type 0 where
  pub readable : Readable S l s group path
  pub width_is : run_count (drop group s) ≡ width_at S l
  pub depth_is : run_count (drop path s) ≡ depth_at S l

-- the number of a fault, where the questions are numbered from `first` on
abbrev pub fault_number : ℕ → Fault → ℕ
fault_number first Width = first
fault_number first Depth = first + 1
fault_number first Root = first + 2

-- the number that answers the questions: 0 where each has its yes
abbrev pub numbered : {A : Type 0} → ℕ → Result A Fault → ℕ
numbered first (Ok _) = 0
numbered first (Err fault) = fault_number first fault

-- the questions, numbered from `first` on, put to a group and a path for a place of level l, under this root
abbrev pub opening_questions : Scheme → ℕ → ℕ → List ℕ → List (List ℕ) → List ℕ → ℕ → List Question
opening_questions S l place values path root first =
    (first asks eqb (length values) (width_at S l)) ∷
    (first + 1 asks eqb (length path) (depth_at S l)) ∷
    (first + 2 asks same (leads_to S l place values path) root) ∷
    []

unfoldable pub opening_number : Scheme → ℕ → ℕ → List ℕ → List (List ℕ) → List ℕ → ℕ → ℕ
opening_number S l place values path root first = first_no (opening_questions S l place values path root first)

-- the root that the group and the path at two bytes of s lead to
abbrev pub leads_at : Scheme → ℕ → ℕ → List ℕ → ℕ → ℕ → List ℕ
leads_at S l place s group path = leads_to S l place (values_at s group) (digests_at s path)

-- the questions put to both
abbrev pub number_at : Scheme → ℕ → ℕ → List ℕ → ℕ → ℕ → List ℕ → ℕ → ℕ
number_at S l place s group path root first = opening_number S l place (values_at s group) (digests_at s path) root first

-- the group and the path at two bytes of s are all there, and every one of these questions has its yes
pub record Leads (S : Scheme) (l place : ℕ) (s : List ℕ) (group path : ℕ) (root : List ℕ) : Type 0 where
  pub group_fits : run_fits 16 (drop group s) ≡ true
  pub path_fits : run_fits 32 (drop path s) ≡ true
  pub width_is : length (values_at s group) ≡ width_at S l
  pub depth_is : length (digests_at s path) ≡ depth_at S l
  pub root_is : leads_to S l place (values_at s group) (digests_at s path) ≡ root

-- an opening of this record at which that is so
abbrev pub LeadsAt : Scheme → ℕ → ℕ → List ℕ → List ℕ → Opening → Type 0
LeadsAt S l place s root old = Leads S l place s old.group_at old.path_at root

-- where an opening is known, that is so of it
abbrev pub Known : Scheme → ℕ → ℕ → List ℕ → Option Opening → List ℕ → Type 0
Known S l place s None root = Unit
Known S l place s (Some old) root = LeadsAt S l place s root old

-- what `opening_again` is lent: a group and a path that are all there, of a level that is queried, and what is known of an earlier opening
abbrev pub AgainThere : Scheme → ℕ → ℕ → List ℕ → ℕ → ℕ → Option Opening → List ℕ → Type 0
AgainThere S l place s group path known root = (Readable S l s group path) × (l < S.n) × (Known S l place s known root)

-- what `opening_known` is lent
abbrev pub KnownThere : Scheme → ℕ → ℕ → List ℕ → ℕ → ℕ → Option Opening → List ℕ → Type 0
KnownThere S l place s group path known root = (Readable S l s group path) × (Known S l place s known root)
