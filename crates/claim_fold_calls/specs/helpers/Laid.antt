-- How far a list of fold calls has come and what a call of it changes, in the buffers of the levels, of the coordinates and of the challenges. Rests on
-- the calls and on what a list of them leaves.
use Rattle.std.specs.Prelude.{ℕ, suc, ◌+◌, ◌-◌, ◌*◌, ◌/◌, ◌≤◌, ◌<◌, ◌≡◌, List, ◌++◌, length, take, drop, set}
use Rattle.std.specs.Borrow.{Bor, MutBor}
use denote.Triple.Both.{Both}
use Rattle.theory_laws.specs.Questions.{on_done}
use Rattle.theory_laws.specs.Table.{tab}
use Rattle.theory_field.specs.Words.{words}
use Rattle.field_gf128.specs.Word.{word}
use Rattle.code_codeword.specs.Answers.{dropped_of}
use Rattle.theory_record.specs.Build.{level_start, levels_length, level_values}
use Rattle.theory_claim.specs.Calls.{Codeword, Call, call_number, call_fold, done_folds, after_folds, left_by}
use Rattle.code_levels.specs.helpers.Levels.{laid, Room, LevelLent}
use Rattle.claim_fold_calls.specs.Left.{challenges_of, Left}
use Rattle.claim_fold_calls.specs.declared.FoldCall.{FoldCall}
use Rattle.claim_fold_calls.specs.declared.Progress.{Progress}

-- a call as it is read
abbrev pub asked : FoldCall → Call
asked x = record { n = x.n; k = x.k; original = x.original; var = x.var; room = x.room; by = word x.by }

-- lengths of lent calls and challenges: five numbers and two halves a call
pub record CallsLent (calls challenges : ℕ) : Type 0 where
  pub calls_long : calls ≡ 5 * (calls / 5)
  pub challenges_long : challenges ≡ 2 * (calls / 5)

-- all that a list of calls is lent, by its length: room for the levels and for a fold, the list, room for n challenges, and the calls
pub record CallsSized (n k levels coordinates half kept calls challenges : ℕ) : Type 0 where
  pub room : Room n k levels half
  pub list_long : coordinates ≡ n
  pub kept_long : kept ≡ 2 * n
  pub calls_lent : CallsLent calls challenges

-- a slice that a function reads, and one that it may write, as a `requires` names them
abbrev pub Ref : Type 0
Ref = Bor (List ℕ)

abbrev pub MutRef : Type 0
MutRef = MutBor (List ℕ)

abbrev pub CallsRoom : ℕ → ℕ → MutRef → MutRef → MutRef → MutRef → Ref → Ref → Type 0
CallsRoom n k levels coordinates half kept calls challenges =
    CallsSized n k (length levels.now) (length coordinates.now) (length half.now) (length kept.now) (length calls.now) (length challenges.now)

-- the codeword in use on level l: the level's values, and the list at the front of the coordinates
abbrev pub in_use : ℕ → ℕ → ℕ → List ℕ → List ℕ → Codeword
in_use n k l levels coordinates = record { values = level_values n k (words levels) l; coordinates = take (n - l) coordinates }

-- where a list of calls on the codeword c stands, of which the calls `rest` are to come: l are done, the codeword is level l and starts at
-- the half `from`, the levels up to l are laid, the list is at the front of the coordinates, zeros behind it, the challenges of the done calls are kept, and
-- behind levels and challenges stands what was there, the words `old` and `oldKept`
pub record Reached (n k : ℕ) (c : Codeword) (old oldKept : List ℕ) (calls rest : List Call) (l from : ℕ) (levels coordinates kept : List ℕ) : Type 0 where
  pub within : l ≤ n
  pub from= : from ≡ 2 * level_start n k l
  pub levels_long : length levels ≡ 2 * levels_length n k
  pub list_long : length coordinates ≡ n
  pub kept_long : length kept ≡ 2 * n
  pub before : (j : ℕ) → j ≤ l → level_values n k (words levels) j ≡ (after_folds c calls j).values
  pub behind : drop (level_start n k (suc l)) (words levels) ≡ drop (level_start n k (suc l)) old
  pub behind_list : drop (n - l) coordinates ≡ tab l (λ v. 0)
  pub behind_kept : drop l (words kept) ≡ drop l oldKept
  pub left : (j : ℕ) → after_folds c calls (l + j) ≡ after_folds (in_use n k l levels coordinates) rest j
  pub all : left_by c calls ≡ left_by (in_use n k l levels coordinates) rest
  pub by : challenges_of (done_folds c calls) ≡ take l (words kept) ++ challenges_of (done_folds (in_use n k l levels coordinates) rest)

-- a list of calls stands at one of the levels before the last, with the list and room for a challenge of each
pub record CallLent (n k : ℕ) (at : Progress) (levels coordinates half kept : ℕ) : Type 0 where
  pub level : LevelLent n k at.done at.from levels half
  pub below : at.done < n
  pub list_long : coordinates ≡ n
  pub kept_long : kept ≡ 2 * n

-- the number of a call on level l, and the values that it leaves there where it is done
abbrev pub number_on : ℕ → ℕ → ℕ → List ℕ → List ℕ → Call → ℕ
number_on n k l levels coordinates x = call_number (in_use n k l levels coordinates) x

abbrev pub fold_on : ℕ → ℕ → ℕ → List ℕ → List ℕ → Call → List ℕ
fold_on n k l levels coordinates x = (call_fold (in_use n k l levels coordinates) x).values

-- what a call leaves on level l, which starts at the half `from`: refused, all as it was; done, the fold laid as the next level, the coordinate of its
-- variable dropped, 0 after the end of the list, and the challenge kept
pub record Called (n k l from : ℕ) (x : Call) (levels coordinates kept levels' coordinates' kept' : List ℕ) (l' from' : ℕ) : Type 0 where
  pub count : l' ≡ on_done (number_on n k l levels coordinates x) (suc l) l
  pub start : from' ≡ on_done (number_on n k l levels coordinates x) (2 * level_start n k (suc l)) from
  pub level :
      words levels' ≡ on_done (number_on n k l levels coordinates x) (laid n k (suc l) (fold_on n k l levels coordinates x) (words levels)) (words levels)
  pub list :
      coordinates'
      ≡ on_done (number_on n k l levels coordinates x) (dropped_of x.var (take (n - l) coordinates) ++ drop (n - l) coordinates) coordinates
  pub challenge : words kept' ≡ on_done (number_on n k l levels coordinates x) (set (words kept) l x.by) (words kept)

-- a slice that a function may write, at the function's entry and its exit
abbrev pub Slice : Type 0
Slice = Both MutRef MutRef

-- the same, from where a list of calls stood to where it stands
abbrev pub Moved : ℕ → ℕ → Progress → Call → Slice → Slice → Slice → Progress → Type 0
Moved n k at x levels coordinates kept at' =
    Called n k at.done at.from x levels.entry.now coordinates.entry.now kept.entry.now levels.exit.now coordinates.exit.now
    kept.exit.now at'.done at'.from

-- what is left by calls on the codeword that stands as level 0 and its list, in three buffers
abbrev pub CallsLeft : ℕ → ℕ → List Call → Slice → Slice → Slice → ℕ → Type 0
CallsLeft n k calls levels coordinates kept done =
    let old : List ℕ = words levels.entry.now in
    Left n k (record { values = level_values n k old 0; coordinates = coordinates.entry.now }) old (words kept.entry.now) calls done
    levels.exit.now coordinates.exit.now kept.exit.now
