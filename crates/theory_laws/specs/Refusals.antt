-- Why a call is refused, and the number that answers it (SPECIFICATION 8.1 and 8.2).
use Rattle.std.specs.Prelude.{ℕ, Result, Ok, Err}
use Rattle.theory_laws.specs.declared.Refusal.{Refusal}
use Rattle.theory_laws.specs.declared.Refusal.TheVariants as no

-- the number of the question that was answered with no
abbrev pub number_of : Refusal → ℕ
number_of no.NoInverse = 1
number_of no.NotWholeWords = 2
number_of no.NotBits = 3
number_of no.Parameters = 4
number_of no.Length = 5
number_of no.Variable = 6
number_of no.Domain = 7
number_of no.ValueCount = 8
number_of no.Width = 9
number_of no.UnevenGroups = 10
number_of no.Place = 11
number_of no.PathLength = 12
number_of no.HashedBytes = 13
number_of no.NotARecord = 14
number_of no.LevelCount = 15
number_of no.WidthOfA = 16
number_of no.DepthOfA = 17
number_of no.RootOfA = 18
number_of no.ValueOfA = 19
number_of no.ValueOfB = 21
number_of no.WidthOfC = 22
number_of no.DepthOfC = 23
number_of no.RootOfC = 24
number_of no.ValueOfC = 25
number_of no.Fold = 26
number_of no.GroupCount = 27
number_of no.TailWidth = 28
number_of no.TailDepth = 29
number_of no.TailRoot = 30
number_of no.Claim = 31
number_of no.NotAccepted = 32
number_of no.SameRecords = 33
number_of no.Coordinates = 36

-- the number that answers a call: 0 where it is done, else that of its refusal
abbrev pub answered : {A : Type 0} → Result A Refusal → ℕ
answered (Ok _) = 0
answered (Err e) = number_of e
