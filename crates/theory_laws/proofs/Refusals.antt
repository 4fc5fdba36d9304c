-- Laws of refusals: none has the number 0, so that a call whose number is 0 is done, and one that is refused leaves what it was lent.
use Rattle.std.specs.Prelude.{◌≡◌, Result, Ok, Err, IsOk, refl, eqb, false}
use borrow.Author.Tests.{eqb-false}
use Rattle.theory_laws.specs.Questions.{on_done}
use Rattle.theory_laws.specs.Refusals.{number_of, answered}
use Rattle.theory_laws.specs.declared.Refusal.{Refusal}
use Rattle.theory_laws.specs.declared.Refusal.TheVariants as no

-- no refusal has the number 0, by the test that code and definitions make
pub not-done : (e : Refusal) → eqb (number_of e) 0 ≡ false
not-done no.NoInverse = refl
not-done no.NotWholeWords = refl
not-done no.NotBits = refl
not-done no.Parameters = refl
not-done no.Length = refl
not-done no.Variable = refl
not-done no.Domain = refl
not-done no.ValueCount = refl
not-done no.Width = refl
not-done no.UnevenGroups = refl
not-done no.Place = refl
not-done no.PathLength = refl
not-done no.HashedBytes = refl
not-done no.NotARecord = refl
not-done no.LevelCount = refl
not-done no.WidthOfA = refl
not-done no.DepthOfA = refl
not-done no.RootOfA = refl
not-done no.ValueOfA = refl
not-done no.ValueOfB = refl
not-done no.WidthOfC = refl
not-done no.DepthOfC = refl
not-done no.RootOfC = refl
not-done no.ValueOfC = refl
not-done no.Fold = refl
not-done no.GroupCount = refl
not-done no.TailWidth = refl
not-done no.TailDepth = refl
not-done no.TailRoot = refl
not-done no.Claim = refl
not-done no.NotAccepted = refl
not-done no.SameRecords = refl
not-done no.Coordinates = refl

-- what a refused call leaves
pub refused : {A : Type 0} (e : Refusal) (x y : A) → on_done (number_of e) x y ≡ y
refused e x y = rw (not-done e) refl

-- a refusal whose number were 0
pub never : {A : Type 0} (e : Refusal) → number_of e ≡ 0 → A
never e z = absurd (eqb-false (number_of e) 0 (not-done e) z)

-- a call whose number is 0 is done
pub done : {A : Type 0} (r : Result A Refusal) → answered r ≡ 0 → (x : A) × (r ≡ Ok x)
done (Ok x) z = (x, refl)
done (Err e) z = never e z

-- so it holds a value
pub not-refused : {A : Type 0} (r : Result A Refusal) → answered r ≡ 0 → IsOk r
not-refused (Ok x) z = refl
not-refused (Err e) z = never e z
