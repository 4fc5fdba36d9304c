-- `field_runs::add_to_pair` meets its contract: the store at the first place leaves the word at the second as it was.
use mathlib.Core.Path.{◌≡◌, ap, ap₂, ◌∙◌}
use mathlib.Core.Logic.{◌≢◌}
use mathlib.Core.List.{List}
use Prim.Native.Nat.{ℕ, ◌+◌, ◌*◌, ◌<◌}
use native.Mathlib.Omega.{arith}
use lib.ListN.{length, set}
use lib.Seq.{get_or-set_other}
use Rattle.theory_laws.specs.Xor.{◌⊕◌}
use Rattle.theory_laws.specs.Table.{at}
use Rattle.theory_field.specs.Field.{◌⊗◌}
use Rattle.theory_field.specs.Words.{words}
use Rattle.field_gf128.specs.Word.{word}
use Rattle.field_runs.proofs.add_to_pair.Goals as goal
use Rattle.field_runs.proofs.add_to_pair.Goals.{After-put}

-- the product, and what the first store leaves
module _ (g : _) (c : After-put g) where
  abbrev s : List ℕ
  s = words c.args.s.now

  abbrev lo : ℕ
  lo = c.args.lo

  abbrev hi : ℕ
  hi = c.args.hi

  abbrev product : ℕ
  product = word c.args.by.factor ⊗ (at s lo ⊕ at s hi)

  p : word c.times-p.result ≡ product
  p =
      c.times-p.ensures
      ∙ ap (◌⊗◌ (word c.args.by.factor)) (c.add-sum.ensures ∙ ap₂ ◌⊕◌ c.get.ensures c.get-2.ensures)

  stored : words c.put.new.s ≡ set s lo (at s lo ⊕ product)
  stored =
      c.put.ensures ∙ ap (set s lo) (c.add.ensures ∙ ap₂ ◌⊕◌ c.get-a.ensures p)

  inside : 2 * hi + 1 < length c.put.new.s
  inside = omega (arith, c.requires.1, c.put.auto.s)

pub get-b-requires : goal.get-b-requires
get-b-requires g c =
    inside g (goal.at.get-b-requires g c).After-put

pub put-requires-2 : goal.put-requires-2
put-requires-2 g c =
    inside g (goal.at.put-requires-2 g c).After-put

pub returns : goal.returns
returns g c =
    let apart : hi g (goal.at.returns g c).After-put ≢ lo g (goal.at.returns g c).After-put = omega (arith, c.requires.0) in
    let b : word c.get-b.result ≡ at (s g (goal.at.returns g c).After-put) (hi g (goal.at.returns g c).After-put) =
    c.get-b.ensures ∙ ap (λ (l : List ℕ). at l (hi g (goal.at.returns g c).After-put)) (stored g (goal.at.returns g c).After-put)
    ∙ get_or-set_other (s g (goal.at.returns g c).After-put) (lo g (goal.at.returns g c).After-put) (hi g (goal.at.returns g c).After-put) _ 0 apart
    in
    c.put-2.ensures
    ∙ ap₂ (λ (l : List ℕ) (x : ℕ). set l (hi g (goal.at.returns g c).After-put) x) (stored g (goal.at.returns g c).After-put) (c.add-2.ensures ∙ ap₂ ◌⊕◌ b (p g (goal.at.returns g c).After-put))
