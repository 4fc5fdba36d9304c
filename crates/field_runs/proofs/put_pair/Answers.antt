-- `field_runs::put_pair` meets its contract.
use mathlib.Core.Path.{◌≡◌, ap, ap₂, ◌∙◌}
use mathlib.Core.List.{List}
use Prim.Native.Nat.{ℕ, ◌+◌}
use native.Mathlib.Omega.{arith}
use lib.ListN.{set}
use Rattle.theory_laws.specs.Xor.{◌⊕◌}
use Rattle.theory_laws.specs.Table.{at}
use Rattle.theory_field.specs.Field.{◌⊗◌}
use Rattle.theory_field.specs.Words.{words}
use Rattle.field_gf128.specs.Word.{word}
use Rattle.theory_multilinear.proofs.Passes.{pass}
use Rattle.field_runs.proofs.Pairs.{pass-even, pass-odd}
use Rattle.field_runs.proofs.put_pair.Goals as goal
use Rattle.field_runs.proofs.put_pair.Goals.{After-put}

-- the product, and what the first store leaves
module _ (g : _) (c : After-put g) where
  abbrev s : List ℕ
  s = words c.args.src.now

  abbrev q : ℕ
  q = c.args.q

  abbrev lo : ℕ
  lo = q + q

  p : word c.times-p.result ≡ word c.args.by.factor ⊗ (at s lo ⊕ at s (lo + 1))
  p =
      c.times-p.ensures
      ∙ ap (◌⊗◌ (word c.args.by.factor)) (c.add-sum.ensures ∙ ap₂ ◌⊕◌ c.get.ensures c.get-2.ensures)

  stored : words c.put.new.s ≡ set (words c.args.out.now) lo (pass 0 (word c.args.by.factor) (at s) lo)
  stored =
      c.put.ensures
      ∙ ap (set (words c.args.out.now) lo)
      (c.add.ensures ∙ ap₂ ◌⊕◌ c.get-a.ensures p ∙ pass-even q (word c.args.by.factor) (at s))

pub overflow_add-lo-3 : goal.overflow_add-lo-3
overflow_add-lo-3 g c =
    omega (arith, c.requires.0)

pub overflow_add-lo-4 : goal.overflow_add-lo-4
overflow_add-lo-4 g c =
    omega (arith, c.requires.0)

pub put-requires-2 : goal.put-requires-2
put-requires-2 g c =
    omega (arith, c.requires.0, c.put.auto.s)

pub returns : goal.returns
returns g c =
    c.put-2.ensures
    ∙ ap₂ (λ (l : List ℕ) (x : ℕ). set l (lo g (goal.at.returns g c).After-put + 1) x) (stored g (goal.at.returns g c).After-put)
    (c.add-2.ensures ∙ ap₂ ◌⊕◌ c.get-b.ensures (p g (goal.at.returns g c).After-put)
    ∙ pass-odd (q g (goal.at.returns g c).After-put) (word c.args.by.factor) (at (s g (goal.at.returns g c).After-put)))
