-- `code_parts::fold_entries` meets its contract. The loop's invariant: the first v words are those of the fold.
use mathlib.Core.Path.{refl, ap, ap₂, ◌∙◌}
use Prim.Native.Nat.{ℕ, ◌+◌, ◌*◌, ◌/◌, ◌%◌, ◌^◌}
use native.Mathlib.Omega.{arith}
use lib.Pow.{pow_pos}
use lib.ListN.{length}
use Rattle.theory_laws.specs.Table.{at}
use Rattle.theory_laws.proofs.Updates.{updated, updated_end, updated-turn}
use Rattle.theory_field.specs.Words.{words}
use Rattle.theory_field.proofs.Words.{length-words-even}
use Rattle.field_gf128.specs.Word.{word}
use Rattle.theory_multilinear.specs.Fold.{line, fold_at}
use Rattle.field_runs.proofs.Pairs.{Pair, shift, stride, pair}
use Rattle.code_parts.proofs.FoldPart.{part-made}
use Rattle.code_parts.proofs.fold_entries.Goals as goal
use Rattle.code_parts.proofs.fold_entries.Goals.{After-first-lo}

pub overflow_shl-half : goal.overflow_shl-half
overflow_shl-half g c =
    shift c.args.var (length c.args.src.now) c.requires.paired (omega arith)

pub loop-v-init : goal.loop-v-init
unfolding updated
loop-v-init g c = (refl, refl)

pub overflow_add-first : goal.overflow_add-first
overflow_add-first g c =
    omega (arith, c.requires.within)

pub first-lo-requires : goal.first-lo-requires
first-lo-requires g c =
    let a = c.args in (
      omega (arith, stride a.var (length a.src.now) c.requires.paired (omega arith), pow_pos a.var),
      omega (arith, c.requires.within),
    )

-- the places of the pair
module _ (g : _) (c : After-first-lo g) where
  found : Pair c.args.var (length c.args.src.now) (c.args.first + c.loop-v.v) c.first-lo.result
      (c.first-lo.result + 1 * 2 ^ c.args.var % 2 ^ 64)
  found = pair c.args.var (length c.args.src.now) c.requires.paired (omega arith) (c.args.first + c.loop-v.v)
      c.first-lo.result (omega (arith, c.requires.within)) c.first-lo.ensures

pub get-a-requires : goal.get-a-requires
get-a-requires g c = omega (arith, found g (goal.at.get-a-requires g c).After-first-lo)

pub overflow_add-lo : goal.overflow_add-lo
overflow_add-lo g c = omega (arith, found g (goal.at.overflow_add-lo g c).After-first-lo)

pub get-b-requires : goal.get-b-requires
get-b-requires g c = omega (arith, found g (goal.at.get-b-requires g c).After-first-lo)

pub loop-v-preserved : goal.loop-v-preserved
unfolding fold_at
loop-v-preserved g c =
    let a = c.args in let src = words a.src.now in (
      omega (arith, c.put.auto.s),
      c.put.ensures
          ∙ updated-turn c.loop-v.v (λ k w. fold_at a.var (word a.by.factor) (at src) (a.first + k)) (words a.out.now) (words c.loop-v.out)
          (word c.line_at-p.result) c.loop-v.invariant.1
          (c.line_at-p.ensures
          ∙ ap₂ (line (word a.by.factor)) (c.get-a.ensures ∙ ap (at src) (found g (goal.at.loop-v-preserved g c).After-first-lo).first)
          (c.get-b.ensures ∙ ap (at src) (found g (goal.at.loop-v-preserved g c).After-first-lo).second)),
    )

pub returns : goal.returns
returns g c =
    let a = c.args in let m : ℕ = length a.out.now / 2 in
    updated_end (λ k w. fold_at a.var (word a.by.factor) (at (words a.src.now)) (a.first + k)) c.loop-v.v m (words a.out.now) (words c.loop-v.out)
    (length-words-even a.out.now m (omega (arith, c.requires.whole))) (omega arith) c.loop-v.invariant.1
    ∙ part-made a.var (word a.by.factor) a.first (length a.out.now) a.src.now c.requires
