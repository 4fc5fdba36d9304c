-- `field_runs::fold_by` meets its contract. The loop's invariant: q is the first pair of a run, and the words below it are those of the
-- fold.
use mathlib.Core.Path.{◌≡◌, refl, ap, ◌∙◌}
use Prim.Native.Nat.{ℕ, suc, ◌+◌, ◌*◌, ◌/◌, ◌%◌, ◌^◌, ◌≤◌}
use native.Mathlib.Omega.{arith}
use lib.Pow.{pow_pos}
use lib.ListN.{length}
use Rattle.theory_laws.specs.Table.{tab, at}
use Rattle.theory_laws.proofs.Updates.{updated, updated-all}
use Rattle.theory_field.specs.Words.{words}
use Rattle.theory_field.proofs.Words.{length-words-even}
use Rattle.field_gf128.specs.Word.{word}
use Rattle.theory_multilinear.specs.Fold.{fold_at, fold_list}
use Rattle.field_runs.proofs.Pairs.{first_run, next-run, fold-run, shift, stride, run-within}
use Rattle.field_runs.proofs.fold_by.Goals as goal
use Rattle.field_runs.proofs.fold_by.Goals.{In-loop-q}

pub overflow_shl-half : goal.overflow_shl-half
overflow_shl-half g c =
    shift c.args.i (length c.args.src.now) c.requires.0 (omega arith)

pub loop-q-init : goal.loop-q-init
unfolding updated
loop-q-init g c =
    (omega arith, first_run c.args.i, refl, refl)

-- the run that a turn does
module _ (g : _) (c : In-loop-q g) where
  abbrev q : ℕ
  q = c.loop-q.q

  abbrev half : ℕ
  half = 1 * 2 ^ c.args.i % 2 ^ 64

  apart : half ≡ 2 ^ c.args.i
  apart = stride c.args.i (length c.args.src.now) c.requires.0 (omega arith)

  within : q + half ≤ length c.args.out.now / 2
  within = omega (
    arith,
    run-within c.args.i (length c.args.src.now) c.requires.0 (omega arith) q c.loop-q.invariant.1 (omega arith),
  )

pub fold_run-requires : goal.fold_run-requires
fold_run-requires g c =
    omega (arith, within g (goal.at.fold_run-requires g c).In-loop-q)

pub overflow_add-q : goal.overflow_add-q
overflow_add-q g c =
    omega (arith, within g (goal.at.overflow_add-q g c).In-loop-q)

pub loop-q-smaller : goal.loop-q-smaller
loop-q-smaller g c =
    omega (arith, within g (goal.at.loop-q-smaller g c).In-loop-q, apart g (goal.at.loop-q-smaller g c).In-loop-q, pow_pos c.args.i)

pub loop-q-preserved : goal.loop-q-preserved
loop-q-preserved g c =
    let a = c.args in (
      omega (arith, within g (goal.at.loop-q-preserved g c).In-loop-q),
      next-run a.i (half g (goal.at.loop-q-preserved g c).In-loop-q) c.loop-q.q (apart g (goal.at.loop-q-preserved g c).In-loop-q) c.loop-q.invariant.1,
      omega (arith, c.fold_run.auto.out),
      fold-run a.i (half g (goal.at.loop-q-preserved g c).In-loop-q) c.loop-q.q (apart g (goal.at.loop-q-preserved g c).In-loop-q) c.loop-q.invariant.1 (word a.by.factor) (words a.src.now) (words a.out.now) (words c.loop-q.out)
          (words c.fold_run.new.out) c.loop-q.invariant.3 c.fold_run.ensures,
    )

pub returns : goal.returns
unfolding fold_list
returns g c =
    let a = c.args in let f = fold_at a.i (word a.by.factor) (at (words a.src.now)) in
    let p = c.requires.0 in let out = length-words-even a.out.now (2 ^ p.m) (omega (arith, p.size)) in
    let src = length-words-even a.src.now (2 ^ suc p.m) p.size in
    let size : length (words a.out.now) ≡ length (words a.src.now) / 2 = omega (arith, out, src) in
    c.loop-q.invariant.3 ∙ updated-all c.loop-q.q (λ k w. f k) (words a.out.now) (omega (arith, out, p.size)) ∙ ap (λ n. tab n f) size
