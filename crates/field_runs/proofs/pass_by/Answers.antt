-- `field_runs::pass_by` meets its contract. The loop's invariant: q is the first pair of a run, and the pairs below it are done, as
-- `theory_multilinear` has it for any loop over pairs.
use mathlib.Core.Path.{◌≡◌, refl, ap, ◌∙◌, subst}
use Prim.Native.Nat.{ℕ, suc, ◌+◌, ◌*◌, ◌/◌, ◌%◌, ◌^◌, ◌≤◌}
use native.Mathlib.Omega.{arith}
use lib.Pow.{pow_pos}
use lib.ListN.{length}
use Rattle.theory_laws.specs.Table.{tab, at}
use Rattle.theory_field.specs.Words.{words}
use Rattle.theory_field.proofs.Words.{length-words}
use Rattle.field_gf128.specs.Word.{word}
use Rattle.theory_multilinear.proofs.Passes.{pass}
use Rattle.theory_multilinear.proofs.PassLoop.{Done, pass-start, pass_end}
use Rattle.field_runs.specs.Runs.{pass_list}
use Rattle.field_runs.proofs.Pairs.{first_run, next-run, pass-run, shift, stride, run-within}
use Rattle.field_runs.proofs.pass_by.Goals as goal
use Rattle.field_runs.proofs.pass_by.Goals.{In-loop-q}

pub overflow_shl-half : goal.overflow_shl-half
overflow_shl-half g c =
    shift c.args.i (length c.args.s.now) c.requires (omega arith)

pub loop-q-init : goal.loop-q-init
loop-q-init g c =
    let a = c.args in (
      omega arith,
      first_run a.i,
      refl,
      λ p. pass-start p.m a.i (word a.by.factor) (words a.s.now) (omega (arith, p.size, length-words a.s.now)),
    )

-- the run that a turn does
module _ (g : _) (c : In-loop-q g) where
  abbrev q : ℕ
  q = c.loop-q.q

  abbrev half : ℕ
  half = 1 * 2 ^ c.args.i % 2 ^ 64

  apart : half ≡ 2 ^ c.args.i
  apart = stride c.args.i (length c.args.s.now) c.requires (omega arith)

  within : q + half ≤ length c.args.s.now / 4
  within = run-within c.args.i (length c.args.s.now) c.requires (omega arith) q c.loop-q.invariant.1 (omega arith)

pub pass_run-requires : goal.pass_run-requires
pass_run-requires g c =
    omega (arith, within g (goal.at.pass_run-requires g c).In-loop-q)

pub overflow_add-q : goal.overflow_add-q
overflow_add-q g c =
    omega (arith, within g (goal.at.overflow_add-q g c).In-loop-q)

pub loop-q-smaller : goal.loop-q-smaller
loop-q-smaller g c =
    omega (arith, within g (goal.at.loop-q-smaller g c).In-loop-q, apart g (goal.at.loop-q-smaller g c).In-loop-q, pow_pos c.args.i)

pub loop-q-preserved : goal.loop-q-preserved
loop-q-preserved g c =
    let a = c.args in (
      omega (arith, within g (goal.at.loop-q-preserved g c).In-loop-q),
      next-run a.i (half g (goal.at.loop-q-preserved g c).In-loop-q) c.loop-q.q (apart g (goal.at.loop-q-preserved g c).In-loop-q) c.loop-q.invariant.1,
      omega (arith, c.pass_run.auto.s),
      λ p.
          pass-run a.i (half g (goal.at.loop-q-preserved g c).In-loop-q) c.loop-q.q (apart g (goal.at.loop-q-preserved g c).In-loop-q) c.loop-q.invariant.1 p.m (word a.by.factor) (at (words a.s.now)) (words c.loop-q.s) (words c.pass_run.new.s)
          p.has (omega (arith, within g (goal.at.loop-q-preserved g c).In-loop-q, p.size)) (c.loop-q.invariant.3 p) c.pass_run.ensures,
    )

pub returns : goal.returns
unfolding pass_list
returns g c =
    let a = c.args in let p = c.requires in let t = at (words a.s.now) in
    let all : c.loop-q.q ≡ 2 ^ p.m = omega (arith, p.size) in
    let size : 2 ^ suc p.m ≡ length (words a.s.now) = omega (arith, p.size, length-words a.s.now) in
    pass_end p.m a.i (word a.by.factor) t (words c.loop-q.s) p.has
    (subst (λ q. Done p.m a.i (word a.by.factor) t q (words c.loop-q.s)) all (c.loop-q.invariant.3 p))
    ∙ ap (λ n. tab n (pass a.i (word a.by.factor) t)) size
