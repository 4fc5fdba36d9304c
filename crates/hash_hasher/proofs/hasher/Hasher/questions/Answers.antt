-- `Hasher::questions` meets its contract: each branch rules out what question 13 asks.
use mathlib.Core.Path.{sym}
use native.Mathlib.Omega.{arith}
use Rattle.hash_hasher.proofs.Ready.{refused, ready-number}
use Rattle.hash_hasher.proofs.hasher.Hasher.questions.Goals as goal
use Rattle.hash_hasher.proofs.hasher.Hasher.questions.Goals.{then-self-most-via-then-self-most, then-self-most-via-else-self-most+then-n-most}
use Rattle.hash_hasher.proofs.hasher.Hasher.questions.Goals.{then-chunk-gt15-via-then-chunk-gt15, then-chunk-gt15-via-else-chunk-gt15+then-chunk-gt64, then-chunk-gt15-via-else-chunk-gt15+else-chunk-gt64+then-chunk-gt16384}
use Rattle.hash_hasher.proofs.hasher.Hasher.questions.Goals.{then-chunk-min-via-then-chunk-min, then-chunk-min-via-else-chunk-min+then-self-chunk-2}

pub returns-then-self-most : goal.returns-then-self-most
returns-then-self-most c = refused _ _
    (λ r. elim c.then-self-most.branch [
      | then-self-most-via-then-self-most w ↦ omega (arith, r.counts.small)
      | then-self-most-via-else-self-most+then-n-most w ↦ omega (arith, r.counts.small)
    ])

pub returns-then-chunk-gt15 : goal.returns-then-chunk-gt15
returns-then-chunk-gt15 c = refused _ _
    (λ r. elim c.then-chunk-gt15.branch [
      | then-chunk-gt15-via-then-chunk-gt15 w ↦ omega (arith, r.counts.low)
      | then-chunk-gt15-via-else-chunk-gt15+then-chunk-gt64 w ↦ omega (arith, r.counts.within)
      | then-chunk-gt15-via-else-chunk-gt15+else-chunk-gt64+then-chunk-gt16384 w ↦ omega (arith, r.counts.small, r.counts.sum)
    ])

pub returns-then-self-chunk : goal.returns-then-self-chunk
returns-then-self-chunk c = refused _ _ (λ r. omega (arith, r.counts.sum))

pub returns-then-chunk-min : goal.returns-then-chunk-min
returns-then-chunk-min c = refused _ _
    (λ r. elim c.then-chunk-min.branch [
      | then-chunk-min-via-then-chunk-min w ↦ omega (arith, r.some)
      | then-chunk-min-via-else-chunk-min+then-self-chunk-2 w ↦ omega (arith, r.counts.deep)
    ])

pub returns : goal.returns
returns c =
    sym (ready-number _ _
    (record {
      counts = record {
        small = omega arith;
        low = omega arith;
        within = omega arith;
        sum = omega arith;
        deep = omega arith;
      };
      some = omega arith;
    }))
