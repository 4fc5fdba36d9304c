-- The walk over the chunks of one call's input, for the contracts of its helpers: what the stack holds on the way.
use Rattle.std.specs.Prelude.{ℕ, ◌+◌, ◌*◌, ◌-◌, ◌<◌, ◌≤◌, min, ◌≡◌, List, length, take}
use Rattle.std.specs.Int.Count.{ones}
use Rattle.theory_laws.specs.Lists.{part}
use Rattle.theory_blake3.specs.Compression.{cv}
use Rattle.theory_blake3.specs.Chunk.{chunk}
use Rattle.theory_blake3.specs.Stack.{stack, entries}
use Rattle.hash_stack.specs.declared.Stack.{Stack}
use Rattle.hash_four_lanes.specs.helpers.Lane.{Each}

-- the stack stands for the t chunks before `from`
pub record Walked (key : List ℕ) (d : ℕ) (input : List ℕ) (a : Stack) (from t : ℕ) : Type 0 where
  pub place : from ≡ 1024 * t
  pub within : from ≤ length input
  pub some : min 1 (length input) ≤ length input - from
  pub wide : length a.values ≡ 112
  pub deep : a.depth ≡ ones t
  pub tower : entries a.values a.depth ≡ stack key d 54 0 (take from input)

-- the lanes of v have the chaining values of the four chunks from `from` on, and more than those are left
pub record Four (key : List ℕ) (d : ℕ) (input : List ℕ) (from t : ℕ) (v : List ℕ) : Type 0 where
  pub small : length input ≤ 16777216
  pub left : 4096 < length input - from
  pub values : Each 8 v (λ k. cv (chunk key d (t + k) (part 1024 (from + 1024 * k) input) 0))

-- the stack b stands for four chunks more than the stack a, those whose chaining values the lanes of v have, whatever input they are of
abbrev pub FourPushed : List ℕ → ℕ → ℕ → List ℕ → Stack → Stack → Type 0
FourPushed key d t v a b =
    (input : List ℕ) (from : ℕ) → Four key d input from t v → Walked key d input a from t → Walked key d input b (from + 4096) (t + 4)
