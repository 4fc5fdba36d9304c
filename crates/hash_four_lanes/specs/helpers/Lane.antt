-- Four lists of words side by side: word i of lane l stands at 4 * i + l.
use Rattle.std.specs.Prelude.{ℕ, ◌+◌, ◌*◌, ◌-◌, ◌<◌, ◌≡◌, List, length}
use Rattle.theory_laws.specs.Xor.{◌⊕◌}
use Rattle.theory_laws.specs.Table.{tab, at}
use Rattle.theory_blake3.specs.Compression.{compress, cv}

-- the n words of lane l
unfoldable pub lane : ℕ → List ℕ → ℕ → List ℕ
lane n s l = tab n (λ i. at s (4 * i + l))

-- lane k of s is f k, for each of the four
abbrev pub Each : ℕ → List ℕ → (ℕ → List ℕ) → Type 0
Each n s f = (k : ℕ) → k < 4 → lane n s k ≡ f k

-- lane k's chaining value after one more block, of the chaining values h, the blocks m and a counter for each lane
abbrev pub compressed : List ℕ → List ℕ → List ℕ → ℕ → ℕ → ℕ → List ℕ
compressed h m counters len flags k = cv (compress (lane 8 h k) (lane 16 m k) (at counters k) len flags)

-- the chaining value that a state gives: its two halves added
unfoldable pub value : List ℕ → List ℕ
value v = tab 8 (λ i. at v i ⊕ at v (i + 8))

-- t is s with v as lane l
pub record Stored (s t : List ℕ) (l : ℕ) (v : List ℕ) : Type 0 where
  pub size : length t ≡ 64
  pub here : lane 16 t l ≡ v
  pub others : (k : ℕ) → k < 4 → 0 < k - l + (l - k) → lane 16 t k ≡ lane 16 s k
