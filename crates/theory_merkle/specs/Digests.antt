-- What the laws over a digest function ask of it.
use Rattle.std.specs.Prelude.{ℕ, ◌≡◌, List, length}

-- its digests are as long as a tree's: 32 bytes
abbrev pub DigestsLong : (List ℕ → List ℕ) → Type 0
DigestsLong H = (m : List ℕ) → length (H m) ≡ 32
