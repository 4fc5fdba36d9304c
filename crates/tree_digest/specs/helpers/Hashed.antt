-- What a function leaves that completes a message in a lent buffer and hashes it.
use Rattle.std.specs.Prelude.{ℕ, ◌≡◌, List, ◌++◌, take}

-- the digest of the prefix, the buffer's first bytes, and the rest; the prefix is kept
pub record Hashed (H : List ℕ → List ℕ) (before : List ℕ) (prefix : ℕ) (rest after d : List ℕ) : Type 0 where
  pub digest : d ≡ H (take prefix before ++ rest)
  pub kept : take prefix after ≡ take prefix before
