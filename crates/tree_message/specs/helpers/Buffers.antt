-- The length of a buffer for leaf messages.
use Rattle.std.specs.Prelude.{ℕ}

-- that of the longest: a domain of 255 bytes, 512 values of 16 bytes, and 97 beside
abbrev pub leaf_buffer : ℕ
leaf_buffer = 8544
