-- What is read at a place of bytes: a window of 32, with zeros past the end, and how many bytes are left there.
use Rattle.std.specs.Prelude.{ℕ, ◌+◌, ◌-◌, List, length, get_or}
use Rattle.theory_laws.specs.Table.{tab}
use Rattle.bytes_reader.specs.declared.Window.{Window}

-- the byte j after a place, 0 past the end
unfoldable pub byte_at : List ℕ → ℕ → ℕ → ℕ
byte_at s i j = get_or s (i + j) 0

-- 32 bytes from a place on
unfoldable pub window : List ℕ → ℕ → List ℕ
window s i = tab 32 (byte_at s i)

-- the window there
unfoldable pub window_at : List ℕ → ℕ → Window
window_at s i = record { bytes = window s i; left = length s - i }
