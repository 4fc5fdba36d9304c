-- Words in bytes, 16 each, little-endian.
use Rattle.std.specs.Prelude.{ℕ, ◌+◌, ◌*◌, List, map}
use Rattle.theory_laws.specs.Table.{tab}
use Rattle.theory_laws.specs.Lists.{part, flat, le_value, le_bytes}

-- n words from a place on
unfoldable pub words_from : ℕ → ℕ → List ℕ → List ℕ
words_from from n s = tab n (λ v. le_value (part 16 (from + 16 * v) s))

-- the bytes of count words of a list, from one of them on
abbrev pub word_bytes : List ℕ → ℕ → ℕ → List ℕ
word_bytes ws start count = flat (map (le_bytes 16) (part count start ws))
