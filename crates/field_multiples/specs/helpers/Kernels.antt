-- The kernels, by the bits of their windows.
use Rattle.std.specs.Prelude.{ℕ}
use Rattle.field_multiples.specs.declared.Kernel.{Kernel}
use Rattle.field_multiples.specs.declared.Kernel.TheVariants.{Nibbles, Bytes}

-- the bits of a kernel's windows
abbrev pub bits_of : Kernel → ℕ
bits_of Nibbles = 4
bits_of Bytes = 8
