-- The numbers that a window holds.
use Prim.Native.Nat.{ℕ}
use mathlib.Core.Path.{◌≡◌, sym, ◌∙◌, ap}
use mathlib.Core.List.{List}
use native.Mathlib.Omega.{arith}
use lib.ListN.{drop}
use Rattle.theory_laws.specs.Lists.{part, le_value}
use Rattle.theory_record.specs.Format.{run_count}
use Rattle.theory_record.proofs.Reading.{count_at}
use Rattle.bytes_reader.specs.Windows.{window_at}
use Rattle.bytes_reader.proofs.Windows.{value-window}
use Rattle.bytes_reader.specs.declared.Window.{Window}

pub count-read : (s : List ℕ) (i : ℕ) (w : Window) (r : ℕ) → w ≡ window_at s i → r ≡ le_value (part 4 0 w.bytes) → r ≡ run_count (drop i s)
unfolding window_at
count-read s i w r e f = f ∙ ap (λ (x : Window). le_value (part 4 0 x.bytes)) e ∙ value-window 4 s i (omega arith) ∙ sym (count_at s i)

pub word_read : (s : List ℕ) (i : ℕ) (w : Window) (r : ℕ) → w ≡ window_at s i → r ≡ le_value (part 16 0 w.bytes) → r ≡ le_value (part 16 i s)
unfolding window_at
word_read s i w r e f = f ∙ ap (λ (x : Window). le_value (part 16 0 x.bytes)) e ∙ value-window 16 s i (omega arith)
