-- What a window holds: the bytes of a place, the numbers in them, and a digest.
use Prim.Native.Nat.{ℕ, zero, suc, min, ◌+◌, ◌-◌, ◌*◌, ◌<◌, ◌≤◌}
use mathlib.Core.Path.{◌≡◌, refl, sym, ◌∙◌, ap, ap₂}
use mathlib.Core.Logic.{◌⊎◌, inl, inr, ⊎_elim}
use mathlib.Core.List.{List, [], ◌∷◌, ◌++◌, append-nil}
use native.Mathlib.Omega.{arith}
use lib.ListN.{length, take, drop, replicate, length-append, length-drop, length-replicate, get_or-append, get_or-eq_default, drop_of_length-le}
use lib.Seq.{get_or-drop, get_or-take, length-take-le, take-nil}
use Rattle.std.proofs.lemmas.List.{get_or-append_right}
use Rattle.std.proofs.lemmas.Slice.{between_to_end}
use Rattle.std.proofs.Common.{Bor}
use Rattle.std.specs.Prelude.{Option, Some, None}
use Rattle.std.specs.Option.{unwrap_or}
use Rattle.std.specs.Slice.{IsGetRangeResult}
use Rattle.theory_laws.specs.Table.{tab, at}
use Rattle.theory_laws.specs.Lists.{part, le_value}
use Rattle.theory_laws.proofs.Table.{tab-ext, at-tab, is-tab, zeros-at}
use Rattle.theory_laws.proofs.Lists.{length_part, get_d_part}
use Rattle.theory_laws.proofs.Numbers.{lt_or_le}
use Rattle.bytes_reader.specs.Windows.{byte_at, window, window_at}
use Rattle.bytes_reader.specs.declared.Window.{Window}

-- zeros past the end add nothing to a number
value-padded : (n : ℕ) (l : List ℕ) → le_value (take n l) ≡ le_value (tab n (at l))
unfolding le_value tab
value-padded zero l = refl
value-padded (suc n) [] = let e : 0 ≡ le_value (tab n (at [])) = ap le_value (sym (take-nil n)) ∙ value-padded n [] in omega arith
value-padded (suc n) (x ∷ l) = ap (λ (v : ℕ). v * 256 + x) (value-padded n l)

value-part : (n i : ℕ) (l : List ℕ) → le_value (part n i l) ≡ le_value (tab n (λ j. at l (i + j)))
unfolding part
value-part n i l = value-padded n (drop i l) ∙ ap le_value (tab-ext n (λ j h. get_or-drop i l j 0))

-- a number at the front of a window is the number at its place
pub value-window : (n : ℕ) (s : List ℕ) (i : ℕ) → n ≤ 32 → le_value (part n 0 (window s i)) ≡ le_value (part n i s)
unfolding window byte_at
value-window n s i h =
    value-part n 0 (window s i)
    ∙ ap le_value (tab-ext n (λ j g. ap (at (window s i)) (let e : 0 + j ≡ j = omega arith in e) ∙ at-tab 32 (byte_at s i) j (omega arith)))
    ∙ sym (value-part n i s)

-- ---- bytes

part-window : (s : List ℕ) (i : ℕ) → i + 32 ≤ length s → part 32 i s ≡ window s i
unfolding window byte_at
part-window s i h = is-tab (part 32 i s) 32 (byte_at s i) (length_part 32 i s h) (λ j g. get_d_part 32 i j s g)

pub digest-read : (s : List ℕ) (i : ℕ) (w : Window) → i + 32 ≤ length s → w ≡ window_at s i → w.bytes ≡ part 32 i s
unfolding window_at
digest-read s i w h e = ap (λ (x : Window). x.bytes) e ∙ sym (part-window s i h)

-- what is left from a place on, as the library finds it
pub rest_is : (s : List ℕ) (i : ℕ) (r : Option (Bor (List ℕ))) (w e : Bor (List ℕ)) → IsGetRangeResult s i (length s) r → w ≡ unwrap_or r e
    → e.now ≡ [] → w.now ≡ drop i s
rest_is s i None w e m f z =
    ap (λ (x : Bor (List ℕ)). x.now) f ∙ z
    ∙ sym (drop_of_length-le s {i = i} (⊎_elim (λ (a : length s < i). omega arith) (λ (a : length s < length s). omega arith) m.0))
rest_is s i (Some x) w e m f z = ap (λ (y : Bor (List ℕ)). y.now) f ∙ m.0.2 ∙ between_to_end s i (length s) (omega arith)

-- what is left at the front, as much as there is room for, and zeros after it
pub window_filled : (s rest d : List ℕ) (i n : ℕ) → rest ≡ drop i s → n ≡ min (length rest) 32 → d ≡ take n rest
    → ◌≡◌ {A = Window} (record { bytes = d ++ drop n (replicate {A = ℕ} 32 0); left = length rest }) (window_at s i)
unfolding window_at window byte_at
window_filled s rest d i n e f g =
    ap₂ (λ (b : List ℕ) (l : ℕ). record { bytes = b; left = l })
    (is-tab (d ++ zeros) 32 (byte_at s i) long (λ k h. pick k h (lt_or_le k n)))
    left
  where
    zeros : List ℕ
    zeros = drop n (replicate {A = ℕ} 32 0)

    left : length rest ≡ length s - i
    left = ap length e ∙ length-drop i s

    size : length d ≡ n
    size = ap length g ∙ length-take-le n rest (omega arith)

    long : length (d ++ zeros) ≡ 32
    long = length-append d zeros ∙ omega (arith, size, length-drop n (replicate {A = ℕ} 32 0))

    pick : (k : ℕ) → k < 32 → (k < n) ⊎ (n ≤ k) → at (d ++ zeros) k ≡ byte_at s i k
    pick k h (inl l) =
        get_or-append d zeros 0 k (omega (arith, size)) ∙ ap (λ (x : List ℕ). at x k) g ∙ get_or-take n rest k 0 l ∙ ap (λ (x : List ℕ). at x k) e
        ∙ get_or-drop i s k 0
    pick k h (inr l) =
        get_or-append_right d zeros n k 0 size l ∙ get_or-drop n (replicate {A = ℕ} 32 0) (k - n) 0 ∙ zeros-at 32 (n + (k - n))
        ∙ sym (get_or-eq_default s 0 {n = i + k} (omega (arith, left)))

-- a whole window
pub window_whole : (s rest d : List ℕ) (i : ℕ) → rest ≡ drop i s → 32 ≤ length rest → d ≡ take 32 rest
    → ◌≡◌ {A = Window} (record { bytes = d; left = length rest }) (window_at s i)
window_whole s rest d i e h g =
    let z : drop 32 (replicate {A = ℕ} 32 0) ≡ [] = drop_of_length-le (replicate {A = ℕ} 32 0) {i = 32} (omega (arith, length-replicate {A = ℕ} 32 0)) in
    ap (λ (b : List ℕ). held b) (sym (append-nil d) ∙ ap (λ (b : List ℕ). d ++ b) (sym z)) ∙ window_filled s rest d i 32 e (omega arith) g
  where
    held : List ℕ → Window
    held b = record { bytes = b; left = length rest }
