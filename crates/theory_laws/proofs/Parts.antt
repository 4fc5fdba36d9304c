-- Parts of a list: of a table, between other lists, and consecutive parts, which together are the whole.
use Prim.Native.Nat.{ℕ, ◌+◌, ◌≤◌}
use mathlib.Core.Path.{◌≡◌, refl, sym, ◌∙◌, ap, ap₂}
use mathlib.Core.List.{List, [], ◌∷◌, ◌++◌}
use native.Mathlib.Omega.{arith}
use lib.ListN.{length, take, length-append}
use lib.Seq.{take-length, take_at, drop_at}
use Rattle.theory_laws.specs.Lists.{part, flat}
use Rattle.theory_laws.specs.Table.{tab}
use Rattle.theory_laws.proofs.Lists.{length_part, get_d_part, part-add}
use Rattle.theory_laws.proofs.Table.{length-tab, at-tab, is-tab}

-- a part of a table
pub part-tab : (n i m : ℕ) (f : ℕ → ℕ) → i + n ≤ m → part n i (tab m f) ≡ tab n (λ v. f (i + v))
part-tab n i m f h =
    is-tab (part n i (tab m f)) n (λ v. f (i + v)) (length_part n i (tab m f) (omega (arith, length-tab m f)))
    (λ v b. get_d_part n i v (tab m f) b ∙ at-tab m f (i + v) (omega arith))

-- what stands between two lists is the part of its length from the end of the first on
pub part-between : (n i : ℕ) (a b c : List ℕ) → length a ≡ i → length b ≡ n → part n i (a ++ (b ++ c)) ≡ b
unfolding part
part-between n i a b c ea eb = ap (take n) (drop_at a (b ++ c) i ea) ∙ take_at b c n eb

-- ---- a division into parts

-- consecutive parts of a whole, from a place on: each is the part of its own length that begins where the one before it ends
abbrev pub PartsOf : List ℕ → ℕ → List (List ℕ) → Type 0
PartsOf whole from [] = Unit
PartsOf whole from (p ∷ ps) = (p ≡ part (length p) from whole) × PartsOf whole (from + length p) ps

-- end to end they are one part
pub parts-one : (whole : List ℕ) (from : ℕ) (ps : List (List ℕ)) → PartsOf whole from ps → flat ps ≡ part (length (flat ps)) from whole
unfolding flat part
parts-one whole from [] h = refl
parts-one whole from (p ∷ ps) h =
    ap₂ ◌++◌ h.0 (parts-one whole (from + length p) ps h.1)
    ∙ sym (part-add (length p) (length (flat ps)) from whole)
    ∙ ap (λ (n : ℕ). part n from whole) (sym (length-append p (flat ps)))

-- THE LAW: consecutive parts from the front, as long together as the whole, are the whole, whatever the division
pub parts-joined : (whole : List ℕ) (ps : List (List ℕ)) → PartsOf whole 0 ps → length (flat ps) ≡ length whole → flat ps ≡ whole
unfolding part
parts-joined whole ps h e = parts-one whole 0 ps h ∙ ap (λ (n : ℕ). part n 0 whole) e ∙ take-length whole
