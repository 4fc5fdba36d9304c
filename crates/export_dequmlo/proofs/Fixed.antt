-- The sizes of a seal, from those that the crates beneath compute.
use Prim.Native.Nat.{ℕ, suc, ◌+◌, ◌*◌, ◌^◌, ◌≤◌, ◌<◌}
use mathlib.Core.Path.{◌≡◌, refl, sym, ap, ◌∙◌}
use mathlib.Core.Bool.{Bool, true, false}
use native.Mathlib.Nat.{mul-le-mul}
use native.Mathlib.Omega.{arith}
use lib.Dec.{leb}
use Rattle.theory_laws.specs.Questions.{pick}
use Rattle.std.specs.Prelude.{Result, Ok, Err, IsErrAnd}
use Rattle.theory_laws.specs.Refusals.{number_of, answered}
use Rattle.theory_laws.specs.declared.Refusal.{Refusal}
use Rattle.theory_laws.proofs.Questions.{on_refused, yes_le, no_le}
use Rattle.code_level.specs.Sizes.{size_number}
use Rattle.code_level.proofs.Sizes.{sizes-said}
use Rattle.theory_record.specs.declared.WidthSet.{WidthSet}
use Rattle.theory_record.specs.Widths.{widths_of, level_length, tree_length}
use Rattle.theory_record.specs.Sizes.{query_size, tail_size}
use Rattle.theory_record.specs.Build.{levels_length, tree_start}
use Rattle.theory_record.proofs.Ranges.{SizesFit}
use Rattle.export_dequmlo.specs.Sets.{set_of}
use Rattle.export_dequmlo.specs.Sizes.{no_sizes, sizes_number, sizes_under, sizes_of}

-- k × n gammas
pub gammas-small : (n k : ℕ) → SizesFit n k → k * n ≤ 80
gammas-small n k z = mul-le-mul z.k_most z.n_most

-- question 4, where the number names no set, and where it names one
pub unnamed : (widths n k : ℕ) (r : Result WidthSet Refusal) (e : Refusal) → IsErrAnd r (λ y. y ≡ e) → (1 < widths) × (number_of e ≡ 4)
    → answered r ≡ sizes_number widths n k
unfolding sizes_number
unnamed widths n k (Ok s) e i h = absurd i
unnamed widths n k (Err y) e i h = no_le _ _ _ _ _ h.0 (ap number_of i ∙ h.1)

pub unsized : (widths n k : ℕ) (r : Result WidthSet Refusal) (e : Refusal) → IsErrAnd r (λ y. y ≡ e) → widths ≤ 1 → number_of e ≡ size_number n k
    → answered r ≡ sizes_number widths n k
unfolding sizes_number
unsized widths n k (Ok s) e i h q = absurd i
unsized widths n k (Err y) e i h q = yes_le _ _ _ _ _ h (ap number_of i ∙ q)

module _ (widths n k x : ℕ) (ex : x ≡ sizes_number widths n k) where
  -- question 4 has its yes
  pub sizes-allowed : x ≡ 0 → SizesFit n k
  unfolding sizes_number
  sizes-allowed e = sizes-said n k (size_number n k) refl (go (leb widths 1) (sym ex ∙ e))
    where
      go : (b : Bool) → pick b (size_number n k) 4 ≡ 0 → size_number n k ≡ 0
      go true f = f
      go false f = omega (arith, f)

  pub sizes-refused : (x ≡ 0 → ⊥) → no_sizes x ≡ sizes_of widths n k
  sizes-refused h = rw ex (sym (on_refused (sizes_number widths n k) _ _ (λ e. h (ex ∙ e))))

  pub sizes-done : (set : WidthSet) → x ≡ 0 → set ≡ set_of widths → sizes_under set n k ≡ sizes_of widths n k
  sizes-done set e eset = rw (eset, sym ex ∙ e)

pub sizes-made : (n k : ℕ) (set : WidthSet) (t c r l s f z y q a : ℕ) → t ≡ 2 ^ n → c ≡ level_length n k 0
    → r ≡ 32 * tree_length (widths_of set) n k 0 → l ≡ levels_length n k → s ≡ 32 * tree_start (widths_of set) n k (suc n) → f ≡ level_length n k 1
    → z ≡ level_length n k n → y ≡ 32 * tree_length (widths_of set) n k n → q ≡ query_size (widths_of set) n k → a ≡ tail_size (widths_of set) n k
    → record {
      number = 0;
      table = t;
      gammas = k * n;
      codeword = c;
      tree = r;
      levels = l;
      trees = s;
      half = f;
      roots = 32 * (n + 1);
      last_level = z;
      last_tree = y;
      query = q;
      tail = a;
    } ≡ sizes_under set n k
sizes-made n k set t c r l s f z y q a et ec er el es ef ez ey eq ea = rw (et, ec, er, el, es, ef, ez, ey, eq, ea)
