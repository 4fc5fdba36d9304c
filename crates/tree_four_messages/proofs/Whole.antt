-- Four whole messages: a prefix that they have in common, and a rest each.
use Prim.Native.Nat.{ℕ, ◌+◌, ◌*◌, ◌/◌, ◌≤◌, ◌<◌}
use mathlib.Core.Path.{◌≡◌, sym, ◌∙◌, ap, ap₂}
use mathlib.Core.List.{List, [], ◌∷◌, ◌++◌}
use native.Mathlib.Omega.{arith}
use lib.ListN.{length, take, drop}
use lib.Seq.{take_at, take-take}
use Rattle.theory_laws.specs.Lists.{part, flat}
use Rattle.theory_blake3.specs.declared.Mode.{Mode}
use Rattle.hash_chunk.specs.helpers.Blocks.{first_blocks}
use Rattle.hash_chunk.proofs.Blocks.{first_blocks-append}
use Rattle.tree_four_messages.specs.helpers.Strides.{four, Each, Common}

-- four items, item by item
pub four-ext : (f g : ℕ → List ℕ) → ((k : ℕ) → k < 4 → f k ≡ g k) → four f ≡ four g
four-ext f g e =
    ap₂ (λ (x : List ℕ) (xs : List (List ℕ)). x ∷ xs) (e 0 (omega arith))
    (ap₂ (λ (x : List ℕ) (xs : List (List ℕ)). x ∷ xs) (e 1 (omega arith))
    (ap₂ (λ (x : List ℕ) (xs : List (List ℕ)). x ∷ xs) (e 2 (omega arith)) (ap (λ (x : List ℕ). x ∷ []) (e 3 (omega arith)))))

part-front : (p n i : ℕ) (l : List ℕ) → part p i l ≡ take p (part (p + n) i l)
unfolding part
part-front p n i l = sym (take-take p (p + n) (drop i l) (omega arith))

-- the prefix, as it is lent
pub prefixes_stand : (F P m : List ℕ) (p : ℕ) → F ≡ P → length P ≡ p → Each (length F) m (λ k. F) → Each p m (λ k. P)
prefixes_stand F P m p e s f k h = ap (λ n. part n (1024 * k) m) (sym (ap length e ∙ s)) ∙ f k h ∙ e

module _ (P : List ℕ) (p n : ℕ) (rest : ℕ → List ℕ) (m m' : List ℕ) (sized : length P ≡ p) (kept : Each p m (λ k. P))
    (filled : Each (p + n) m' (λ k. part p (1024 * k) m ++ rest k)) where
  whole : Each (p + n) m' (λ k. P ++ rest k)
  whole k h = filled k h ∙ ap (λ (l : List ℕ). l ++ rest k) (kept k h)

  -- the prefix is kept
  pub kept_whole : Each p m' (λ k. P)
  kept_whole k h = part-front p n (1024 * k) m' ∙ ap (take p) (whole k h) ∙ take_at P (rest k) p sized

  -- and its blocks are the messages'
  pub common : (mode : Mode) (h : List ℕ) → h ≡ first_blocks mode.key mode.flags (p / 64) P → 0 < n → p + n ≤ 1024 → 4096 ≤ length m'
      → Common mode h (p / 64) (p + n) m'
  common mode h e some fits room =
      record {
        chunk = fits;
        followed = omega arith;
        room = room;
        value = λ k b. e ∙ sym (first_blocks-append mode.key mode.flags (p / 64) P (rest k) (omega arith))
            ∙ ap (first_blocks mode.key mode.flags (p / 64)) (sym (whole k b));
      }

  -- their digests
  pub four_hashed : (H : List ℕ → List ℕ) → flat (four (λ k. H (part (p + n) (1024 * k) m'))) ≡ flat (four (λ k. H (P ++ rest k)))
  four_hashed H = ap flat (four-ext (λ k. H (part (p + n) (1024 * k) m')) (λ k. H (P ++ rest k)) (λ k b. ap H (whole k b)))
