-- A walk by fours over the messages of a tree or level: how many there are, what stays, and what a turn stores.
use Prim.Native.Nat.{ℕ, ◌+◌, ◌*◌, ◌/◌, ◌%◌, ◌≤◌, ◌<◌}
use mathlib.Core.Path.{◌≡◌, refl, sym, ◌∙◌, ap, ap₂}
use mathlib.Core.Bool.{Bool, true, false}
use mathlib.Core.List.{List, ◌++◌}
use native.Mathlib.Omega.{arith}
use borrow.Author.Tests.{leb-true}
use lib.Dec.{leb}
use lib.ListN.{length, take}
use Rattle.theory_laws.specs.Questions.{pick}
use Rattle.theory_laws.specs.Lists.{part, stored}
use Rattle.theory_laws.proofs.Lists.{stored-append}
use Rattle.theory_blake3.specs.declared.Mode.{Mode}
use Rattle.bytes_numbers.specs.helpers.Put.{Put}
use Rattle.tree_digest.proofs.Messages.{prefix-is}
use Rattle.hash_chunk.specs.helpers.Blocks.{first_blocks}
use Rattle.tree_four_messages.specs.helpers.Strides.{Each, Common}
use Rattle.tree_four_messages.proofs.Whole.{prefixes_stand, kept_whole, common}
use Rattle.tree_by_fours.specs.helpers.Fours.{by_fours}

-- messages that begin with P, p bytes, and have n more: h is the chaining value of P's whole blocks, and `all` of the messages, a multiple of
-- four, are hashed by fours
pub record Begun (mode : Mode) (P h : List ℕ) (p n all count : ℕ) : Type 0 where
  pub sized : length P ≡ p
  pub value : h ≡ first_blocks mode.key mode.flags (p / 64) P
  pub within : all ≤ count
  pub whole : all % 4 ≡ 0
  pub fits : 0 < all → p + n ≤ 1024

-- how many messages are hashed by fours
fours_fit : (size count : ℕ) → (by_fours size count ≤ count) × (by_fours size count % 4 ≡ 0) × (0 < by_fours size count → size ≤ 1024)
unfolding by_fours
fours_fit size count = go (leb size 1024) refl
  where
    go : (b : Bool) → leb size 1024 ≡ b → (pick b (count / 4 * 4) 0 ≤ count) × (pick b (count / 4 * 4) 0 % 4 ≡ 0)
        × (0 < pick b (count / 4 * 4) 0 → size ≤ 1024)
    go true t = (omega arith, omega arith, λ z. leb-true size 1024 t)
    go false t = (omega arith, refl, λ z. absurd (omega arith))

pub by_fours-le : (r size count : ℕ) → r ≡ by_fours size count → r ≤ count
by_fours-le r size count e = rw e (fours_fit size count).0

begun : (mode : Mode) (F P h : List ℕ) (p n all count : ℕ) → F ≡ P → length P ≡ p
    → h ≡ first_blocks mode.key mode.flags (length F / 64) F → all ≡ by_fours (p + n) count
    → Begun mode P h p n all count
begun mode F P h p n all count e s v f =
    let q = fours_fit (p + n) count in
    record {
      sized = s;
      value = v ∙ ap₂ (λ (i : ℕ) (l : List ℕ). first_blocks mode.key mode.flags (i / 64) l) (ap length e ∙ s) e;
      within = rw f q.0;
      whole = rw f q.1;
      fits = rw f q.2;
    }

-- bytes that are put first end at their length
front-sized : (o : List ℕ) (n : ℕ) (bs o1 : List ℕ) (next : ℕ) → Put o 0 n bs o1 next → length bs ≡ next
front-sized o n bs o1 next p = omega (arith, p.size, p.end)

-- a walk before message i: `all` of the messages are hashed by fours, each stride begins with P, and the tree and the strides are as long as they were
pub record Walk (mode : Mode) (P h : List ℕ) (p n all count i : ℕ) (tree₀ strides₀ tree strides : List ℕ) : Type 0 where
  pub begun : Begun mode P h p n all count
  pub passed : i ≤ all
  pub fours : i % 4 ≡ 0
  pub tree_long : length tree ≡ length tree₀
  pub strides_long : length strides ≡ length strides₀
  pub prefixes : Each p strides (λ k. P)

-- it begins once P, of m bytes, is put into a buffer, and the strides and their first blocks are begun with it
pub walk_begin : (mode : Mode) (o : List ℕ) (m : ℕ) (P o1 : List ℕ) (p : ℕ) (tree strides h : List ℕ) (n size all count : ℕ) → Put o 0 m P o1 p
    → m ≤ length o → Each (length (take p o1)) strides (λ k. take p o1) → h ≡ first_blocks mode.key mode.flags (length (take p o1) / 64) (take p o1)
    → all ≡ by_fours size count → size ≡ p + n → Walk mode P h p n all count 0 tree strides tree strides
walk_begin mode o m P o1 p tree strides h n size all count put fits stand value fours same =
    let e = prefix-is o m P o1 p put fits in
    let s = front-sized o m P o1 p put in
    record {
      begun = begun mode (take p o1) P h p n all count e s value (fours ∙ ap (λ i. by_fours i count) same);
      passed = omega arith;
      fours = refl;
      tree_long = refl;
      strides_long = refl;
      prefixes = prefixes_stand (take p o1) P strides p e s stand;
    }

module _ {mode : Mode} {P h : List ℕ} {p n all count i : ℕ} {tree₀ strides₀ tree strides : List ℕ}
    (w : Walk mode P h p n all count i tree₀ strides₀ tree strides) (more : i < all) where
  -- four messages are left
  pub four-left : i + 4 ≤ all
  four-left = omega (arith, w.begun.whole, w.fours, w.passed)

  module _ (rest : ℕ → List ℕ) (strides' : List ℕ) (filled : Each (p + n) strides' (λ k. part p (1024 * k) strides ++ rest k)) where
    -- what they have in common, for their digests
    pub walk_common : 0 < n → 4096 ≤ length strides' → Common mode h (p / 64) (p + n) strides'
    walk_common some room =
        common P p n rest strides strides' w.begun.sized w.prefixes filled mode h w.begun.value some (w.begun.fits (omega arith)) room

    -- a turn
    pub walk_turn : (tree' : List ℕ) → length tree' ≡ length tree₀ → length strides' ≡ length strides₀
        → Walk mode P h p n all count (i + 4) tree₀ strides₀ tree' strides'
    walk_turn tree' e f =
        record {
          begun = w.begun;
          passed = four-left;
          fours = omega (arith, w.fours);
          tree_long = e;
          strides_long = f;
          prefixes = kept_whole P p n rest strides strides' w.begun.sized w.prefixes filled;
        }

-- a put is the first part of what is stored
pub put_then : (o : List ℕ) (from n : ℕ) (a o1 : List ℕ) (next : ℕ) (b r : List ℕ) → Put o from n a o1 next → stored o from (a ++ b) ≡ r
    → stored o1 next b ≡ r
put_then o from n a o1 next b r p e =
    ap₂ (λ (l : List ℕ) (i : ℕ). stored l i b) p.bytes (p.end ∙ ap (λ i. from + i) (sym p.size)) ∙ sym (stored-append o from a b) ∙ e
