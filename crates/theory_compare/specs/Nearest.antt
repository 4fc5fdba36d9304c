-- Which two messages a comparison hands over (SPECIFICATION 9), said apart from how they are found: those nearest the root that differ, at the
-- lowest level that differs, path a before path c. Rests on the messages of a path and on the levels of a record.
use Rattle.std.specs.Prelude.{ℕ, suc, ◌*◌, ◌≡◌, ◌⊎◌, List, [], ◌∷◌}
use Rattle.theory_merkle.specs.Binding.{messages_of, Nearest}
use Rattle.theory_record.specs.Widths.{level_length, level_width}
use Rattle.theory_record.specs.Domain.{level_domain}
use Rattle.theory_record.specs.Format.{LevelRecord, level_form, record_items}
use Rattle.theory_record.specs.Query.{pair_of}
use Rattle.theory_record.specs.Accepted.{SameOpenings}
use Rattle.theory_record.specs.Scheme.{Scheme}

module _ (S : Scheme) where
  open S use {digest as H, widths as s, base, n, k}

  -- the messages that are hashed on the way from the group of a place of level l to the root
  abbrev pub way_of : ℕ → ℕ → List ℕ → List (List ℕ) → List (List ℕ)
  way_of l place values path = messages_of H (level_domain base l) (level_length n k l) (level_width s n k l) place values path

  -- of level l, of which q is the pair: on the way of a; or, where both show the same for a, on the way of c
  abbrev pub NearestAt : ℕ → ℕ → LevelRecord → LevelRecord → List ℕ → List ℕ → Type 0
  NearestAt l q x y m m' =
      Nearest (way_of l (2 * q) x.a_group x.a_path) (way_of l (2 * q) y.a_group y.a_path) m m'
      ⊎ (((x.a_group ≡ y.a_group) × (x.a_path ≡ y.a_path)) × Nearest (way_of (suc l) q x.c_group x.c_path) (way_of (suc l) q y.c_group y.c_path) m m')

  -- level by level, from l on: at this level, or, where it shows the same, at a later one
  abbrev pub NearestFrom : ℕ → ℕ → List LevelRecord → List LevelRecord → List ℕ → List ℕ → Type 0
  NearestFrom position l [] ys m m' = ⊥
  NearestFrom position l (x ∷ xs) [] m m' = ⊥
  NearestFrom position l (x ∷ xs) (y ∷ ys) m m' = NearestAt l (pair_of position l) x y m m' ⊎ (SameOpenings x y × NearestFrom position (suc l) xs ys m m')

  -- of the bytes of two records for one position
  unfoldable pub NearestRoot : ℕ → List ℕ → List ℕ → List ℕ → List ℕ → Type 0
  NearestRoot position u v m m' = NearestFrom position 0 (record_items level_form n u) (record_items level_form n v) m m'
