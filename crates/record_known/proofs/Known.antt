-- What is known of a list of openings: of none at first, and of one more where a lane led to its root.
use Prim.Native.Nat.{ℕ, zero, suc, ◌*◌, ◌≤◌, ◌<◌}
use mathlib.Core.Path.{◌≡◌, refl, ◌∙◌, ap}
use mathlib.Core.Logic.{⊎_elim}
use mathlib.Core.List.{List}
use native.Mathlib.Omega.{arith}
use lib.ListN.{length, set, replicate, length-set, length-replicate}
use lib.Seq.{get_or-set_same, get_or-set_other}
use Rattle.theory_laws.specs.Lists.{part}
use Rattle.theory_laws.proofs.Numbers.{lt_or_le}
use Rattle.theory_record.specs.Query.{root_at}
use Rattle.theory_record.specs.Scheme.{Scheme}
use Rattle.record_reader.specs.declared.Opening.{Opening}
use Rattle.std.specs.Prelude.{Option, None}
use Rattle.record_opening.specs.helpers.Opening.{Known}
use Rattle.record_known.specs.helpers.Known.{Sought, opening_of, known_of, opened_by, settled, AllKnown, EndAt, FourLevels}
use Rattle.record_known.specs.helpers.Domains.{level_in}
use Rattle.record_known.proofs.LevelDomains.{level-between}
use Rattle.record_known.proofs.Lanes.{ended-known}

-- ---- none

-- nothing is known
pub none_of : (n i : ℕ) → known_of (replicate n None) i ≡ None
none_of zero i = refl
none_of (suc n) zero = refl
none_of (suc n) (suc i) = none_of n i

-- opening j of a list of which opening i was put anew: the new one, or what was there
put_opening : (P : Option Opening → Type 0) (ways : List (Option Opening)) (i j : ℕ) (v : Option Opening) → i < length ways → (j ≡ i → P v) → P (known_of ways j)
    → P (known_of (set ways i v) j)
put_opening P ways i j v room new old =
    ⊎_elim
    (λ (h : j < i). rw (get_or-set_other ways i j v None (omega arith)) old)
    (λ (h : i ≤ j).
    ⊎_elim
    (λ (g : i < j). rw (get_or-set_other ways i j v None (omega arith)) old)
    (λ (g : j ≤ i).
    let e : j ≡ i = omega arith in
    let z : known_of (set ways i v) j ≡ v = ap (known_of (set ways i v)) e ∙ get_or-set_same ways i v None room in
    rw z (new e))
    (lt_or_le i j))
    (lt_or_le j i)

pub none-known : (S : Scheme) (w : Sought) (root : ℕ → List ℕ) (s : List ℕ) → AllKnown S w root s (replicate 21 None)
none-known S w root s = record {
  all_there = length-replicate {A = Option Opening} 21 None;
  known_at = λ i. rw (none_of 21 i) tt;
}

-- ---- one more

pub one-settled : (S : Scheme) (w : Sought) (root : ℕ → List ℕ) (s : List ℕ) (openings : List Opening) (ways r : List (Option Opening)) (i : ℕ) (end : Option (List ℕ))
    → i < 21 → EndAt S w s openings i end → AllKnown S w root s ways → r ≡ settled ways openings i end (root i) → AllKnown S w root s r
one-settled S w root s openings ways r i end low of z er =
    rw er
    (record {
      all_there = length-set ways i _ ∙ z.all_there;
      known_at = λ j.
          put_opening (λ (o : Option Opening). Known S (w.level j) (w.place j) s o (root j)) ways i j
          (opened_by (opening_of openings i) end (root i)) (omega (arith, z.all_there))
          (λ q. rw q (ended-known S (w.level i) (w.place i) s (opening_of openings i) end (root i) of))
          (z.known_at j);
    })

-- its root as it is read
pub root-read : (ways : List (Option Opening)) (openings : List Opening) (r : List (Option Opening)) (l m : ℕ) (end : Option (List ℕ)) (roots root : List ℕ)
    → l ≡ m → root ≡ part 32 (32 * l) roots → r ≡ settled ways openings l end root → r ≡ settled ways openings m end (root_at roots m)
unfolding root_at
root-read ways openings r l m end roots root el er e = rw (← el) (rw er at e)

-- the level of a lane is one of a record's
pub lane_low : (S : Scheme) (position : ℕ) (roots s : List ℕ) (e last : ℕ) (ways : List (Option Opening)) (k : ℕ) → FourLevels S position roots s e last ways
    → level_in e last k < 21
lane_low S position roots s e last ways k f =
    let b = level-between e last k f.rising in
    omega (arith, b.most, f.last_most, f.lent.in_range.n_most)
