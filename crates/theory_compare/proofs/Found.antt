-- What is found of two accepted query records: nothing where they are equal bytes, else two messages that differ, have one digest and
-- have room in their buffers. Rests on the binding of a tree's paths and on an accepted record being settled by its groups and paths.
use Prim.Native.Nat.{ℕ, suc, ◌+◌, ◌*◌, ◌<◌, ◌≤◌}
use mathlib.Core.Path.{◌≡◌, refl, sym, ◌∙◌}
use mathlib.Core.Logic.{◌⊎◌, inl, inr}
use mathlib.Core.List.{List, [], ◌∷◌}
use native.Mathlib.Omega.{arith}
use lib.ListN.{length}
use Rattle.theory_laws.proofs.Lists.{Bytes}
use Rattle.theory_merkle.specs.Digests.{DigestsLong}
use Rattle.theory_merkle.specs.Binding.{Found, none, pair, or_else, messages_of, collision, Nearest}
use Rattle.theory_merkle.proofs.Binding.{Says, FoundWithin, binding, collision-within}
use Rattle.theory_record.specs.Domain.{level_domain, domain_room}
use Rattle.theory_record.specs.Widths.{Widths, widths_of, level_length, level_width, level_depth}
use Rattle.theory_record.specs.declared.WidthSet.{WidthSet}
use Rattle.theory_record.specs.Trees.{leads_to}
use Rattle.theory_record.specs.Format.{LevelRecord, level_form, record_items}
use Rattle.theory_record.specs.Query.{pair_of}
use Rattle.theory_record.proofs.Domain.{level_domain-fits}
use Rattle.theory_record.proofs.Format.{GroupHeld, LevelHeld}
use Rattle.theory_record.proofs.Records.{All, length-record_items}
use Rattle.theory_record.proofs.Widths.{PowersOfTwo, narrow, level-width-le}
use Rattle.theory_record.proofs.Query.{Holds, AllHold, QueryAccepted}
use Rattle.theory_record.proofs.Consequences.{SameOpenings, AllSame, accepted-held, query_settled}
use Rattle.theory_compare.specs.Nearest.{way_of, NearestAt, NearestFrom, NearestRoot}
use Rattle.theory_compare.specs.Compare.{opening_found, pair_found, levels_found, records_found, longest_leaf, message_buffer}
use Rattle.theory_record.specs.Scheme.{Scheme}

-- two messages that differ, have one digest, and have room in their buffers
pub record Collides (H : List ℕ → List ℕ) (m m' : List ℕ) : Type 0 where
  pub differ : m ≡ m' → ⊥
  pub one_digest : H m ≡ H m'
  pub first_fits : length m ≤ message_buffer
  pub second_fits : length m' ≤ message_buffer

-- what a search tells: P where it found nothing, else two such messages, of which N holds: that they are the ones nearest the root
abbrev pub Tells : (List ℕ → List ℕ) → Type 0 → (List ℕ → List ℕ → Type 0) → Found → Type 0
Tells H P N none = P
Tells H P N (pair m m') = Collides H m m' × N m m'

-- of two searches, the second goes where the first found nothing
abbrev Then : Type 0 → (List ℕ → List ℕ → Type 0) → (List ℕ → List ℕ → Type 0) → List ℕ → List ℕ → Type 0
Then P N M m m' = N m m' ⊎ (P × M m m')

both_tell : (H : List ℕ → List ℕ) (P Q : Type 0) (N M : List ℕ → List ℕ → Type 0) (f g : Found) → Tells H P N f → Tells H Q M g
    → Tells H (P × Q) (Then P N M) (or_else f g)
both_tell H P Q N M none none p q = (p, q)
both_tell H P Q N M none (pair m m') p q = (q.0, inr (p, q.1))
both_tell H P Q N M (pair m m') g p q = (p.0, inl p.1)

so_tells : (H : List ℕ → List ℕ) (P Q : Type 0) (N : List ℕ → List ℕ → Type 0) (f : Found) → (P → Q) → Tells H P N f → Tells H Q N f
so_tells H P Q N none k p = k p
so_tells H P Q N (pair m m') k c = c

bound_tells : (H : List ℕ → List ℕ) (ms ms' : List (List ℕ)) (P : Type 0) (f : Found) → Says H ms ms' P f → FoundWithin message_buffer f
    → Tells H P (Nearest ms ms') f
bound_tells H ms ms' P none p w = p
bound_tells H ms ms' P (pair m m') c w =
    (record { differ = c.differ; one_digest = c.one_digest; first_fits = w.0; second_fits = w.1 }, c.nearest)

-- the longest message of either set has room in a buffer: 434 and 818 bytes
pub longest_leaves : (longest_leaf (widths_of WidthSet.Present) ≡ 434) × (longest_leaf (widths_of WidthSet.Wide) ≡ 818)
unfolding widths_of
longest_leaves = (refl, refl)

pub leaves_fit : (set : WidthSet) → longest_leaf (widths_of set) ≤ message_buffer
leaves_fit set = omega (arith, narrow set)

-- a group and a path of level l, as a record that is accepted has them
record Opens (s : Widths) (n k l : ℕ) (values : List ℕ) (path : List (List ℕ)) : Type 0 where
  pub held : GroupHeld values path
  pub wide : length values ≡ level_width s n k l
  pub deep : length path ≡ level_depth s n k l

-- a scheme whose longest leaf message has room in a buffer
module _ (S : Scheme) (sized : DigestsLong S.digest) (p : PowersOfTwo S.widths) (room : longest_leaf S.widths ≤ message_buffer)
    (short : length S.base ≤ 200) where
  open S use {digest as H, widths as s, base, n, k}

  opening_tells : (l place : ℕ) (values values' : List ℕ) (path path' : List (List ℕ)) → l < 100 → Opens s n k l values path → Opens s n k l values' path'
      → leads_to S l place values path ≡ leads_to S l place values' path'
      → Tells H ((values ≡ values') × (path ≡ path')) (Nearest (way_of S l place values path) (way_of S l place values' path'))
      (opening_found S l place values path values' path')
  unfolding opening_found leads_to
  opening_tells l place values values' path path' h o o' e =
      let domain : List ℕ = level_domain base l in
      let count : ℕ = level_length n k l in
      let width : ℕ = level_width s n k l in
      let d : length domain ≤ domain_room = level_domain-fits base l short h in
      let w : width ≤ s.width = level-width-le s p n k l in
      let ms = messages_of H domain count width place values path in
      let ms' = messages_of H domain count width place values' path' in
      bound_tells H ms ms' ((values ≡ values') × (path ≡ path')) (collision H domain count width place values path values' path')
      (binding H domain sized (omega arith) count width place values values' path path'
      o.held.words o'.held.words o.held.digests o'.held.digests (o.deep ∙ sym o'.deep) e)
      (collision-within H domain sized message_buffer count width place values values' path path' (omega arith) (omega arith)
      o.wide o'.wide o.held.digests o'.held.digests)

  module _ (position : ℕ) (challenges roots : List ℕ) where
    -- the two openings of a level that holds
    a_opens : (l : ℕ) (x : LevelRecord) → LevelHeld x → Holds S position challenges roots l x → Opens s n k l x.a_group x.a_path
    a_opens l x d h = record { held = d.a-held; wide = h.a_width; deep = h.a_path_there }

    c_opens : (l : ℕ) (x : LevelRecord) → LevelHeld x → Holds S position challenges roots l x → Opens s n k (suc l) x.c_group x.c_path
    c_opens l x d h = record { held = d.c-held; wide = h.c_width; deep = h.c_path_there }

    level_tells : (l : ℕ) (x y : LevelRecord) → suc l < 100 → LevelHeld x → LevelHeld y
        → Holds S position challenges roots l x → Holds S position challenges roots l y
        → Tells H (SameOpenings x y) (NearestAt S l (pair_of position l) x y) (pair_found S l (pair_of position l) x y)
    unfolding pair_found
    level_tells l x y h dx dy hx hy =
        let q : ℕ = pair_of position l in
        let a =
        opening_tells l (2 * q) x.a_group y.a_group x.a_path y.a_path (omega arith) (a_opens l x dx hx) (a_opens l y dy hy)
        (hx.a_root ∙ sym hy.a_root) in
        let c =
        opening_tells (suc l) q x.c_group y.c_group x.c_path y.c_path h (c_opens l x dx hx) (c_opens l y dy hy)
        (hx.c_root ∙ sym hy.c_root) in
        so_tells H _ (SameOpenings x y) (NearestAt S l q x y) (pair_found S l q x y)
        (λ (e : ((x.a_group ≡ y.a_group) × (x.a_path ≡ y.a_path)) × ((x.c_group ≡ y.c_group) × (x.c_path ≡ y.c_path))).
        record { a_groups = e.0.0; c_groups = e.1.0; a_paths = e.0.1; c_paths = e.1.1 })
        (both_tell H _ _ _ _ (opening_found S l (2 * q) x.a_group x.a_path y.a_group y.a_path)
        (opening_found S (suc l) q x.c_group x.c_path y.c_group y.c_path) a c)

    levels_tell : (l : ℕ) (xs ys : List LevelRecord) → l + length xs < 100 → length xs ≡ length ys → All LevelHeld xs → All LevelHeld ys
        → AllHold S position challenges roots l xs → AllHold S position challenges roots l ys
        → Tells H (AllSame xs ys) (NearestFrom S position l xs ys) (levels_found S position l xs ys)
    unfolding levels_found
    levels_tell l [] [] h e dx dy hx hy = tt
    levels_tell l [] (y ∷ ys) h e dx dy hx hy = absurd (omega arith)
    levels_tell l (x ∷ xs) [] h e dx dy hx hy = absurd (omega arith)
    levels_tell l (x ∷ xs) (y ∷ ys) h e dx dy hx hy =
        let q : ℕ = pair_of position l in
        both_tell H (SameOpenings x y) (AllSame xs ys) (NearestAt S l q x y) (NearestFrom S position (suc l) xs ys)
        (pair_found S l q x y) (levels_found S position (suc l) xs ys) (level_tells l x y (omega arith) dx.0 dy.0 hx.0 hy.0)
        (levels_tell (suc l) xs ys (omega arith) (omega arith) dx.1 dy.1 hx.1 hy.1)

    -- two records that are accepted for one position
    pub records_tell : (u v : List ℕ) → Bytes u → Bytes v
        → QueryAccepted S position challenges roots u → QueryAccepted S position challenges roots v
        → Tells H (u ≡ v) (NearestRoot S position u v) (records_found S position u v)
    unfolding records_found NearestRoot
    records_tell u v bu bv hu hv =
        let xs : List LevelRecord = record_items level_form n u in
        let ys : List LevelRecord = record_items level_form n v in
        let few = hu.ranges.sizes.n_most in
        let ex : length xs ≡ n = length-record_items level_form n u in
        let ey : length ys ≡ n = length-record_items level_form n v in
        let dx = accepted-held S position challenges roots u bu hu in
        let dy = accepted-held S position challenges roots v bv hv in
        so_tells H (AllSame xs ys) (u ≡ v) (NearestFrom S position 0 xs ys) (levels_found S position 0 xs ys)
        (λ e. query_settled S position challenges roots u v bu bv hu hv e)
        (levels_tell 0 xs ys (omega arith) (ex ∙ sym ey) dx dy hu.levels_hold hv.levels_hold)
