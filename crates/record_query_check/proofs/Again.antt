-- What a level that passed makes known of the next: its c opens the group of the next level's a.
use Prim.Native.Nat.{ℕ, zero, suc, ◌+◌, ◌*◌, ◌/◌, ◌%◌, ◌^◌, ◌<◌, ◌≤◌}
use mathlib.Core.Path.{◌≡◌, sym, ◌∙◌, ap}
use mathlib.Core.List.{List}
use native.Mathlib.Omega.{arith}
use native.Mathlib.Nat.{mod-lt, div-add-mod, div-one}
use native.Mathlib.Numerals.{add-one}
use lib.ListN.{length, drop}
use Rattle.theory_laws.specs.Table.{at}
use Rattle.theory_laws.specs.Lists.{part}
use Rattle.theory_field.specs.Words.{words}
use Rattle.theory_merkle.specs.Tree.{group_of, root_of_path, leaf_of, leaf_digest, climb}
use Rattle.record_reader.specs.helpers.Places.{level_at}
use Rattle.record_reader.specs.declared.Level.{Level}
use Rattle.record_reader.proofs.Places.{level-places}
use Rattle.theory_record.specs.Trees.{leads_to}
use Rattle.theory_record.specs.Format.{level_read}
use Rattle.theory_record.specs.Query.{pair_of, root_at, level_number}
use Rattle.theory_record.proofs.Query.{level_holds}
use Rattle.theory_record.proofs.Offsets.{pair-next}
use Rattle.theory_record.proofs.Widths.{PowersOfTwo, level-shape, width-pos, width-even, pair_group}
use Rattle.std.specs.Prelude.{Option, Some, None}
use Rattle.record_reader.specs.declared.Opening.{Opening}
use Rattle.record_opening.specs.helpers.Opening.{values_at, digests_at, Leads, Known}
use Rattle.record_known.specs.helpers.Known.{known_of, LevelsLent, LevelsKnown}
use Rattle.record_query_check.specs.helpers.Level.{Allowed}
use Rattle.record_query_check.proofs.Level.{level-room}
use Rattle.theory_record.specs.Scheme.{Scheme, width_at, length_at, domain_at}

-- for the roots as they are read
pub known_read : (S : Scheme) (position : ℕ) (roots : List ℕ) (l q : ℕ) (s : List ℕ) (old : Option Opening) (ra : List ℕ) → q ≡ pair_of position l
    → ra ≡ part 32 (32 * l) roots
    → Known S l (2 * pair_of position l) s old (root_at roots l) → Known S l (2 * q) s old ra
unfolding root_at
known_read S position roots l q s old ra eq er z = rw (eq, er) z

pub c-known-read : (S : Scheme) (position : ℕ) (roots : List ℕ) (l q : ℕ) (s : List ℕ) (old : Option Opening) (rc : List ℕ) → q ≡ pair_of position l
    → rc ≡ part 32 (32 * (l + 1)) roots
    → Known S (l + 1) (pair_of position l) s old (root_at roots (l + 1)) → Known S (l + 1) q s old rc
unfolding root_at
c-known-read S position roots l q s old rc eq er z = rw (eq, er) z

-- the even place of the two that share a pair
even_place : (w q : ℕ) → 0 < w → w ≡ 2 * (w / 2) → group_of q w ≡ group_of (2 * (q / 2)) w
even_place w q pos even = go (q % 2) (sym (div-add-mod q 2)) (mod-lt q (omega arith))
  where
    go : (r : ℕ) → q ≡ 2 * (q / 2) + r → r < 2 → group_of q w ≡ group_of (2 * (q / 2)) w
    go zero e h = ap (λ (x : ℕ). group_of x w) {x = q} {y = 2 * (q / 2)} (omega arith)
    go (suc zero) e h = ap (λ (x : ℕ). group_of x w) {x = q} {y = 2 * (q / 2) + 1} e ∙ pair_group w (q / 2) pos even
    go (suc (suc r)) e h = absurd (omega arith)

-- places of one group lead to one root
one_group_leads : (S : Scheme) (l p q : ℕ) (values : List ℕ) (path : List (List ℕ)) → group_of p (width_at S l) ≡ group_of q (width_at S l)
    → leads_to S l p values path ≡ leads_to S l q values path
unfolding leads_to root_of_path leaf_of
one_group_leads S l p q values path e =
    ap (λ (g : ℕ). climb S.digest (domain_at S l) 0 g (leaf_digest S.digest (domain_at S l) (length_at S l) (width_at S l) g values) path) e

-- so an opening of a place is one of the even place of its pair
even_leads : (S : Scheme) (pw : PowersOfTwo S.widths) (l q : ℕ) (s : List ℕ) (group path : ℕ) (root : List ℕ) → l < S.n → Leads S l q s group path root
    → Leads S l (2 * (q / 2)) s group path root
even_leads S pw l q s group path root h z =
    let shape = level-shape S.widths S.n S.k l pw in
    let same : group_of q (width_at S l) ≡ group_of (2 * (q / 2)) (width_at S l) =
    even_place (width_at S l) q (width-pos S.widths S.n S.k l shape) (width-even S.widths S.n S.k l shape (omega arith)) in
    record {
      group_fits = z.group_fits;
      path_fits = z.path_fits;
      width_is = z.width_is;
      depth_is = z.depth_is;
      root_is = sym (one_group_leads S l q (2 * (q / 2)) _ _ same) ∙ z.root_is;
    }

pub leads_next : (S : Scheme) (pw : PowersOfTwo S.widths) (position : ℕ) (challenges roots : List ℕ) (l : ℕ) (s : List ℕ) (i : ℕ) (v : Level) (x : ℕ)
    → Allowed S position challenges roots → l + 1 < S.n → Some v ≡ level_at s i
    → x ≡ level_number S position challenges roots l (level_read (drop i s)) → x ≡ 0
    → Leads S (l + 1) (2 * pair_of position (l + 1)) s v.c.group_at v.c.path_at (root_at roots (l + 1))
unfolding level_number level_read values_at digests_at
leads_next S pw position challenges roots l s i v x a h ev ex z =
    let q : ℕ = pair_of position l in
    let p = level-places s i v ev in
    let room = level-room l s i v a (omega arith) ev in
    let y = level_holds S l q (at (words challenges) l) (root_at roots l) (root_at roots (suc l)) (level_read (drop i s)) (sym ex ∙ z) in
    rw (add-one, pair-next position l)
    (even_leads S pw (suc l) q s v.c.group_at v.c.path_at (root_at roots (suc l)) (omega arith)
    (record {
      group_fits = room.c_readable.group_fits;
      path_fits = room.c_readable.path_fits;
      width_is = rw p.c_group y.c_width;
      depth_is = rw p.c_path_there y.c_path_there;
      root_is = rw (p.c_group, p.c_path_there) y.c_root;
    }))

-- what the first pass is lent
pub levels-lent : {S : Scheme} {position : ℕ} {challenges roots s : List ℕ} → Allowed S position challenges roots → 4 ≤ length s → LevelsLent S roots s
levels-lent a h = record {
  in_range = record { n_most = a.n_most; k_most = a.k_most; level_most = omega arith; base_short = a.base_short };
  roots_long = a.roots_long;
  counted = h;
}

-- what the first pass knows: of level 0 for the first pair, and of each level for the value that a pair folds to
module _ (S : Scheme) (position : ℕ) (roots s : List ℕ) (ways : List (Option Opening)) (z : LevelsKnown S position roots s ways) where
  pub first-known : PowersOfTwo S.widths → 0 < S.n → Known S 0 (2 * pair_of position 0) s (known_of ways 0) (root_at roots 0)
  unfolding pair_of
  first-known pw h = go (known_of ways 0) (z.known_at 0)
    where
      go : (known : Option Opening) → Known S 0 (position / 2 ^ 0) s known (root_at roots 0) → Known S 0 (2 * pair_of position 0) s known (root_at roots 0)
      go None y = tt
      go (Some old) y = even_leads S pw 0 position s _ _ (root_at roots 0) h (rw (div-one position) at y)

  pub next_known : (l : ℕ) → Known S (l + 1) (pair_of position l) s (known_of ways (l + 1)) (root_at roots (l + 1))
  unfolding pair_of
  next_known l = rw (add-one l) (rw (add-one l) at (z.known_at (l + 1)))
