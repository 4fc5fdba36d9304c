-- A group and a path of level l in a record: what is read of them is in the record, and they lead to the level's root.
use Prim.Native.Nat.{ℕ, ◌+◌, ◌*◌, ◌<◌, ◌≤◌}
use mathlib.Core.Path.{◌≡◌}
use mathlib.Core.Bool.{true}
use mathlib.Core.List.{List}
use native.Mathlib.Omega.{arith}
use borrow.Author.Tests.{leb-true}
use lib.Dec.{leb}
use lib.ListN.{length, take, drop, length-drop}
use lib.Seq.{drop-drop}
use Rattle.theory_laws.specs.Lists.{runs}
use Rattle.theory_laws.proofs.Lists.{both_true}
use Rattle.theory_merkle.specs.Tree.{root_of_path}
use Rattle.bytes_numbers.specs.helpers.Put.{Put}
use Rattle.tree_digest.proofs.Messages.{message-length}
use Rattle.theory_record.specs.Trees.{leads_to}
use Rattle.theory_record.specs.Format.{run_count, run_size, run_fits, run_items}
use Rattle.theory_record.specs.declared.Trees.{Trees}
use Rattle.theory_record.specs.Widths.{widths_of, widest}
use Rattle.theory_record.proofs.Domain.{level_domain-fits}
use Rattle.theory_record.proofs.Widths.{powers, width-most, level-shape, width-pos}
use Rattle.record_opening.specs.helpers.Opening.{values_from, values_at, digests_at, Sized}
use Rattle.theory_record.specs.Scheme.{Scheme, scheme, width_at, depth_at, length_at, domain_at}
use Rattle.theory_record.specs.Domain.{domain_room}

-- a run that is all there ends within the record
pub run_room : (size : ℕ) (s : List ℕ) (i : ℕ) → run_fits size (drop i s) ≡ true → i + 4 + size * run_count (drop i s) ≤ length s
unfolding run_fits run_size
run_room size s i e =
    let b = both_true (leb 4 (length (drop i s))) (leb (4 + size * run_count (drop i s)) (length (drop i s))) e in
    let f = leb-true 4 (length (drop i s)) b.0 in
    let g = leb-true (4 + size * run_count (drop i s)) (length (drop i s)) b.1 in
    let n = length-drop i s in
    omega arith

-- what a function needs that reads them
pub record Room (S : Scheme) (l : ℕ) (s : List ℕ) (group path : ℕ) : Type 0 where
  pub domain_short : length (domain_at S l) ≤ domain_room
  pub width-pos : 0 < width_at S l
  pub width-le : width_at S l ≤ widest
  pub group_room : group + 4 + 16 * width_at S l ≤ length s
  pub path_room : path + 4 + 32 * depth_at S l ≤ length s

pub sized-room : (how : Trees) {base : List ℕ} {n k l : ℕ} {s : List ℕ} {group path : ℕ} → Sized (scheme how base n k) l s group path
    → Room (scheme how base n k) l s group path
sized-room how {base} {n} {k} {l} {s} {group} {path} z =
    let r = z.readable in
    record {
      domain_short = level_domain-fits base l r.base_short (omega arith);
      width-pos = width-pos (widths_of how.set) n k l (level-shape (widths_of how.set) n k l (powers how.set));
      width-le = width-most how.set n k l;
      group_room = rw z.width_is at (run_room 16 s group r.group_fits);
      path_room = rw z.depth_is at (run_room 32 s path r.path_fits);
    }

pub leads_is : (S : Scheme) (l : ℕ) (s : List ℕ) (group path : ℕ) (place count width depth : ℕ) (domain r : List ℕ) → Sized S l s group path
    → r ≡ root_of_path S.digest domain count width place (values_from s (group + 4) width) (runs 32 depth (drop (path + 4) s))
    → domain ≡ domain_at S l → count ≡ length_at S l → width ≡ width_at S l → depth ≡ depth_at S l
    → r ≡ leads_to S l place (values_at s group) (digests_at s path)
unfolding leads_to values_from values_at digests_at run_items
leads_is S l s group path place count width depth domain r z e ed ec ew eh =
    rw (z.width_is, z.depth_is, drop-drop 4 group s, drop-drop 4 path s, ← ed, ← ec, ← ew, ← eh) e

-- the domain in its buffer
pub domain-room : (o : List ℕ) (n : ℕ) (a o1 : List ℕ) (i : ℕ) → Put o 0 n a o1 i → n ≤ length o → n ≤ domain_room → length (take i o1) ≤ 255
domain-room o n a o1 i p h g = omega (arith, message-length o 0 n a o1 i p (omega arith), p.end)
