-- A query record and a tail record are accepted exactly when they are what `specs/Accepted` says: a fact for each question. Rests on the
-- conjunctions over what is read, and on reading back what was written.
use Prim.Native.Nat.{ℕ, ◌^◌, ◌<◌}
use mathlib.Core.Path.{◌≡◌, ◌∙◌}
use mathlib.Core.Logic.{◌↔◌}
use mathlib.Core.Bool.{true}
use mathlib.Core.List.{List}
use native.Mathlib.Omega.{arith}
use lib.ListN.{length}
use Rattle.theory_laws.specs.Lists.{Bytes, All}
use Rattle.theory_record.specs.Widths.{level_groups}
use Rattle.theory_record.specs.Format.{Form, level_form, tail_form, run_count, record_whole, record_bytes, record_items}
use Rattle.theory_record.specs.Query.{accepted, check_query}
use Rattle.theory_record.specs.Tail.{check_tail}
use Rattle.theory_record.specs.Scheme.{Scheme}
use Rattle.theory_record.specs.Accepted.{Few, LevelHeld, TailGroupHeld, AcceptedQuery, AcceptedTail}
use Rattle.theory_record.proofs.Records.{Faithful, Written, record_written, record_held, record_read, length-record_items}
use Rattle.theory_record.proofs.Format.{level_faithful, tail_faithful}
use Rattle.theory_record.proofs.Query.{QueryAccepted, query_accepted, accepted_query}
use Rattle.theory_record.proofs.Tail.{TailAccepted, tail-accepted, accepted-tail}

-- ---- bytes that read whole, with c items, are those of c items that the format can hold

module _ {A : Type 0} (form : Form A) (Held : A → Type 0) (f : Faithful form Held) (c : ℕ) (bytes : List ℕ) where
  -- read from the bytes
  pub record Read : Type 0 where
    pub held : All Held (record_items form c bytes)
    pub back : record_bytes form (record_items form c bytes) ≡ bytes

  read : Bytes bytes → record_whole form bytes ≡ true → run_count bytes ≡ c → Read
  read b w e = record { held = rw e at (record_held form Held f bytes b w); back = rw e at (record_read form Held f bytes b w) }

  -- and what is read is what was written
  pub record Wrote (xs : List A) : Type 0 where
    pub whole : record_whole form bytes ≡ true
    pub count : run_count bytes ≡ c
    pub items : record_items form c bytes ≡ xs

  wrote : (xs : List A) → All Held xs → Few xs → record_bytes form xs ≡ bytes → length xs ≡ c → Wrote xs
  wrote xs h few e l =
      let w : Written form xs = record_written form Held f xs h few in
      record {
        whole = rw e at w.reads_whole;
        count = (rw e at w.count-is) ∙ l;
        items = rw (e, l) at w.items_are;
      }

-- ---- a query record

module _ (S : Scheme) (position : ℕ) (challenges roots bytes : List ℕ) (b : Bytes bytes) where
  open S use {n}

  made : check_query S position challenges roots bytes ≡ accepted → AcceptedQuery S position challenges roots bytes
  made e =
      let q = query_accepted S position challenges roots bytes e in
      let r = read level_form LevelHeld level_faithful n bytes b q.reads_whole q.has_n_levels in
      record {
        ranges = q.ranges;
        position_low = q.position_low;
        levels = record_items level_form n bytes;
        levels-held = r.held;
        reads_whole = r.back;
        n_levels = length-record_items level_form n bytes;
        levels_hold = q.levels_hold;
      }

  checked : AcceptedQuery S position challenges roots bytes → check_query S position challenges roots bytes ≡ accepted
  checked a =
      let few : length a.levels < 2 ^ 32 = omega (arith, a.n_levels, a.ranges.sizes.n_most) in
      let w = wrote level_form LevelHeld level_faithful n bytes a.levels a.levels-held few a.reads_whole a.n_levels in
      let q : QueryAccepted S position challenges roots bytes =
      record {
        ranges = a.ranges;
        position_low = a.position_low;
        reads_whole = w.whole;
        has_n_levels = w.count;
        levels_hold = rw w.items a.levels_hold;
      } in
      accepted_query S position challenges roots bytes q

  pub query_exactly : (check_query S position challenges roots bytes ≡ accepted) ↔ AcceptedQuery S position challenges roots bytes
  query_exactly = (made, checked)

-- ---- a tail record

module _ (S : Scheme) (last_root : List ℕ) (claim : ℕ) (bytes : List ℕ) (b : Bytes bytes) where
  open S use {widths as s, n, k}

  tail-made : check_tail S last_root claim bytes ≡ 0 → AcceptedTail S last_root claim bytes
  tail-made e =
      let q = tail-accepted S last_root claim bytes e in
      let r = read tail_form TailGroupHeld tail_faithful (level_groups s n k n) bytes b q.reads_whole q.has_all_groups in
      record {
        sizes = q.sizes;
        root_long = q.root_long;
        base_short = q.base_short;
        groups = record_items tail_form (level_groups s n k n) bytes;
        groups-held = r.held;
        reads_whole = r.back;
        all-groups = length-record_items tail_form (level_groups s n k n) bytes;
        groups_hold = q.all_hold;
        claim_first = q.claim_first;
      }

  tail-checked : level_groups s n k n < 2 ^ 32 → AcceptedTail S last_root claim bytes → check_tail S last_root claim bytes ≡ 0
  tail-checked small a =
      let few : length a.groups < 2 ^ 32 = omega (arith, a.all-groups) in
      let w = wrote tail_form TailGroupHeld tail_faithful (level_groups s n k n) bytes a.groups a.groups-held few a.reads_whole a.all-groups in
      let q : TailAccepted S last_root claim bytes =
      record {
        sizes = a.sizes;
        root_long = a.root_long;
        base_short = a.base_short;
        reads_whole = w.whole;
        has_all_groups = w.count;
        all_hold = rw w.items a.groups_hold;
        claim_first = rw w.items a.claim_first;
      } in
      accepted-tail S last_root claim bytes q

  -- the last level has few groups
  pub tail_exactly : level_groups s n k n < 2 ^ 32 → (check_tail S last_root claim bytes ≡ 0) ↔ AcceptedTail S last_root claim bytes
  tail_exactly small = (tail-made, tail-checked small)
