-- A group and a path of level l in two records: their chains have room in a buffer of `chain_buffer` bytes, and what differs in them is found.
use Prim.Native.Nat.{ℕ, ◌+◌, ◌*◌, ◌≤◌}
use mathlib.Core.Path.{◌≡◌, refl, ◌∙◌, ap}
use mathlib.Core.List.{List}
use Rattle.std.specs.Prelude.{Option}
use native.Mathlib.Omega.{arith}
use native.Mathlib.Nat.{mul-le-mul}
use lib.ListN.{length, take, drop}
use lib.Seq.{drop-drop}
use Rattle.theory_laws.specs.Lists.{runs, flat, stored}
use Rattle.theory_laws.proofs.Lists.{AllLong, length-stored}
use Rattle.theory_blake3.specs.Modes.{under}
use Rattle.theory_blake3.proofs.Modes.{length-under}
use Rattle.theory_merkle.specs.Binding.{messages_of, last_differing, collision}
use Rattle.bytes_numbers.specs.helpers.Put.{Put}
use Rattle.tree_digest.proofs.Messages.{prefix-is}
use Rattle.theory_record.specs.declared.Trees.{Trees}
use Rattle.theory_record.specs.Widths.{widths_of, widest}
use Rattle.theory_record.specs.Domain.{domain_room}
use Rattle.theory_record.specs.Format.{run_items}
use Rattle.theory_record.proofs.Widths.{powers, level-shape, depth_le}
use Rattle.theory_record.proofs.Runs.{items-long}
use Rattle.record_opening.specs.helpers.Opening.{values_from, values_at, digests_at, Sized}
use Rattle.record_opening.proofs.Numbers.{length-values, length-digests}
use Rattle.record_opening.proofs.Levels.{Room, sized-room}
use Rattle.theory_compare.specs.Compare.{opening_found}
use Rattle.compare_pick.specs.helpers.Chains.{chain_of, Chains, Picked}
use Rattle.compare_opening.specs.helpers.Messages.{level_messages, chain_at, found_at, BothSized, chain_buffer}
use Rattle.compare_opening.proofs.Chain.{messages-read}
use Rattle.theory_record.specs.Scheme.{Scheme, scheme, length_at, width_at, depth_at, domain_at}

-- the length of a domain in its buffer
pub domain-there : (o : List ℕ) (n : ℕ) (a o1 : List ℕ) (i : ℕ) → Put o 0 n a o1 i → n ≤ length o → length (take i o1) ≡ length a
domain-there o n a o1 i p h = ap length (prefix-is o n a o1 i p h)

-- a leaf message of at most 818 bytes and at most 24 node messages of at most 345
room_for : (d w depth : ℕ) → d ≤ domain_room → w ≤ widest → depth ≤ 24 → 97 + d + 16 * w + (136 + d) * depth ≤ chain_buffer
room_for d w depth hd hw h =
    let m : (136 + d) * depth ≤ (136 + domain_room) * 24 = mul-le-mul {n₁ = 136 + d} {m₁ = depth} {n₂ = 136 + domain_room} {m₂ = 24} (omega arith) h in
    omega arith

-- the sizes of level l as code computes them: of its domain, its groups and its paths
pub record Measured (S : Scheme) (l d width depth : ℕ) : Type 0 where
  pub domain-is : d ≡ length (domain_at S l)
  pub width_is : width ≡ width_at S l
  pub depth_is : depth ≡ depth_at S l

-- a buffer that was o, with a chain at its front
pub record ChainPut (S : Scheme) (l place : ℕ) (s : List ℕ) (group path : ℕ) (o a : List ℕ) : Type 0 where
  pub chain_is : a ≡ stored o 0 (chain_at S l place s group path)
  pub buffer_long : length o ≡ chain_buffer

module _ (how : Trees) {base : List ℕ} {n k l : ℕ} {s : List ℕ} {group path : ℕ} (z : Sized (scheme how base n k) l s group path) where
  abbrev S : Scheme
  S = scheme how base n k

  pub room : Room (scheme how base n k) l s group path
  room = sized-room how z

  pub chain_room : 97 + length (domain_at S l) + 16 * width_at S l + (136 + length (domain_at S l)) * depth_at S l ≤ chain_buffer
  chain_room =
      let h = depth_le (widths_of how.set) n k l (level-shape (widths_of how.set) n k l (powers how.set)) in
      let r = z.readable in
      room_for _ _ _ room.domain_short room.width-le (omega arith)

  pub chain_fits : (d w depth len : ℕ) → Measured (scheme how base n k) l d w depth → len ≡ chain_buffer → 97 + d + 16 * w + (136 + d) * depth ≤ len
  chain_fits d w depth len m e = rw (m.domain-is, m.width_is, m.depth_is, e) chain_room

  -- the chain that code writes
  pub chain_written : (place count width depth : ℕ) (domain o r : List ℕ)
      → r ≡ stored o 0 (flat (messages_of (under how.mode) domain count width place (values_from s (group + 4) width) (runs 32 depth (drop (path + 4) s))))
      → domain ≡ domain_at S l → count ≡ length_at S l → width ≡ width_at S l → depth ≡ depth_at S l → r ≡ stored o 0 (chain_at S l place s group path)
  unfolding level_messages values_from values_at digests_at run_items
  chain_written place count width depth domain o r e ed ec ew eh =
      rw (z.width_is, z.depth_is, drop-drop 4 group s, drop-drop 4 path s, ← ed, ← ec, ← ew, ← eh) e

  digests-long : AllLong 32 (digests_at s path)
  unfolding digests_at
  digests-long = items-long 32 (drop path s) z.readable.path_fits

  -- and reads
  pub level-read : {place : ℕ} {o a : List ℕ} → ChainPut (scheme how base n k) l place s group path o a
      → chain_of (97 + length (domain_at S l) + 16 * width_at S l) (136 + length (domain_at S l)) (depth_at S l) a
      ≡ level_messages S l place (values_at s group) (digests_at s path)
  unfolding level_messages
  level-read {place} {o} {a} p =
      ap (chain_of (97 + length (domain_at S l) + 16 * width_at S l) (136 + length (domain_at S l)) (depth_at S l)) p.chain_is
      ∙ (messages-read (under how.mode) (length-under how.mode) (domain_at S l) (length_at S l) (width_at S l) place (values_at s group)
      (digests_at s path) (depth_at S l) o
      (length-values s group ∙ z.width_is) (length-digests s path ∙ z.depth_is) digests-long (omega (arith, chain_room, p.buffer_long)))

-- two chains, as their last messages are looked for
module _ (how : Trees) {base : List ℕ} {n k l place : ℕ} {s : List ℕ} {sgroup spath : ℕ} {t : List ℕ} {tgroup tpath : ℕ} {first second : List ℕ}
    (z : BothSized (scheme how base n k) l s sgroup spath t tgroup tpath first second) {d width depth : ℕ} (m : Measured (scheme how base n k) l d width depth)
    {o a o' b : List ℕ} (p : ChainPut (scheme how base n k) l place s sgroup spath o a) (q : ChainPut (scheme how base n k) l place t tgroup tpath o' b) where
  pub chains_there : Chains (97 + d + 16 * width) (136 + d) depth a b first second
  chains_there =
      let h = room how z.first_sized in
      let fits : 97 + d + 16 * width + (136 + d) * depth ≤ chain_buffer = chain_fits how z.first_sized d width depth chain_buffer m refl in
      let na : length a ≡ chain_buffer = ap length p.chain_is ∙ length-stored o 0 _ ∙ p.buffer_long in
      let nb : length b ≡ chain_buffer = ap length q.chain_is ∙ length-stored o' 0 _ ∙ q.buffer_long in
      record {
        leaf_some = omega arith;
        node_some = omega arith;
        leaf_fits = omega arith;
        node_fits = omega arith;
        first-there = omega arith;
        second_there = omega arith;
        first-room = z.first-room;
        second_room = z.second_room;
      }

  pub picked_opening : {old old' new new' : List ℕ} {r : Option ℕ}
      → Picked (last_differing (chain_of (97 + d + 16 * width) (136 + d) depth a) (chain_of (97 + d + 16 * width) (136 + d) depth b)) old old' new new' r
      → Picked (found_at (scheme how base n k) l place s sgroup spath t tgroup tpath) old old' new new' r
  unfolding opening_found collision level_messages
  picked_opening w =
      rw (← (level-read how z.first_sized p), ← (level-read how z.second_sized q), ← m.domain-is, ← m.width_is, ← m.depth_is) w
