-- A level's domain in its buffer, and that what is built under it is the tree of the definition.
use Prim.Native.Nat.{ℕ, ◌≤◌, ◌<◌}
use mathlib.Core.Path.{◌≡◌, ◌∙◌}
use mathlib.Core.List.{List}
use native.Mathlib.Omega.{arith}
use lib.ListN.{length, take}
use Rattle.theory_laws.specs.Lists.{flat}
use Rattle.theory_laws.specs.Questions.{on_done}
use Rattle.theory_blake3.specs.Modes.{under}
use Rattle.theory_merkle.specs.Tree.{tree_of}
use Rattle.theory_merkle.specs.Numbers.{build_number}
use Rattle.bytes_numbers.specs.helpers.Put.{Put}
use Rattle.tree_digest.proofs.Messages.{message-length, prefix-is}
use Rattle.theory_record.specs.declared.Trees.{Trees}
use Rattle.theory_record.specs.Widths.{widths_of, level_length, level_width}
use Rattle.theory_record.specs.Domain.{level_domain, domain_room}
use Rattle.theory_record.specs.Trees.{tree_for}
use Rattle.theory_record.proofs.Domain.{level_domain-fits}
use Rattle.theory_record.proofs.Widths.{powers, narrow}
use Rattle.theory_record.proofs.LevelTree.{build_allowed}
use Rattle.code_commit.specs.helpers.LevelTree.{LevelTree}
use Rattle.theory_record.specs.Scheme.{scheme}

-- ---- its domain, in a buffer of `domainRoom` bytes, and the tree under it

module _ (base : List ℕ) (l : ℕ) (short : length base ≤ 200) (low : l < 100) {o o1 : List ℕ} {size : ℕ}
    (p : Put o 0 (length (level_domain base l)) (level_domain base l) o1 size) (room : length o ≡ domain_room) where
  pub domain-ends : size ≤ domain_room
  domain-ends = omega (arith, p.end, level_domain-fits base l short low)

  pub domain-long : size ≡ length (take size o1)
  domain-long = message-length o 0 (length (level_domain base l)) (level_domain base l) o1 size p (omega (arith, level_domain-fits base l short low))

  pub domain-is : take size o1 ≡ level_domain base l
  domain-is = prefix-is o (length (level_domain base l)) (level_domain base l) o1 size p (omega (arith, level_domain-fits base l short low))

-- and nothing is refused
pub level-unrefused : (how : Trees) {n k l : ℕ} (base : List ℕ) {domain : List ℕ} {halves room count width q : ℕ}
    → LevelTree (widths_of how.set) n k l (length base) halves room
    → domain ≡ level_domain base l → count ≡ level_length n k l → width ≡ level_width (widths_of how.set) n k l
    → q ≡ build_number (length domain) count width halves room → q ≡ 0
level-unrefused how {n} {k} {l} base {halves = halves} {room = room} y ed ec ew e =
    let d : length (level_domain base l) ≤ 255 = omega (arith, level_domain-fits base l y.base_le (omega (arith, y.small, y.level-le))) in
    let w : (widths_of how.set).width ≤ 512 = omega (arith, narrow how.set) in
    let z = build_allowed (widths_of how.set) (powers how.set) n k l (length (level_domain base l)) halves room w y.small d y.values_are y.tree_is in
    (rw (ed, ec, ew) at e) ∙ z

pub level-built : (how : Trees) {n k l : ℕ} (base values : List ℕ) {domain : List ℕ} {halves room count width : ℕ} (tree : List ℕ) {t : List ℕ}
    → LevelTree (widths_of how.set) n k l (length base) halves room
    → domain ≡ level_domain base l → count ≡ level_length n k l → width ≡ level_width (widths_of how.set) n k l
    → t ≡ on_done (build_number (length domain) count width halves room) (flat (tree_of (under how.mode) domain count width values)) tree
    → t ≡ flat (tree_for (scheme how base n k) l values)
unfolding tree_for
level-built how {n} {k} {l} base values {halves = halves} {room = room} tree y ed ec ew e =
    let d : length (level_domain base l) ≤ 255 = omega (arith, level_domain-fits base l y.base_le (omega (arith, y.small, y.level-le))) in
    let w : (widths_of how.set).width ≤ 512 = omega (arith, narrow how.set) in
    let z = build_allowed (widths_of how.set) (powers how.set) n k l (length (level_domain base l)) halves room w y.small d y.values_are y.tree_is in
    rw (ed, ec, ew, z) at e
