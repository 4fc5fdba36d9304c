-- The groups of a tail record: the first place of each, and the one domain of all.
use Prim.Native.Nat.{ℕ, ◌*◌, ◌^◌, ◌≤◌, ◌<◌}
use mathlib.Core.Path.{◌≡◌, ◌∙◌, ap, ap₂}
use mathlib.Core.List.{List}
use Rattle.std.specs.Prelude.{Option}
use native.Mathlib.Nat.{mul-le-mul_right}
use native.Mathlib.Omega.{arith}
use Rattle.theory_laws.specs.Lists.{part}
use Rattle.theory_record.specs.Domain.{level_domain}
use Rattle.theory_record.specs.declared.WidthSet.{WidthSet}
use Rattle.theory_record.specs.Widths.{widths_of, level_width}
use Rattle.theory_record.specs.Scheme.{Scheme}
use Rattle.theory_record.proofs.Widths.{width-most}
use Rattle.tree_four_ways.specs.declared.Lane.{Lane}
use Rattle.record_known.specs.helpers.Domains.{level_in, DomainsStand}
use Rattle.record_known.specs.helpers.Lanes.{MaybeLaneOf}
use Rattle.record_known.proofs.LevelDomains.{level-between}

-- the first place of group g
pub group_first : (place named g w width : ℕ) → place ≡ named * w → named ≡ g → w ≡ width → place ≡ g * width
group_first place named g w width e en ew = e ∙ ap₂ ◌*◌ en ew

pub first_fits : (set : WidthSet) (n k named g : ℕ) {w : ℕ} → g < 21 → named ≡ g → w ≡ level_width (widths_of set) n k n → named * w < 2 ^ 64
first_fits set n k named g {w} h en ew =
    let most : w ≤ 32 = rw ew (width-most set n k n) in
    let m : g * w ≤ 20 * w = mul-le-mul_right w (omega arith) in
    rw en (omega arith)

pub lane-placed : (S : Scheme) (l p q : ℕ) (s : List ℕ) (group path : ℕ) (lane : Option Lane) → p ≡ q → MaybeLaneOf S l p s group path lane → MaybeLaneOf S l q s group path lane
lane-placed S l p q s group path lane e z = rw (← e) z

-- four lanes of one level are under its domain
pub one-domain : (base : List ℕ) (n size : ℕ) (domains : List ℕ) (k : ℕ) → DomainsStand base n n size domains → k < 4
    → part size (256 * k) domains ≡ level_domain base n
one-domain base n size domains k stand h =
    let b = level-between n n k (omega arith) in
    let e : level_in n n k ≡ n = omega (arith, b.least, b.most) in
    stand.stands k h ∙ ap (level_domain base) e
