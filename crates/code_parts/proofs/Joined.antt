-- Parts of a codeword and of a fold, of any division, are the whole.
use Prim.Native.Nat.{ℕ, ◌+◌, ◌/◌, ◌^◌}
use mathlib.Core.Path.{◌≡◌, sym, ◌∙◌}
use mathlib.Core.List.{List}
use lib.ListN.{length}
use Rattle.theory_laws.specs.Lists.{flat}
use Rattle.theory_laws.proofs.Table.{length-tab}
use Rattle.theory_laws.proofs.Parts.{PartsOf, parts-joined}
use Rattle.theory_multilinear.specs.Fold.{fold_list}
use Rattle.theory_multilinear.specs.Codeword.{encode}
use Rattle.theory_multilinear.proofs.Codeword.{length-encode}

pub encode-joined : (n k : ℕ) (gammas t : List ℕ) (ps : List (List ℕ)) → PartsOf (encode n k gammas t) 0 ps → length (flat ps) ≡ 2 ^ (n + k)
    → flat ps ≡ encode n k gammas t
encode-joined n k gammas t ps are n= = parts-joined (encode n k gammas t) ps are (n= ∙ sym (length-encode n k gammas t))

pub fold-joined : (var r : ℕ) (l : List ℕ) (ps : List (List ℕ)) → PartsOf (fold_list var r l) 0 ps → length (flat ps) ≡ length l / 2
    → flat ps ≡ fold_list var r l
unfolding fold_list
fold-joined var r l ps are n = parts-joined (fold_list var r l) ps are (n ∙ sym (length-tab _ _))
