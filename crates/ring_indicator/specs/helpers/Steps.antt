-- phi of a table, and a step of the tensor in two parts, for the contracts of helpers. That the parts make the step is a law (proofs/Steps).
use Rattle.std.specs.Prelude.{ℕ, List}
use Rattle.theory_laws.specs.Xor.{◌⊕◌}
use Rattle.theory_laws.specs.Table.{tab, at}
use Rattle.theory_field.specs.Field.{◌⊗◌}
use Rattle.theory_multilinear.specs.Phi.{phi}

-- phi of each of the first m words of a list
abbrev pub phi_of_each : (ℕ → ℕ) → ℕ → List ℕ → List ℕ
phi_of_each c m ws = tab m (λ v. phi c (at ws v))

-- word k after a step, where e stood before it: the vertical part, e + e × z, and the horizontal part
abbrev pub join_parts : ℕ → (ℕ → ℕ) → ℕ → ℕ → ℕ
join_parts z mixed k e = (e ⊕ e ⊗ z) ⊕ mixed k
