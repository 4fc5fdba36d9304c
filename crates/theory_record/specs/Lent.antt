-- What is lent, as a contract names it, and the scheme that an entry makes of it. Rests on the scheme.
use Rattle.std.specs.Prelude.{ℕ, List}
use Rattle.std.specs.Borrow.{Bor, MutBor}
use denote.Triple.Both.{Both}
use Rattle.theory_record.specs.Scheme.{Scheme, scheme}
use Rattle.theory_record.specs.declared.Trees.{Trees}
use Rattle.theory_record.specs.declared.Deposit.{Deposit}

-- a slice that a function reads, as a contract names it: what it holds is `s.entry.now` and then `s.exit.now`
abbrev pub Slice : Type 0
Slice = Both (Bor (List ℕ)) (Bor (List ℕ))

-- the same of a slice that it may write
abbrev pub MutSlice : Type 0
MutSlice = Both (MutBor (List ℕ)) (MutBor (List ℕ))

-- of how trees are made, a lent base domain, n and k
abbrev pub scheme_of : Trees → Slice → ℕ → ℕ → Scheme
scheme_of how base n k = scheme how base.entry.now n k

-- of a deposit
abbrev pub fixed_by : Deposit → Scheme
fixed_by d = scheme d.how d.base.now d.n d.k
