-- Fold calls lent as two lists: five numbers each, its n, k, original n, variable and the length of its room, and a
-- challenge each.
use Rattle.std.specs.Prelude.{ℕ, zero, suc, ◌+◌, ◌*◌, ◌/◌, List, [], ◌∷◌, length}
use Rattle.theory_laws.specs.Table.{at}
use Rattle.theory_claim.specs.Calls.{Call}

-- call i, of its numbers and the words of the challenges
abbrev pub call_at : List ℕ → List ℕ → ℕ → Call
call_at calls rs i =
    record {
      n = at calls (5 * i);
      k = at calls (5 * i + 1);
      original = at calls (5 * i + 2);
      var = at calls (5 * i + 3);
      room = at calls (5 * i + 4);
      by = at rs i;
    }

-- m calls from call i on
unfoldable pub calls_from : List ℕ → List ℕ → ℕ → ℕ → List Call
calls_from calls rs i zero = []
calls_from calls rs i (suc m) = call_at calls rs i ∷ calls_from calls rs (suc i) m

-- all of them
abbrev pub lent_calls : List ℕ → List ℕ → List Call
lent_calls calls rs = calls_from calls rs 0 (length calls / 5)
