-- Small values of comparing, under a stand-in digest by which all messages collide: which messages are found of two records that differ.
-- Rests on what comparing finds.
use Rattle.std.specs.Prelude.{ℕ, List, [], ◌∷◌, length, replicate}
use Rattle.theory_laws.specs.Table.{at}
use Rattle.theory_merkle.specs.Binding.{Found}
use Rattle.theory_record.specs.declared.WidthSet.{WidthSet}
use Rattle.theory_record.specs.Widths.{widths_of}
use Rattle.theory_record.specs.Format.{LevelRecord}
use Rattle.theory_record.specs.Scheme.{Scheme}
use Rattle.theory_compare.specs.Compare.{pair_found, levels_found, first_of, second_of, in_buffer}
use Rattle.theory_small_values.specs.Cases.{Case, ◌gives◌}

-- the stand-in: 32 zeros, whatever the message
abbrev pub nothing : List ℕ → List ℕ
nothing m = replicate 32 0

-- n = 2, k = 0 and an empty base domain: level 0 has 4 values in two groups, level 1 has 2 values in one group, level 2 has one value
abbrev pub toy : Scheme
toy = record { digest = nothing; widths = widths_of WidthSet.Present; base = []; n = 2; k = 0 }

-- a level that shows these groups, and these digests on a's path
abbrev pub shows : List ℕ → List ℕ → List (List ℕ) → LevelRecord
shows a c path = record { a = 0; b = 0; c = 0; a_group = a; c_group = c; a_path = path; c_path = [] }

-- a digest that begins with x
abbrev pub digest : ℕ → List ℕ
digest x = x ∷ replicate 31 0

-- of what is found: how long the first message is, and byte i of the first and of the second
abbrev pub told : ℕ → Found → List ℕ
told i f = length (first_of f) ∷ at (first_of f) i ∷ at (second_of f) i ∷ []

-- The first value of a leaf message stands at byte 105, the right digest of a node message at 112. A leaf message of two values is 137
-- bytes long, one of one value 121, a node message 144.
abbrev pub compare_cases : List Case
compare_cases =
    -- path a before path c, where both differ
    (told 105 (pair_found toy 0 0 (shows (1 ∷ 2 ∷ []) (3 ∷ 4 ∷ []) (digest 5 ∷ [])) (shows (6 ∷ 2 ∷ []) (7 ∷ 4 ∷ []) (digest 5 ∷ []))) gives (137 ∷ 1 ∷ 6 ∷ []))
    -- path c, where only c's group differs
    ∷ (told 105 (pair_found toy 0 0 (shows (1 ∷ 2 ∷ []) (3 ∷ 4 ∷ []) (digest 5 ∷ [])) (shows (1 ∷ 2 ∷ []) (7 ∷ 4 ∷ []) (digest 5 ∷ [])))
    gives (137 ∷ 3 ∷ 7 ∷ []))
    -- the node message, nearer the root than the leaf message, where both differ
    ∷ (told 112 (pair_found toy 0 0 (shows (1 ∷ 2 ∷ []) (3 ∷ 4 ∷ []) (digest 5 ∷ [])) (shows (6 ∷ 2 ∷ []) (3 ∷ 4 ∷ []) (digest 8 ∷ [])))
    gives (144 ∷ 5 ∷ 8 ∷ []))
    -- the lowest level, where both differ
    ∷ (told 105
    (levels_found toy 0 0 (shows (1 ∷ 2 ∷ []) (3 ∷ 4 ∷ []) (digest 5 ∷ []) ∷ shows (3 ∷ 4 ∷ []) (9 ∷ []) [] ∷ [])
    (shows (6 ∷ 2 ∷ []) (3 ∷ 4 ∷ []) (digest 5 ∷ []) ∷ shows (7 ∷ 4 ∷ []) (9 ∷ []) [] ∷ [])) gives (137 ∷ 1 ∷ 6 ∷ []))
    -- the next level, where the lowest shows the same
    ∷ (told 105
    (levels_found toy 0 0 (shows (1 ∷ 2 ∷ []) (3 ∷ 4 ∷ []) (digest 5 ∷ []) ∷ shows (3 ∷ 4 ∷ []) (9 ∷ []) [] ∷ [])
    (shows (1 ∷ 2 ∷ []) (3 ∷ 4 ∷ []) (digest 5 ∷ []) ∷ shows (3 ∷ 4 ∷ []) (10 ∷ []) [] ∷ [])) gives (121 ∷ 9 ∷ 10 ∷ []))
    -- nothing, where all is the same
    ∷ (told 0 (pair_found toy 0 0 (shows (1 ∷ 2 ∷ []) (3 ∷ 4 ∷ []) (digest 5 ∷ [])) (shows (1 ∷ 2 ∷ []) (3 ∷ 4 ∷ []) (digest 5 ∷ []))) gives (0 ∷ 0 ∷ 0 ∷ []))
    -- a message in its buffer, zeros after it
    ∷ (in_buffer (1 ∷ 2 ∷ []) gives (1 ∷ 2 ∷ replicate 1022 0))
    ∷ []
