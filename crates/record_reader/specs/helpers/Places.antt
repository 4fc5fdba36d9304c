-- The places of a record's bytes at which its parts begin. Rests on the format of records.
use Rattle.std.specs.Prelude.{ℕ, ◌-◌, Bool, List, Option, Some, None, length, drop}
use Rattle.theory_laws.specs.Questions.{pick}
use Rattle.theory_record.specs.Format.{run_count, run_fits, after_run, from_aGroup, from_cGroup, from_aPath}
use Rattle.theory_record.specs.Format.{from_cPath, after_level, level_fits, from_tail_path, after_tail_group, tail_group_fits}
use Rattle.record_reader.specs.declared.Run.{Run}
use Rattle.record_reader.specs.declared.Level.{Level}
use Rattle.record_reader.specs.declared.TailGroup.{TailGroup}

-- x where all of it is there, else nothing
abbrev pub where_there : {A : Type 0} → Bool → A → Option A
where_there fits x = pick fits (Some x) None

-- where the bytes t begin, with which s ends
unfoldable pub place_of : List ℕ → List ℕ → ℕ
place_of s t = length s - length t

-- the counted run at a place of s: its parts, and the run where all of it is there
unfoldable pub run_parts : ℕ → List ℕ → ℕ → Run
run_parts size s i = record { count = run_count (drop i s); next = place_of s (after_run size (drop i s)) }

unfoldable pub run_at : ℕ → List ℕ → ℕ → Option Run
run_at size s i = where_there (run_fits size (drop i s)) (run_parts size s i)

-- the level of a query record at a place of s
unfoldable pub level_parts : List ℕ → ℕ → Level
level_parts s i =
    record {
      a = record { group_at = place_of s (from_aGroup (drop i s)); path_at = place_of s (from_aPath (drop i s)) };
      c = record { group_at = place_of s (from_cGroup (drop i s)); path_at = place_of s (from_cPath (drop i s)) };
      next = place_of s (after_level (drop i s));
    }

unfoldable pub level_at : List ℕ → ℕ → Option Level
level_at s i = where_there (level_fits (drop i s)) (level_parts s i)

-- the group of a tail record at a place of s
unfoldable pub group_parts : List ℕ → ℕ → TailGroup
group_parts s i =
    record {
      opening = record { group_at = i; path_at = place_of s (from_tail_path (drop i s)) };
      next = place_of s (after_tail_group (drop i s));
    }

unfoldable pub group_at : List ℕ → ℕ → Option TailGroup
group_at s i = where_there (tail_group_fits (drop i s)) (group_parts s i)
