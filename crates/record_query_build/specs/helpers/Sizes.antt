-- A bound on the bytes of a group and its path in a record, under either set of widths, by which code knows that its sums stay small.
use Rattle.std.specs.Prelude.{ℕ, ◌+◌, ◌*◌}
use Rattle.theory_record.specs.Widths.{widest}

-- two counts, as many values as the widest group has, and 24 digests
abbrev pub group_most : ℕ
group_most = 8 + 16 * widest + 32 * 24
