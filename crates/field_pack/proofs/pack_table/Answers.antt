-- `field_pack::pack_table` meets its contract: what the questions leave known suffices.
use mathlib.Core.Path.{refl}
use Rattle.field_pack.proofs.Groups.{all-packed}
use Rattle.field_pack.proofs.pack_table.Goals as goal

pub pack_groups-requires : goal.pack_groups-requires
pack_groups-requires c =
    let known = all-packed _ _ _ c.in_ok-questions.ensures refl in
    record { out_len = known.2; bytes_value = known.1 }
