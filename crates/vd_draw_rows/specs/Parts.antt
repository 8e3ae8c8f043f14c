-- Who takes part in statements.
use Rattle.std.specs.Prelude.{Bool, List}
use Rattle.vd_base.specs.declared.ids.HostId.{HostId}
use Rattle.vd_base.specs.declared.protocols.Proto.{Proto}
use Rattle.vd_draw_rows.specs.Moves.{is_part}
use Rattle.vd_draw_rows.specs.Rows.{Drawn, all_named, all_told}

abbrev pub part_of : List Proto → HostId → Drawn → Bool
part_of list h d = is_part list d.named d.told h

abbrev pub part_of_all : List Proto → HostId → List Drawn → Bool
part_of_all list h ds = is_part list (all_named ds) (all_told ds) h
