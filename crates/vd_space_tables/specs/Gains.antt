-- What a slot's own terms grow by when it is decided.
use Rattle.std.specs.Prelude.{ℕ, ◌==◌, if◌then◌else◌, List, length, slice_index_or, ℤ, pos, ◌+ℤ◌, ◌-ℤ◌}
use Rattle.vd_space.specs.Costs.{total}
use Rattle.vd_space_prefix.specs.Transfers.{by_place}
use Rattle.vd_space_tables.specs.declared.charges.Charge.{Charge}

-- by a place, over the least
abbrev pub gain_by : Charge → ℕ → ℤ
gain_by charge p = slice_index_or charge.costs p (pos 0) -ℤ charge.free

-- of the charges at that slot
abbrev pub gain_at_slot : ℕ → ℕ → Charge → ℤ
gain_at_slot slot p charge = if charge.slot == slot then gain_by charge p else pos 0

-- of a slot's operation and of its outputs
abbrev pub gain_with : List Charge → Charge → ℕ → ℤ
gain_with outputs operation p = gain_by operation p +ℤ total (gain_at_slot operation.slot p) outputs

abbrev pub gains_with : List Charge → Charge → List ℤ
gains_with outputs operation = by_place (length operation.costs) (gain_with outputs operation)
