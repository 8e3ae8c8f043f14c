use Rattle.std.proofs.Common.{◌≡◌, ◌++◌, map, take}
use Rattle.serde_json.specs.View.{view}
use Rattle.vd_lsp_messages.specs.Said.{fault_data, unused_data}
use Rattle.vd_lsp_messages.proofs.values.diagnostics_value.Given as goal

-- the values of the faults so far
abbrev pub invariant-loop-fault : goal.invariant-loop-fault
invariant-loop-fault l = map view l.values.items ≡ map fault_data (take l.fault-index l.faults)

-- the values of all faults, and of the hints so far
abbrev pub invariant-loop-range : goal.invariant-loop-range
invariant-loop-range l = map view l.values.items ≡ map fault_data l.faults ++ map unused_data (take l.range-index l.unused)
