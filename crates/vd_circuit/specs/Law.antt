-- What is proved of hosts that compute by circuits.
use Rattle.std.specs.Prelude.{◌≢◌}
use Rattle.vd_base.specs.declared.ids.HostId.{HostId}
use Rattle.vd_duet.specs.Acting.{ActsWhereItSays}
use Rattle.vd_duet.specs.Laws.{BackendLaws}
use Rattle.vd_circuit.specs.CircuitCalls.{circuit_calls}

-- of two hosts that differ
abbrev pub CircuitsAreABackend : Type 0
CircuitsAreABackend = (a b : HostId) → a.0 ≢ b.0 → BackendLaws (circuit_calls a b) × ActsWhereItSays (circuit_calls a b)
