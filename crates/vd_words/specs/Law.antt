-- What is proved of hosts that share sums.
use Rattle.std.specs.Prelude.{◌≢◌}
use Rattle.vd_base.specs.declared.ids.HostId.{HostId}
use Rattle.vd_duet.specs.Acting.{ActsWhereItSays}
use Rattle.vd_duet.specs.Laws.{BackendLaws}
use Rattle.vd_words.specs.AddCalls.{add_calls}

-- of two hosts that differ
abbrev pub SharedSumsAreABackend : Type 0
SharedSumsAreABackend = (a b : HostId) → a.0 ≢ b.0 → BackendLaws (add_calls a b) × ActsWhereItSays (add_calls a b)
