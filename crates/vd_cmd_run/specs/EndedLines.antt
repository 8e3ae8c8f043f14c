-- The report on hosts that have all ended.
use Rattle.std.specs.Prelude.{ℕ, List, map}
use Rattle.vd_base.specs.declared.host_state.HostState.TheVariants.{Ended}
use Rattle.vd_report.specs.ReportLines.{host_lines}
use Rattle.vd_report.specs.declared.reports.HostLine.{HostLine}

-- a host that has ended, and printed these words
abbrev pub ended_line : List ℕ → HostLine
ended_line words = record { state = Ended; printed = words }

-- a line for each host, which printed these words
abbrev pub ended_lines : (hosts : List (List ℕ)) → (printed : List (List ℕ)) → List ℕ
ended_lines hosts printed = host_lines hosts hosts (map ended_line printed)
