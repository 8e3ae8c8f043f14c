-- The report of a world.
use Rattle.std.specs.Prelude.{ℕ, Bool, List, [], ◌++◌, length, map, if◌then◌else◌}
use Rattle.std.specs.List.{range_with_len}
use Rattle.vd_execution.specs.World.{World, Supply, words_of}
use Rattle.vd_execution.specs.States.{host_state}
use Rattle.vd_report.specs.declared.reports.HostLine.{HostLine}
use Rattle.vd_report.specs.ReportLines.{host_lines, link_lines}

-- how a host stands, and what it printed
abbrev pub line_of : Supply → World → ℕ → HostLine
line_of s w h = record { state = host_state s w h; printed = (w h).printed }

-- of the first n hosts
abbrev pub lines_of : Supply → World → ℕ → List HostLine
lines_of s w n = map (line_of s w) (range_with_len 0 n)

-- all words that a host sent to each of the first n
abbrev pub said_by : World → ℕ → ℕ → List (List ℕ)
said_by w n h = map (λ p. words_of ((w h).sent p)) (range_with_len 0 n)

-- and that each of the first n sent
abbrev pub talk_of : World → ℕ → List (List (List ℕ))
talk_of w n = map (said_by w n) (range_with_len 0 n)

-- a line for each link, where they are asked for
abbrev pub links_of : (hosts : List (List ℕ)) → World → (messages : Bool) → List ℕ
links_of hosts w messages = if messages then link_lines hosts (talk_of w (length hosts)) else []

-- a line for each host, and with messages a line for each link
abbrev pub report_of : (hosts : List (List ℕ)) → Supply → World → (messages : Bool) → List ℕ
report_of hosts s w messages = host_lines hosts hosts (lines_of s w (length hosts)) ++ links_of hosts w messages
