-- Who sends, as a person reads it off the printed line.
use Rattle.std.specs.Prelude.{ℕ, ◌-◌, List}
use Rattle.vd_base.specs.declared.ids.HostId.{HostId}
use Rattle.vd_report.specs.LinksRead.{CanBeRead, NamesLink, host_name}
use Rattle.vd_cmd_excuse.specs.Excusing.{talk_line}

-- The line names the other host as the one that sends, and this host as the one that receives.
abbrev pub TalkNamesSender : Type 0
TalkNamesSender =
    (names : List (List ℕ)) (h : HostId) (words : List ℕ) → CanBeRead (host_name names (1 - h.0)) (host_name names h.0) words
    → NamesLink (talk_line names h words) (host_name names (1 - h.0)) (host_name names h.0) words
