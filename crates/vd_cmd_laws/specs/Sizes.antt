-- How much of a text the names of its hosts take.
use Rattle.std.specs.Prelude.{ℕ, ◌+◌, ◌≤◌, List, length, Ok}
use Rattle.std.specs.List.{sum_by}
use Rattle.vd_core.specs.declared.source.Host.{Host}
use Rattle.vd_core.specs.declared.source.Source.{Source}
use Rattle.vd_parser.specs.Outcomes.{IsParse}

-- bytes of a name and of one blank before it
abbrev pub name_bytes : Host → ℕ
name_bytes host = 1 + length host.name.name

-- Whatever text a source was parsed from, the names of its hosts, each behind a blank, take no more bytes than the text.
abbrev pub HostNamesFit : Type 0
HostNamesFit = (text : List ℕ) (source : Source) → IsParse text (Ok source) → sum_by name_bytes source.hosts ≤ length text
