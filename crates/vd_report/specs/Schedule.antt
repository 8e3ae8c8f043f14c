-- What a schedule file says, token by token.
use Rattle.std.specs.Prelude.{◌≢◌, ℕ, true, false, List, [], ◌∷◌, ◌++◌, Option, Some, None, Result, Ok, Err, length, nat_lt, if◌then◌else◌}
use Rattle.vd_base.specs.Limits.{most_schedule_entries}
use Rattle.vd_base.specs.declared.ids.HostId.{HostId}
use Rattle.vd_report.specs.declared.token.TokenKind.{TokenKind}
use Rattle.vd_report.specs.declared.token.TokenKind.TheVariants as kind
use Rattle.vd_report.specs.declared.token.Token.{Token}
use Rattle.vd_report.specs.declared.fault.ReadFault.{ReadFault}
use Rattle.vd_report.specs.declared.fault.ReadFault.TheVariants.{Text, UnknownHost}
use Rattle.vd_report.specs.declared.schedule.Schedule.{Schedule}
use Rattle.vd_report.specs.Hosts.{host_of}
use Rattle.vd_report.specs.Tokens.{tokens_at, text_of, capped}

pub data Step : Type 0 where
  go : List HostId → Step  -- one more entry
  all : Step  -- the word `all`, which is the last
  stop : Result Schedule ReadFault → Step

abbrev pub at_host : List HostId → ℕ → Option ℕ → Step
at_host entries at None = stop (Err (UnknownHost at))
at_host entries at (Some host) = go (entries ++ record { 0 = host } ∷ [])

-- a token behind these entries, of which there are at most so many
abbrev pub at_entry : List (List ℕ) → List HostId → ℕ → List ℕ → TokenKind → Step
at_entry hosts entries at text kind.End = stop (Ok (record { entries = entries; all = false }))
at_entry hosts entries at text kind.All = all
at_entry hosts entries at text kind.Name = if nat_lt (length entries) most_schedule_entries then at_host entries at (host_of hosts text) else stop (Err (Text at))
at_entry hosts entries at text _ = stop (Err (Text at))

-- a token at which an entry is read: neither the end nor the word `all`
pub record IsEntry (token : Token) : Type 0 where
  pub not_end : token.kind ≢ kind.End
  pub not_all : token.kind ≢ kind.All

abbrev pub entry_step : List (List ℕ) → List ℕ → List HostId → Token → Step
entry_step hosts bytes entries t = at_entry hosts entries (capped t.start) (text_of bytes t) t.kind

-- a token behind `all`
abbrev pub behind_all : List HostId → ℕ → TokenKind → Result Schedule ReadFault
behind_all entries at kind.End = Ok (record { entries = entries; all = true })
behind_all entries at _ = Err (Text at)

abbrev pub last_step : List HostId → Token → Result Schedule ReadFault
last_step entries t = behind_all entries (capped t.start) t.kind

abbrev pub reads_last : List ℕ → List HostId → List Token → Result Schedule ReadFault
reads_last bytes entries [] = Err (Text (capped (length bytes)))
reads_last bytes entries (t ∷ ts) = last_step entries t

-- What the tokens say behind these entries. The end is the last of them, so there is always a token.
unfoldable pub reads_entries : List (List ℕ) → List ℕ → List HostId → List Token → Result Schedule ReadFault
reads_entries hosts bytes entries [] = Err (Text (capped (length bytes)))
reads_entries hosts bytes entries (t ∷ ts) = elim (entry_step hosts bytes entries t) [
  | go entries' ↦ reads_entries hosts bytes entries' ts
  | all ↦ reads_last bytes entries ts
  | stop result ↦ result
]

-- the schedule, or the fault of the first token that cannot stand where it stands
abbrev pub schedule_read : List (List ℕ) → List ℕ → Result Schedule ReadFault
schedule_read hosts bytes = reads_entries hosts bytes [] (tokens_at bytes 0)
