-- The grammar of schedule files: names of hosts, and `all` behind them or not.
use Rattle.std.specs.Prelude.{◌≡◌, ℕ, ◌≤◌, ◌↔◌, Bool, true, false, List, [], ◌∷◌, Some, Ok, Err, length}
use Rattle.vd_base.specs.Limits.{most_schedule_entries}
use Rattle.vd_report.specs.declared.fault.ReadFault.{ReadFault}
use Rattle.vd_report.specs.Outcome.{FirstWrong}
use Rattle.vd_base.specs.declared.ids.HostId.{HostId}
use Rattle.vd_report.specs.declared.token.TokenKind.TheVariants as kind
use Rattle.vd_report.specs.declared.token.Token.{Token}
use Rattle.vd_report.specs.declared.schedule.Schedule.{Schedule}
use Rattle.vd_report.specs.Hosts.{host_of}
use Rattle.vd_report.specs.Tokens.{tokens_at, text_of}
use Rattle.vd_report.specs.Schedule.{schedule_read}

-- The tokens name these hosts, then say `all` or not, and then end.
pub data AreEntries : List (List ℕ) → List ℕ → List Token → List HostId → Bool → Type 0 where
  no_entry : {hosts : List (List ℕ)} {bytes : List ℕ} {end : Token} {ts : List Token} → end.kind ≡ kind.End → AreEntries hosts bytes (end ∷ ts) [] false
  only_all : {hosts : List (List ℕ)} {bytes : List ℕ} {all end : Token} {ts : List Token} → all.kind ≡ kind.All → end.kind ≡ kind.End → AreEntries hosts bytes (all ∷ end ∷ ts) [] true
  one_entry : {hosts : List (List ℕ)} {bytes : List ℕ} {name : Token} {ts : List Token} {host : ℕ} {entries : List HostId} {all : Bool} →
      name.kind ≡ kind.Name → host_of hosts (text_of bytes name) ≡ Some host → AreEntries hosts bytes ts entries all →
      AreEntries hosts bytes (name ∷ ts) (record { 0 = host } ∷ entries) all

-- The tokens are a text of the grammar with this schedule.
pub record AreSchedule (hosts : List (List ℕ)) (bytes : List ℕ) (tokens : List Token) (schedule : Schedule) : Type 0 where
  pub are : AreEntries hosts bytes tokens schedule.entries schedule.all
  pub few : length schedule.entries ≤ most_schedule_entries

-- The bytes are a text of the grammar that gives this schedule.
abbrev pub GivesSchedule : List (List ℕ) → List ℕ → Schedule → Type 0
GivesSchedule hosts bytes schedule = AreSchedule hosts bytes (tokens_at bytes 0) schedule

-- The tokens are a text of the grammar.
abbrev pub IsScheduleText : List (List ℕ) → List ℕ → List Token → Type 0
IsScheduleText hosts bytes tokens = (schedule : Schedule) × AreSchedule hosts bytes tokens schedule

-- What a file says is the one outcome that the grammar has for it: the schedule that it gives, or the fault of the first token that cannot stand there.
pub record SchedulesFollowGrammar (hosts : List (List ℕ)) (bytes : List ℕ) : Type 0 where
  pub given : (schedule : Schedule) → (schedule_read hosts bytes ≡ Ok schedule) ↔ GivesSchedule hosts bytes schedule
  pub refused : (fault : ReadFault) → (schedule_read hosts bytes ≡ Err fault) ↔ FirstWrong IsScheduleText hosts bytes fault
