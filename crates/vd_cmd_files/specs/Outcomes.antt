-- The functions that pick the one outcome of each deal file, of each schedule and of the deals of all hosts.
use Rattle.std.specs.Prelude.{◌≡◌, ℕ, ◌<◌, ◌≤◌, List, Option, Some, None, Result, Ok, Err}
use Rattle.vd_base.specs.Limits.{most_hosts}
use Rattle.vd_base_codec.specs.Exact.{StopsAt}
use Rattle.vd_tape.specs.declared.deal_items.deal.Deal.{Deal}
use Rattle.vd_tape.specs.declared.deal_items.deal.BadItem.{BadItem}
use Rattle.vd_tape.specs.Validity.{AreDeals, IsConsistent, IsFirstBad}
use Rattle.vd_deal_versions.specs.Plain.{IsDealIn}
use Rattle.vd_deal_versions.specs.Text.{IsDealtText}
use Rattle.vd_report.specs.declared.fault.ReadFault.{ReadFault}
use Rattle.vd_report.specs.declared.schedule.Schedule.{Schedule}
use Rattle.vd_report.specs.Outcome.{FirstWrong}
use Rattle.vd_report.specs.ScheduleText.{GivesSchedule, IsScheduleText}

-- the one outcome of the deal file of a host among so many: its deal, or the first offset at which the bytes go on as no deal does
abbrev pub IsDealRead : (hosts me : ℕ) → List ℕ → Result Deal ℕ → Type 0
IsDealRead hosts me bytes (Ok deal) = IsDealIn hosts me bytes deal
IsDealRead hosts me bytes (Err offset) = StopsAt (IsDealtText hosts me) bytes offset

-- the one outcome of a schedule file: the schedule that it gives, or the fault of the first token that cannot stand
abbrev pub IsScheduleRead : List (List ℕ) → List ℕ → Result Schedule ReadFault → Type 0
IsScheduleRead hosts bytes (Ok schedule) = GivesSchedule hosts bytes schedule
IsScheduleRead hosts bytes (Err fault) = FirstWrong IsScheduleText hosts bytes fault

-- the first item of the deals of all hosts that breaks its identity, if there is one
abbrev pub IsJudged : List Deal → Option BadItem → Type 0
IsJudged deals None = IsConsistent deals
IsJudged deals (Some bad) = IsFirstBad deals bad

-- the functions that give each deal file, each schedule file and the deals of all hosts their one outcome
pub record ReplayOutcomes : Type 0 where
  pub deal : (hosts me : ℕ) → List ℕ → Result Deal ℕ
  pub deal_is : (hosts me : ℕ) (bytes : List ℕ) → hosts ≤ most_hosts → me < hosts → IsDealRead hosts me bytes (deal hosts me bytes)
  pub schedule : List (List ℕ) → List ℕ → Result Schedule ReadFault
  pub schedule_is : (hosts : List (List ℕ)) (bytes : List ℕ) → IsScheduleRead hosts bytes (schedule hosts bytes)
  pub judge : List Deal → Option BadItem
  pub judge_is : (deals : List Deal) → AreDeals deals → IsJudged deals (judge deals)

-- there is at most one
abbrev pub HasNoSecond : {X : Type 0} → (X → Type 0) → Type 0
HasNoSecond {X} Is = (a b : X) → Is a → Is b → a ≡ b

-- No deal file, schedule file or list of deals has two outcomes.
pub record OutcomesAreSingle : Type 0 where
  pub deals : (hosts me : ℕ) (bytes : List ℕ) → hosts ≤ most_hosts → me < hosts → HasNoSecond (IsDealRead hosts me bytes)
  pub schedules : (hosts : List (List ℕ)) (bytes : List ℕ) → HasNoSecond (IsScheduleRead hosts bytes)
  pub judgements : (deals : List Deal) → HasNoSecond (IsJudged deals)
