-- Each deal file and each schedule file has one outcome, which is what is read of it.
use Rattle.std.proofs.Common.{◌≡◌, ℕ, List, Result, Ok, Err, refl, sym, ◌∙◌}
use Rattle.vd_tape.specs.declared.deal_items.deal.Deal.{Deal}
use Rattle.vd_deal_versions.specs.Plain.{DealsFollowGrammar, plain_read}
use Rattle.vd_deal_versions.proofs.Front.{follow_grammar, plain_follow}
use Rattle.vd_report.specs.declared.fault.ReadFault.{ReadFault}
use Rattle.vd_report.specs.declared.schedule.Schedule.{Schedule}
use Rattle.vd_report.specs.Schedule.{schedule_read}
use Rattle.vd_report.specs.ScheduleText.{SchedulesFollowGrammar}
use Rattle.vd_report.proofs.Front.{schedules_follow}
use Rattle.vd_cmd_files.specs.Outcomes.{IsDealRead, IsScheduleRead, ReplayOutcomes, OutcomesAreSingle}
use Rattle.vd_cmd_files.proofs.Judged.{judged_once}
use Rattle.vd_cmd_files.proofs.Searching.{judge, judged}

deal_is_read : (hosts me : ℕ) (bytes : List ℕ) → DealsFollowGrammar hosts me bytes → (said : Result Deal ℕ) → plain_read hosts me bytes ≡ said → IsDealRead hosts me bytes said
deal_is_read hosts me bytes law (Ok deal) e = (law.given deal).0 e
deal_is_read hosts me bytes law (Err offset) e = (law.refused offset).0 e

read_is_deal : (hosts me : ℕ) (bytes : List ℕ) → DealsFollowGrammar hosts me bytes → (said : Result Deal ℕ) → IsDealRead hosts me bytes said → plain_read hosts me bytes ≡ said
read_is_deal hosts me bytes law (Ok deal) is = (law.given deal).1 is
read_is_deal hosts me bytes law (Err offset) is = (law.refused offset).1 is

schedule_is_read : (hosts : List (List ℕ)) (bytes : List ℕ) → SchedulesFollowGrammar hosts bytes → (said : Result Schedule ReadFault) → schedule_read hosts bytes ≡ said → IsScheduleRead hosts bytes said
schedule_is_read hosts bytes law (Ok schedule) e = (law.given schedule).0 e
schedule_is_read hosts bytes law (Err fault) e = (law.refused fault).0 e

read_is_schedule : (hosts : List (List ℕ)) (bytes : List ℕ) → SchedulesFollowGrammar hosts bytes → (said : Result Schedule ReadFault) → IsScheduleRead hosts bytes said → schedule_read hosts bytes ≡ said
read_is_schedule hosts bytes law (Ok schedule) is = (law.given schedule).1 is
read_is_schedule hosts bytes law (Err fault) is = (law.refused fault).1 is

pub some_outcomes : ReplayOutcomes
some_outcomes = record {
  deal = plain_read;
  deal_is = λ hosts me bytes few declared. deal_is_read hosts me bytes (plain_follow hosts me bytes (follow_grammar hosts me bytes few declared)) (plain_read hosts me bytes) refl;
  schedule = schedule_read;
  schedule_is = λ hosts bytes. schedule_is_read hosts bytes (schedules_follow hosts bytes) (schedule_read hosts bytes) refl;
  judge = judge;
  judge_is = judged;
}

pub outcomes_are_single : OutcomesAreSingle
outcomes_are_single = record {
  deals = λ hosts me bytes few declared a b is other.
      let law = plain_follow hosts me bytes (follow_grammar hosts me bytes few declared) in
      sym (read_is_deal hosts me bytes law a is) ∙ read_is_deal hosts me bytes law b other;
  schedules = λ hosts bytes a b is other.
      let law = schedules_follow hosts bytes in
      sym (read_is_schedule hosts bytes law a is) ∙ read_is_schedule hosts bytes law b other;
  judgements = judged_once;
}
