-- The step that reads all that hosts are to run on, made of three.
use Rattle.std.proofs.Common.{◌≡◌, ◌≤◌, ℕ, IsTrue, List, length, Ok, Err, refl, ◌∙◌, subst}
use Rattle.vd_base.specs.Limits.{most_hosts}
use Rattle.vd_outside.specs.Files.{FilesView, Contents}
use Rattle.vd_cmd.specs.declared.command.ReplayWords.{ReplayWords}
use Rattle.vd_tape.specs.declared.deal_items.deal.Deal.{Deal}
use Rattle.vd_tape.specs.Text.{AreDealsOf}
use Rattle.vd_report.specs.declared.schedule.Schedule.{Schedule}
use Rattle.vd_cmd_plan.specs.Plans.{Plan, ExecutesStep}
use Rattle.vd_cmd_plan.specs.declared.status.Status.{Status}
use Rattle.vd_cmd_plan.proofs.Front.{step_keeps, step_tells}
use Rattle.vd_cmd_labels.specs.Outcomes.{TextOutcomes}
use Rattle.vd_cmd_labels.proofs.Front.{some_texts}
use Rattle.vd_cmd_labels.specs.Inputs.{inputs_then, HoldsInputs}
use Rattle.vd_cmd_files.specs.Outcomes.{ReplayOutcomes}
use Rattle.vd_cmd_files.proofs.Picked.{some_outcomes}
use Rattle.vd_cmd_files.specs.declared.run_files.RunFiles.{RunFiles}
use Rattle.vd_cmd_files.specs.Asking.{AreAsked, HoldAsked, asked_of, asked_then}
use Rattle.vd_cmd_files.specs.Deals.{HoldDeals, deals_then}
use Rattle.vd_base.specs.Words.{InputsAreWords}
use Rattle.vd_cmd_files.specs.Schedules.{HoldsSchedule, schedule_then}

module _ (texts : TextOutcomes) (outcomes : ReplayOutcomes) (words : ReplayWords) (names : List (List ℕ)) where
  abbrev after_deals : (RunFiles → Contents → Plan) → List (List ℕ) → List Deal → Contents → Plan
  after_deals rest inputs deals = schedule_then outcomes words.schedule names (λ schedule. rest (asked_of words inputs deals schedule))

  abbrev after_inputs : (RunFiles → Contents → Plan) → List (List ℕ) → Contents → Plan
  after_inputs rest inputs = deals_then outcomes words.prefix names (after_deals rest inputs)

  module _ (before : FilesView) where
    pub inputs_refused : (now : FilesView) (status : Status) → ExecutesStep {T = List (List ℕ)} (inputs_then texts words.inputs names) before now (Err status)
        → ExecutesStep {T = RunFiles} (asked_then texts outcomes words names) before now (Err status)
    inputs_refused now status first = λ rest. first (after_inputs rest)

    module _ (mid : FilesView) (inputs : List (List ℕ)) (first : ExecutesStep (inputs_then texts words.inputs names) before mid (Ok inputs)) where
      pub deals_refused : (now : FilesView) (status : Status) → ExecutesStep {T = List Deal} (deals_then outcomes words.prefix names) mid now (Err status)
          → ExecutesStep {T = RunFiles} (asked_then texts outcomes words names) before now (Err status)
      deals_refused now status second = λ rest. first (after_inputs rest) now (Err status) (second (after_deals rest inputs))

      module _ (late : FilesView) (deals : List Deal) (second : ExecutesStep (deals_then outcomes words.prefix names) mid late (Ok deals)) where
        pub schedule_refused : (now : FilesView) (status : Status) → ExecutesStep {T = Schedule} (schedule_then outcomes words.schedule names) late now (Err status)
            → ExecutesStep {T = RunFiles} (asked_then texts outcomes words names) before now (Err status)
        schedule_refused now status third = λ rest.
            first (after_inputs rest) now (Err status) (second (after_deals rest inputs) now (Err status) (third (λ schedule. rest (asked_of words inputs deals schedule))))

        pub all_read : (now : FilesView) (schedule : Schedule) → ExecutesStep (schedule_then outcomes words.schedule names) late now (Ok schedule)
            → ExecutesStep (asked_then texts outcomes words names) before now (Ok (asked_of words inputs deals schedule))
        all_read now schedule third = λ rest last result then.
            first (after_inputs rest) last result (second (after_deals rest inputs) last result (third (λ s. rest (asked_of words inputs deals s)) last result then))

pub are_asked : (names seen : List (List ℕ)) (asked : RunFiles) → length names ≤ most_hosts → seen ≡ names → length asked.inputs ≡ length names → InputsAreWords asked.inputs → length asked.deals ≡ length seen → AreDealsOf (length seen) asked.deals
    → AreAsked (length names) asked
are_asked names seen asked few same inputs are_words all deals = record {
  few = few;
  inputs = inputs;
  words = are_words;
  all = subst (λ (l : List (List ℕ)). length asked.deals ≡ length l) same all;
  deals = subst (λ (l : List (List ℕ)). AreDealsOf (length l) asked.deals) same deals;
}

-- each part is what the files said at first, since no part changes a file
pub all_held : (words : ReplayWords) (names : List (List ℕ)) (before mid late : FilesView) (inputs : List (List ℕ)) (deals : List Deal) (schedule : Schedule)
    → ((texts : TextOutcomes) → ExecutesStep (inputs_then texts words.inputs names) before mid (Ok inputs)) → ((outcomes : ReplayOutcomes) → ExecutesStep (deals_then outcomes words.prefix names) mid late (Ok deals))
    → (IsTrue before.told → HoldsInputs words.inputs names before.contents inputs) → (IsTrue mid.told → HoldDeals words.prefix (length names) mid.contents deals) → length deals ≡ length names
    → (IsTrue late.told → HoldsSchedule words.schedule names late.contents schedule) → IsTrue before.told → HoldAsked words names before.contents (asked_of words inputs deals schedule)
all_held words names before mid late inputs deals schedule first second found_inputs found_deals all found_schedule t =
    let one = first some_texts in
    let two = second some_outcomes in
    let mid_told = step_tells (inputs_then some_texts words.inputs names) before mid inputs one t in
    let mid_same = step_keeps (inputs_then some_texts words.inputs names) before mid inputs one t in
    let late_told = step_tells (deals_then some_outcomes words.prefix names) mid late deals two mid_told in
    let late_same = step_keeps (deals_then some_outcomes words.prefix names) mid late deals two mid_told in
    record {
      inputs = found_inputs t;
      deals = subst (λ (files : Contents). HoldDeals words.prefix (length names) files deals) mid_same (found_deals mid_told);
      all = all;
      schedule = subst (λ (files : Contents). HoldsSchedule words.schedule names files schedule) (late_same ∙ mid_same) (found_schedule late_told);
      messages = refl;
    }
