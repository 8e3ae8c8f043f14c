-- The steps of a plan, over files that hold what is asked of them: each ends well where what follows does.
use Rattle.std.proofs.Common.{◌≡◌, ◌⊎◌, inl, inr, ℕ, suc, ◌+◌, ◌<◌, ◌≤◌, Bool, Some, List, [], ◌∷◌, ◌++◌, length, Result, Ok, Err, refl, sym, ap, ◌∙◌, subst, arith, append_assoc, codes}
use Rattle.std.specs.Prelude.{slice_get}
use Rattle.std.proofs.lemmas.List.{append-nil}
use Rattle.vd_base.specs.Limits.{most_deal_bytes, most_hosts, most_inputs_bytes, most_schedule_bytes, most_source_bytes}
use Rattle.vd_outside.specs.Files.{Contents, fetched}
use Rattle.vd_core.specs.declared.normal.NormalForm.{NormalForm}
use Rattle.vd_core.specs.declared.source.Source.{Source}
use Rattle.vd_elaborate.specs.Normal.{normal_form}
use Rattle.vd_cmd_rewrite.specs.RunPrograms.{run_form}
use Rattle.vd_parser.proofs.Front.{parses_once}
use Rattle.vd_cmd.specs.declared.command.ReplayWords.{ReplayWords}
use Rattle.vd_constraints.specs.Outcomes.{IsLabelled}
use Rattle.vd_constraints.specs.Satisfies.{IsLeast}
use Rattle.vd_constraints.specs.Systems.{Constraints, IsSystem}
use Rattle.vd_constraints.specs.declared.labels.Labels.{Labels}
use Rattle.vd_solver.proofs.Front.{system_or_not, labelled_once, labelled_somehow}
use Rattle.vd_tape.specs.declared.deal_items.deal.Deal.{Deal}
use Rattle.vd_deal_versions.specs.Plain.{IsDealIn}
use Rattle.vd_report.specs.Inputs.{inputs_read}
use Rattle.vd_report.specs.InputsText.{GivesInputs}
use Rattle.vd_report.specs.declared.fault.ReadFault.{ReadFault}
use Rattle.vd_report.specs.declared.schedule.Schedule.{Schedule}
use Rattle.vd_report.specs.ScheduleText.{GivesSchedule}
use Rattle.vd_report.proofs.Front.{follows_grammar}
use Rattle.vd_cmd_plan.specs.Held.{IsHeld}
use Rattle.vd_cmd_plan.specs.Numbered.{file_name}
use Rattle.vd_cmd_plan.specs.Plans.{Plan, answer_then, check_then, ended, file_then}
use Rattle.vd_cmd_plan.specs.declared.status.Status.{Status}
use Rattle.vd_cmd_plan.specs.declared.status.Status.TheVariants.{Ended}
use Rattle.vd_cmd_labels.specs.Outcomes.{IsInputs, LabelOutcomes, TextOutcomes}
use Rattle.vd_cmd_labels.specs.Sources.{HoldsSource, IsSourceText, as_resolved, as_source, resolved_of, source_of}
use Rattle.vd_cmd_labels.proofs.Front.{solution_is, solution_of}
use Rattle.vd_cmd_choice.specs.Programs.{program_then}
use Rattle.vd_cmd_labels.specs.Inputs.{HoldsInputs, as_inputs, inputs_then, words_of}
use Rattle.vd_cmd_files.specs.Outcomes.{ReplayOutcomes}
use Rattle.vd_cmd_files.proofs.Front.{outcomes_are_single}
use Rattle.vd_cmd_files.specs.declared.run_files.RunFiles.{RunFiles}
use Rattle.vd_cmd_files.specs.Asking.{HoldAsked, asked_of, asked_then}
use Rattle.vd_cmd_files.specs.Deals.{HoldsDeal, as_deal, deal_of, deal_then, deals_from}
use Rattle.vd_cmd_files.specs.Schedules.{HoldsSchedule, as_schedule, schedule_of, schedule_then}

-- ---- a function that gives least labellings, of a system that may be too large too

pub labels_with : (labels : Labels) (s : Constraints) → IsSystem s ⊎ (IsSystem s → ⊥) → Result Labels ℕ
labels_with labels s (inl is) = (labelled_somehow s is).0
labels_with labels s (inr none) = Ok labels

pub labels_with_is : (labels : Labels) (s : Constraints) (decided : IsSystem s ⊎ (IsSystem s → ⊥)) → IsSystem s → IsLabelled s (labels_with labels s decided)
unfolding labels_with
labels_with_is labels s (inl is) here = (labelled_somehow s is).1
labels_with_is labels s (inr none) here = absurd (none here)

pub labels_with_these : (labels : Labels) (s : Constraints) (decided : IsSystem s ⊎ (IsSystem s → ⊥)) → IsLeast s labels → labels_with labels s decided ≡ Ok labels
unfolding labels_with
labels_with_these labels s (inl is) least = labelled_once s (labelled_somehow s is).0 (Ok labels) (labelled_somehow s is).1 least
labels_with_these labels s (inr none) least = refl

abbrev pub labels_for : Labels → LabelOutcomes
labels_for labels = record { label = λ s. labels_with labels s (system_or_not s); label_is = λ s is. labels_with_is labels s (system_or_not s) is; solution = solution_of; solution_is = solution_is }

-- ---- steps

module _ (contents : Contents) where
  abbrev pub Ends : (Contents → Plan) → Type 0
  Ends plan = (plan contents).answer.status ≡ Ended

  file_ends : (name : List ℕ) (limit : ℕ) (bytes : List ℕ) (rest : List ℕ → Contents → Plan) → fetched (contents name) limit ≡ Ok bytes → Ends (rest bytes) → Ends (file_then name limit rest)
  unfolding file_then
  file_ends name limit bytes rest is then = rw is then

  pub check_ends : {T : Type 0} (wanted : Result T Status) (value : T) (rest : T → Contents → Plan) → wanted ≡ Ok value → Ends (rest value) → Ends (check_then wanted rest)
  unfolding check_then
  check_ends wanted value rest is then = rw is then

  pub answer_ends : (printed : List ℕ) → Ends (answer_then (ended [] printed))
  unfolding answer_then
  answer_ends printed = refl

  held_ends : {T : Type 0} (name : List ℕ) (limit : ℕ) (wanted : List ℕ → Result T Status) (value : T) (rest : T → Contents → Plan) (Is : List ℕ → Type 0) → IsHeld name limit contents Is
      → ((bytes : List ℕ) → Is bytes → wanted bytes ≡ Ok value) → Ends (rest value) → Ends (file_then name limit (λ bytes. check_then (wanted bytes) rest))
  held_ends name limit wanted value rest Is held is then =
      file_ends name limit held.bytes (λ bytes. check_then (wanted bytes) rest) held.is_fetched (check_ends (wanted held.bytes) value rest (is held.bytes held.holds) then)

  pub program_ends : (texts : TextOutcomes) (least : LabelOutcomes) (name : List ℕ) (source : Source) (rest : NormalForm → Contents → Plan) → HoldsSource name contents source → Ends (rest (run_form least (normal_form source)))
      → Ends (program_then texts least name rest)
  program_ends texts least name source rest held then =
      let with_source : Source → Contents → Plan = λ s. rest (run_form least (normal_form s)) in
      held_ends name most_source_bytes (source_of texts name) source (λ tree. check_then (resolved_of tree) with_source) (IsSourceText source) held
      (λ bytes is. ap (as_source name) (parses_once bytes (texts.parse bytes) (Ok source) (texts.parse_is bytes) is.parsed))
      (check_ends (resolved_of source) source with_source (ap (as_resolved source) held.holds.meets) then)

  inputs_ends : (texts : TextOutcomes) (name : List ℕ) (hosts inputs : List (List ℕ)) (rest : List (List ℕ) → Contents → Plan) → HoldsInputs name hosts contents inputs → Ends (rest inputs) → Ends (inputs_then texts name hosts rest)
  unfolding inputs_then
  inputs_ends texts name hosts inputs rest held then =
      held_ends name most_inputs_bytes (words_of texts hosts) inputs rest (λ bytes. GivesInputs hosts bytes inputs) held
      (λ bytes is. ap as_inputs (sym (once bytes (texts.inputs hosts bytes) (texts.inputs_is hosts bytes)) ∙ ((follows_grammar hosts bytes).given inputs).1 is)) then
    where
      once : (bytes : List ℕ) (said : Result (List (List ℕ)) ReadFault) → IsInputs hosts bytes said → inputs_read hosts bytes ≡ said
      once bytes (Ok other) is = ((follows_grammar hosts bytes).given other).1 is
      once bytes (Err fault) is = ((follows_grammar hosts bytes).refused fault).1 is

  module _ (outcomes : ReplayOutcomes) where
    schedule_ends : (name : List ℕ) (hosts : List (List ℕ)) (schedule : Schedule) (rest : Schedule → Contents → Plan) → HoldsSchedule name hosts contents schedule → Ends (rest schedule) → Ends (schedule_then outcomes name hosts rest)
    unfolding schedule_then
    schedule_ends name hosts schedule rest held then =
        held_ends name most_schedule_bytes (schedule_of outcomes hosts) schedule rest (λ bytes. GivesSchedule hosts bytes schedule) held
        (λ bytes is. ap as_schedule (outcomes_are_single.schedules hosts bytes (outcomes.schedule hosts bytes) (Ok schedule) (outcomes.schedule_is hosts bytes) is)) then

    module _ (prefix : List ℕ) (hosts : ℕ) (few : hosts ≤ most_hosts) where
      deal_ends : (number : ℕ) (name : List ℕ) (deal : Deal) (rest : Deal → Contents → Plan) → number < hosts → HoldsDeal prefix hosts number contents deal → Ends (rest deal) → Ends (deal_then outcomes prefix hosts number name rest)
      unfolding deal_then
      deal_ends number name deal rest declared held then =
          held_ends (file_name prefix number (codes ".deal")) most_deal_bytes (deal_of outcomes hosts number name) deal rest (λ bytes. IsDealIn hosts number bytes deal) held
          (λ bytes is. ap (as_deal name number) (outcomes_are_single.deals hosts number bytes few declared (outcomes.deal hosts number bytes) (Ok deal) (outcomes.deal_is hosts number bytes few declared) is)) then

      -- the deals that are left, which are numbered from here on
      abbrev HoldLeft : ℕ → List Deal → Type 0
      HoldLeft number deals = (i : ℕ) (deal : Deal) → slice_get deals i ≡ Some deal → HoldsDeal prefix hosts (number + i) contents deal

      held_next : (number : ℕ) (deal : Deal) (deals : List Deal) → HoldLeft number (deal ∷ deals) → HoldLeft (number + 1) deals
      held_next number deal deals held i other e =
          let same : number + suc i ≡ (number + 1) + i = omega arith in
          subst (λ (n : ℕ). HoldsDeal prefix hosts n contents other) same (held (suc i) other e)

      deals_end : (names : List (List ℕ)) (number : ℕ) (before deals : List Deal) (rest : List Deal → Contents → Plan) → length deals ≡ length names → number + length names ≤ hosts → HoldLeft number deals
          → Ends (rest (before ++ deals)) → Ends (deals_from outcomes prefix hosts number names before rest)
      unfolding deals_from
      deals_end [] number before [] rest all most held then = subst (λ (ds : List Deal). Ends (rest ds)) (append-nil before) then
      deals_end [] number before (deal ∷ deals) rest all most held then = absurd (omega arith)
      deals_end (name ∷ names) number before [] rest all most held then = absurd (omega arith)
      deals_end (name ∷ names) number before (deal ∷ deals) rest all most held then =
          let here : number + 0 ≡ number = omega arith in
          deal_ends number name deal (λ d. deals_from outcomes prefix hosts (number + 1) names (before ++ d ∷ []) rest) (omega arith) (subst (λ (n : ℕ). HoldsDeal prefix hosts n contents deal) here (held 0 deal refl))
          (deals_end names (number + 1) (before ++ deal ∷ []) deals rest (omega arith) (omega arith) (held_next number deal deals held)
          (subst (λ (ds : List Deal). Ends (rest ds)) (sym (append_assoc before (deal ∷ []) deals)) then))

    -- all that is asked
    pub asked_ends : (texts : TextOutcomes) (words : ReplayWords) (names : List (List ℕ)) (asked : RunFiles) (rest : RunFiles → Contents → Plan) → length names ≤ most_hosts → HoldAsked words names contents asked → Ends (rest asked)
        → Ends (asked_then texts outcomes words names rest)
    asked_ends texts words names asked rest few held then =
        let with_links : Bool → RunFiles = λ m. record { inputs = asked.inputs; deals = asked.deals; schedule = asked.schedule; messages = m } in
        let there : Ends (rest (asked_of words asked.inputs asked.deals asked.schedule)) = subst (λ (m : Bool). Ends (rest (with_links m))) held.messages then in
        let from_start : HoldLeft words.prefix (length names) few 0 asked.deals =
        λ i deal e. let same : i ≡ 0 + i = omega arith in subst (λ (n : ℕ). HoldsDeal words.prefix (length names) n contents deal) same (held.deals i deal e) in
        inputs_ends texts words.inputs names asked.inputs _ held.inputs
        (deals_end words.prefix (length names) few names 0 [] asked.deals _ held.all (omega arith) from_start
        (schedule_ends words.schedule names asked.schedule _ held.schedule there))
