-- A search that gives up wherever it may, beside any other.
use Rattle.std.proofs.Common.{ℕ, ◌+◌, List, [], ◌∷◌, ◌++◌, length, codes, refl}
use Rattle.vd_base.specs.Limits.{most_deal_bytes, most_inputs_bytes, most_schedule_bytes}
use Rattle.vd_outside.specs.Files.{Contents}
use Rattle.vd_core.specs.declared.normal.NormalForm.{NormalForm}
use Rattle.vd_tape.specs.declared.deal_items.deal.Deal.{Deal}
use Rattle.vd_cmd.specs.declared.command.ReplayWords.{ReplayWords}
use Rattle.vd_report.specs.declared.schedule.Schedule.{Schedule}
use Rattle.vd_search_stages.specs.Choices.{ChoiceOutcomes}
use Rattle.vd_cmd_plan.specs.Labelled.{labelled_form}
use Rattle.vd_cmd_plan.specs.Numbered.{file_name}
use Rattle.vd_cmd_plan.specs.Plans.{Plan, check_then}
use Rattle.vd_cmd_plan.proofs.Front.{Follows, file_follows, check_follows}
use Rattle.vd_cmd_labels.specs.Outcomes.{TextOutcomes, LabelOutcomes}
use Rattle.vd_cmd_labels.specs.Inputs.{words_of, inputs_then}
use Rattle.vd_cmd_choice.specs.Outcomes.{CertificateOutcomes}
use Rattle.vd_cmd_choice.specs.Searching.{Searched, searched_by, sure_search}
use Rattle.vd_cmd_choice.proofs.Front.{choice_follows, program_follows}
use Rattle.vd_cmd_files.specs.Outcomes.{ReplayOutcomes}
use Rattle.vd_cmd_files.specs.declared.run_files.RunFiles.{RunFiles}
use Rattle.vd_cmd_files.specs.Asking.{asked_of}
use Rattle.vd_cmd_files.specs.Deals.{deal_of, deal_then, deals_from}
use Rattle.vd_cmd_replay.specs.Replaying.{asked_plan, choice_plan, program_plan, replay_plan}
use Rattle.vd_cmd_files.specs.Schedules.{schedule_of, schedule_then}

module _ (files : Contents) where
  abbrev Each : {X : Type 0} → (X → Contents → Plan) → (X → Contents → Plan) → Type 0
  Each {X = X} sure plan = (x : X) → Follows (sure x files) (plan x files)

  inputs_follow : (texts : TextOutcomes) (name : List ℕ) (hosts : List (List ℕ)) (sure plan : List (List ℕ) → Contents → Plan) → Each sure plan → Follows (inputs_then texts name hosts sure files) (inputs_then texts name hosts plan files)
  unfolding inputs_then
  inputs_follow texts name hosts sure plan each =
      file_follows name most_inputs_bytes (λ bytes. check_then (words_of texts hosts bytes) sure) (λ bytes. check_then (words_of texts hosts bytes) plan) files (λ bytes. check_follows (words_of texts hosts bytes) sure plan files each)

  deal_follows : (outcomes : ReplayOutcomes) (prefix : List ℕ) (hosts number : ℕ) (name : List ℕ) (sure plan : Deal → Contents → Plan) → Each sure plan
      → Follows (deal_then outcomes prefix hosts number name sure files) (deal_then outcomes prefix hosts number name plan files)
  unfolding deal_then
  deal_follows outcomes prefix hosts number name sure plan each =
      file_follows (file_name prefix number (codes ".deal")) most_deal_bytes (λ bytes. check_then (deal_of outcomes hosts number name bytes) sure) (λ bytes. check_then (deal_of outcomes hosts number name bytes) plan) files
      (λ bytes. check_follows (deal_of outcomes hosts number name bytes) sure plan files each)

  deals_follow : (outcomes : ReplayOutcomes) (prefix : List ℕ) (hosts number : ℕ) (names : List (List ℕ)) (before : List Deal) (sure plan : List Deal → Contents → Plan) → Each sure plan
      → Follows (deals_from outcomes prefix hosts number names before sure files) (deals_from outcomes prefix hosts number names before plan files)
  unfolding deals_from
  deals_follow outcomes prefix hosts number [] before sure plan each = each before
  deals_follow outcomes prefix hosts number (name ∷ names) before sure plan each =
      deal_follows outcomes prefix hosts number name (λ deal. deals_from outcomes prefix hosts (number + 1) names (before ++ deal ∷ []) sure) (λ deal. deals_from outcomes prefix hosts (number + 1) names (before ++ deal ∷ []) plan)
      (λ deal. deals_follow outcomes prefix hosts (number + 1) names (before ++ deal ∷ []) sure plan each)

  schedule_follows : (outcomes : ReplayOutcomes) (name : List ℕ) (hosts : List (List ℕ)) (sure plan : Schedule → Contents → Plan) → Each sure plan → Follows (schedule_then outcomes name hosts sure files) (schedule_then outcomes name hosts plan files)
  unfolding schedule_then
  schedule_follows outcomes name hosts sure plan each =
      file_follows name most_schedule_bytes (λ bytes. check_then (schedule_of outcomes hosts bytes) sure) (λ bytes. check_then (schedule_of outcomes hosts bytes) plan) files (λ bytes. check_follows (schedule_of outcomes hosts bytes) sure plan files each)

module _ (texts : TextOutcomes) (outcomes : ReplayOutcomes) (least : LabelOutcomes) (certificates : CertificateOutcomes) (choices : ChoiceOutcomes) (searched : Searched) (words : ReplayWords) (files : Contents) where
  asked_follows : (program : NormalForm) (asked : RunFiles)
      → Follows (asked_plan outcomes least choices (sure_search choices) words.budget program asked files) (asked_plan outcomes least choices (searched_by certificates choices searched) words.budget program asked files)
  asked_follows program asked = choice_follows program words.budget certificates choices (λ c. choice_plan outcomes asked (labelled_form c.program c.labels) c.assignment) files (λ l one other. refl) least searched

  program_goes : (program : NormalForm) → Follows (program_plan texts outcomes least choices (sure_search choices) words program files) (program_plan texts outcomes least choices (searched_by certificates choices searched) words program files)
  program_goes program =
      inputs_follow files texts words.inputs program.hosts _ _ (λ inputs.
      deals_follow files outcomes words.prefix (length program.hosts) 0 program.hosts [] _ _ (λ deals.
      schedule_follows files outcomes words.schedule program.hosts _ _ (λ schedule. asked_follows program (asked_of words inputs deals schedule))))

  pub replay_follows : Follows (replay_plan texts outcomes least choices (sure_search choices) words files) (replay_plan texts outcomes least choices (searched_by certificates choices searched) words files)
  replay_follows =
      program_follows texts least words.source (program_plan texts outcomes least choices (sure_search choices) words) (program_plan texts outcomes least choices (searched_by certificates choices searched) words) files program_goes
