-- The plan with a search that gives up wherever it may, beside that with any other.
use Rattle.std.proofs.Common.{ℕ, ◌+◌, List, [], ◌∷◌, length, codes, refl}
use Rattle.vd_base.specs.Limits.{most_deal_bytes, most_inputs_bytes}
use Rattle.vd_base.specs.declared.ids.HostId.{HostId}
use Rattle.vd_outside.specs.Files.{Contents}
use Rattle.vd_core.specs.declared.normal.NormalForm.{NormalForm}
use Rattle.vd_cmd.specs.declared.command.ExcuseWords.{ExcuseWords}
use Rattle.vd_deal_versions.specs.declared.dealt.Dealt.{Dealt}
use Rattle.vd_search_stages.specs.Choices.{ChoiceOutcomes}
use Rattle.vd_cmd_plan.specs.Numbered.{file_name}
use Rattle.vd_cmd_plan.specs.Plans.{Plan, check_then}
use Rattle.vd_cmd_plan.proofs.Front.{Follows, check_follows, file_follows}
use Rattle.vd_cmd_labels.specs.Outcomes.{TextOutcomes, LabelOutcomes}
use Rattle.vd_cmd_labels.specs.Inputs.{inputs_then, words_of}
use Rattle.vd_cmd_choice.proofs.Front.{program_follows, choice_follows}
use Rattle.vd_cmd_depends.specs.Depending.{as_host}
use Rattle.vd_cmd_choice.specs.Outcomes.{CertificateOutcomes}
use Rattle.vd_cmd_choice.specs.Searching.{Searched, searched_by, sure_search}
use Rattle.vd_cmd_files.specs.Outcomes.{ReplayOutcomes}
use Rattle.vd_cmd_excuse.specs.declared.dealing.Dealing.{Dealing}
use Rattle.vd_cmd_excuse.specs.Dealing.{dealing_from, dealt_of, dealt_then, no_dealing, with_dealt}
use Rattle.vd_cmd_excuse.specs.declared.runs.Runs.{Runs}
use Rattle.vd_cmd_excuse.specs.Runs.{runs_of}
use Rattle.vd_cmd_excuse.specs.Excusing.{as_two, choice_plan, excuse_plan, host_plan, program_plan, runs_plan}

module _ (files : Contents) where
  abbrev Each : {X : Type 0} → (X → Contents → Plan) → (X → Contents → Plan) → Type 0
  Each {X = X} sure plan = (x : X) → Follows (sure x files) (plan x files)

  inputs_follow : (texts : TextOutcomes) (name : List ℕ) (hosts : List (List ℕ)) (sure plan : List (List ℕ) → Contents → Plan) → Each sure plan → Follows (inputs_then texts name hosts sure files) (inputs_then texts name hosts plan files)
  unfolding inputs_then
  inputs_follow texts name hosts sure plan each =
      file_follows name most_inputs_bytes (λ bytes. check_then (words_of texts hosts bytes) sure) (λ bytes. check_then (words_of texts hosts bytes) plan) files (λ bytes. check_follows (words_of texts hosts bytes) sure plan files each)

  dealt_follows : (prefix : List ℕ) (hosts number : ℕ) (name : List ℕ) (sure plan : Dealt → Contents → Plan) → Each sure plan
      → Follows (dealt_then prefix hosts number name sure files) (dealt_then prefix hosts number name plan files)
  unfolding dealt_then
  dealt_follows prefix hosts number name sure plan each =
      file_follows (file_name prefix number (codes ".deal")) most_deal_bytes (λ bytes. check_then (dealt_of hosts number name bytes) sure) (λ bytes. check_then (dealt_of hosts number name bytes) plan) files
      (λ bytes. check_follows (dealt_of hosts number name bytes) sure plan files each)

  dealing_follows : (prefix : List ℕ) (hosts number : ℕ) (names : List (List ℕ)) (before : Dealing) (sure plan : Dealing → Contents → Plan) → Each sure plan
      → Follows (dealing_from prefix hosts number names before sure files) (dealing_from prefix hosts number names before plan files)
  unfolding dealing_from
  dealing_follows prefix hosts number [] before sure plan each = each before
  dealing_follows prefix hosts number (name ∷ names) before sure plan each =
      dealt_follows prefix hosts number name (λ dealt. dealing_from prefix hosts (number + 1) names (with_dealt before dealt) sure) (λ dealt. dealing_from prefix hosts (number + 1) names (with_dealt before dealt) plan)
      (λ dealt. dealing_follows prefix hosts (number + 1) names (with_dealt before dealt) sure plan each)

module _ (texts : TextOutcomes) (outcomes : ReplayOutcomes) (least : LabelOutcomes) (certificates : CertificateOutcomes) (choices : ChoiceOutcomes) (searched : Searched) (words : ExcuseWords) (files : Contents) where
  host_follows : (p : NormalForm) (h : HostId) (runs : Runs)
      → Follows (host_plan outcomes least choices (sure_search choices) words p h runs files) (host_plan outcomes least choices (searched_by certificates choices searched) words p h runs files)
  host_follows p h runs =
      choice_follows p words.budget certificates choices (λ c. choice_plan outcomes h runs words.out c.program c.labels c.assignment) files (λ l one other. refl) least searched

  runs_follow : (p : NormalForm) (runs : Runs)
      → Follows (runs_plan outcomes least choices (sure_search choices) words p runs files) (runs_plan outcomes least choices (searched_by certificates choices searched) words p runs files)
  runs_follow p runs =
      check_follows (as_host p.hosts words.host) (λ h. check_then (as_two p.hosts) (λ two. host_plan outcomes least choices (sure_search choices) words p h runs))
      (λ h. check_then (as_two p.hosts) (λ two. host_plan outcomes least choices (searched_by certificates choices searched) words p h runs)) files
      (λ h. check_follows (as_two p.hosts) (λ two. host_plan outcomes least choices (sure_search choices) words p h runs)
      (λ two. host_plan outcomes least choices (searched_by certificates choices searched) words p h runs) files (λ two. host_follows p h runs))

  program_goes : (p : NormalForm) → Follows (program_plan texts outcomes least choices (sure_search choices) words p files) (program_plan texts outcomes least choices (searched_by certificates choices searched) words p files)
  program_goes p =
      inputs_follow files texts words.inputs p.hosts _ _ (λ first.
      inputs_follow files texts words.second p.hosts _ _ (λ second.
      dealing_follows files words.prefix (length p.hosts) 0 p.hosts no_dealing _ _ (λ dealing. runs_follow p (runs_of first second dealing))))

  pub excuse_follows : Follows (excuse_plan texts outcomes least choices (sure_search choices) words files) (excuse_plan texts outcomes least choices (searched_by certificates choices searched) words files)
  excuse_follows =
      program_follows texts least words.source (program_plan texts outcomes least choices (sure_search choices) words) (program_plan texts outcomes least choices (searched_by certificates choices searched) words) files program_goes
