-- What the plans of `labels`, `certify`, `choose` and `compile` come to, whatever functions pick outcomes and whatever a search answers.
use Rattle.std.specs.Prelude.{◌≡◌, ◌≤◌, ℕ, List}
use Rattle.vd_base.specs.Limits.{most_search_budget}
use Rattle.vd_outside.specs.Files.{Contents}
use Rattle.vd_search_stages.specs.Choices.{ChoiceOutcomes}
use Rattle.vd_cmd_plan.specs.Deliver.{stored}
use Rattle.vd_cmd_plan.specs.Plans.{Plan}
use Rattle.vd_cmd_plan.specs.declared.status.Status.TheVariants.{Ended}
use Rattle.vd_cmd_labels.specs.Labelling.{labels_plan}
use Rattle.vd_cmd_labels.specs.Outcomes.{LabelOutcomes, TextOutcomes}
use Rattle.vd_cmd_choose.specs.Certifying.{certify_plan}
use Rattle.vd_cmd_choose.specs.Choosing.{choose_plan}
use Rattle.vd_cmd_choice.specs.Searching.{Searched, searched_by}
use Rattle.vd_cmd_choice.specs.Outcomes.{CertificateOutcomes}
use Rattle.vd_cmd_compile.specs.Compiling.{compile_plan}
use Rattle.vd_cmd_laws.specs.Answers.{TellsChoice, TellsCompiled, TellsLabels, TellsProof}

abbrev pub EndsWell : Plan → Type 0
EndsWell plan = plan.answer.status ≡ Ended

abbrev pub LabelsTell : Type 0
LabelsTell = (texts : TextOutcomes) (least : LabelOutcomes) (name : List ℕ) (contents : Contents)
    → let plan = labels_plan texts least name contents in EndsWell plan → TellsLabels name contents plan.answer.printed

abbrev pub ProofsTell : Type 0
ProofsTell = (texts : TextOutcomes) (least : LabelOutcomes) (certificates : CertificateOutcomes) (name certificate : List ℕ) (contents : Contents)
    → let plan = certify_plan texts least certificates name certificate contents in EndsWell plan → TellsProof name contents plan.answer.printed

-- the certificate stands where the answer is delivered
abbrev pub ChoicesTell : Type 0
ChoicesTell = (texts : TextOutcomes) (least : LabelOutcomes) (certificates : CertificateOutcomes) (choices : ChoiceOutcomes) (searched : Searched)
    → (name : List ℕ) (budget : ℕ) (contents : Contents) → budget ≤ most_search_budget
    → let plan = choose_plan texts least choices (searched_by certificates choices searched) name budget contents in
    EndsWell plan → TellsChoice name contents (stored plan.answer.stores contents) plan.answer.printed

-- and so do the files of all hosts
abbrev pub CompiledTell : Type 0
CompiledTell = (texts : TextOutcomes) (least : LabelOutcomes) (certificates : CertificateOutcomes) (choices : ChoiceOutcomes) (searched : Searched)
    → (name prefix : List ℕ) (budget : ℕ) (contents : Contents)
    → let plan = compile_plan texts least choices (searched_by certificates choices searched) name prefix budget contents in
    EndsWell plan → TellsCompiled name prefix contents (stored plan.answer.stores contents) plan.answer.printed
