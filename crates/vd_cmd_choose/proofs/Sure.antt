-- The command `choose` with a search that gives up wherever it may, beside any other.
use Rattle.std.proofs.Common.{◌≡◌, ℕ, Option, Some, None, List, refl, sym, ◌∙◌}
use Rattle.vd_outside.specs.Files.{Contents}
use Rattle.vd_outside.specs.declared.stored.Stored.{Stored}
use Rattle.vd_core.specs.declared.normal.NormalForm.{NormalForm}
use Rattle.vd_space.specs.Reading.{problem_of}
use Rattle.vd_search_stages.specs.Choices.{ChoiceOutcomes}
use Rattle.vd_search_stages.specs.Optimum.{assignment_of}
use Rattle.vd_search_stages.specs.declared.optimum.Assignment.{Assignment}
use Rattle.vd_cmd_plan.specs.Labelled.{LabelledForm, labelled_form}
use Rattle.vd_cmd_plan.specs.Plans.{answer_then}
use Rattle.vd_cmd_plan.specs.declared.answer.Answer.{Answer}
use Rattle.vd_cmd_plan.proofs.Front.{Follows}
use Rattle.vd_cmd_labels.specs.Outcomes.{TextOutcomes, LabelOutcomes}
use Rattle.vd_cmd_choice.specs.Outcomes.{CertificateOutcomes}
use Rattle.vd_cmd_choice.specs.Searching.{Searched, searched_by, sure_search}
use Rattle.vd_cmd_choice.proofs.Front.{GoesByChoice, source_choice_follows}
use Rattle.vd_cmd_choose.specs.Choosing.{certificate_file, choice_answer, chosen_answer, choose_plan}

-- the status does not go by the file that is stored
same_status : (form : LabelledForm) (choice : Option Assignment) (a b : Stored) → (choice_answer form choice a).status ≡ (choice_answer form choice b).status
same_status form (Some list) a b = refl
same_status form None a b = refl

answer_status : (answer : Answer) (files : Contents) → (answer_then answer files).answer.status ≡ answer.status
unfolding answer_then
answer_status answer files = refl

same_after : (choices : ChoiceOutcomes) (source : List ℕ) (program : NormalForm) (budget : ℕ) (certificates : CertificateOutcomes) (files : Contents)
    → GoesByChoice program budget certificates choices (λ c. answer_then (chosen_answer source c)) files
same_after choices source program budget certificates files l one other =
    let choice : Option Assignment = assignment_of choices (problem_of program l) in
    answer_status (choice_answer (labelled_form program l) choice (certificate_file source one)) files
    ∙ same_status (labelled_form program l) choice (certificate_file source one) (certificate_file source other)
    ∙ sym (answer_status (choice_answer (labelled_form program l) choice (certificate_file source other)) files)

pub choose_follows : (texts : TextOutcomes) (least : LabelOutcomes) (certificates : CertificateOutcomes) (choices : ChoiceOutcomes) (searched : Searched) (source : List ℕ) (budget : ℕ) (files : Contents)
    → Follows (choose_plan texts least choices (sure_search choices) source budget files) (choose_plan texts least choices (searched_by certificates choices searched) source budget files)
choose_follows texts least certificates choices searched source budget files =
    source_choice_follows texts least certificates choices searched source budget files (λ text c. answer_then (chosen_answer source c)) (λ text program. same_after choices source program budget certificates files)
