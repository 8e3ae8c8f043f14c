-- A search that gives up wherever it may, beside any other.
use Rattle.std.proofs.Common.{ℕ, List, refl}
use Rattle.vd_outside.specs.Files.{Contents}
use Rattle.vd_search_stages.specs.Choices.{ChoiceOutcomes}
use Rattle.vd_cmd_plan.specs.Plans.{answer_then}
use Rattle.vd_cmd_plan.proofs.Front.{Follows}
use Rattle.vd_cmd_labels.specs.Outcomes.{TextOutcomes, LabelOutcomes}
use Rattle.vd_cmd_choice.specs.Outcomes.{CertificateOutcomes}
use Rattle.vd_cmd_choice.specs.Searching.{Searched, searched_by, sure_search}
use Rattle.vd_cmd_choice.proofs.Front.{source_choice_follows}
use Rattle.vd_cmd_draw.specs.Drawing.{draw_plan, drawn_for}

pub draw_follows : (texts : TextOutcomes) (least : LabelOutcomes) (certificates : CertificateOutcomes) (choices : ChoiceOutcomes) (searched : Searched) (name : List ℕ) (budget : ℕ) (files : Contents)
    → Follows (draw_plan texts least choices (sure_search choices) name budget files) (draw_plan texts least choices (searched_by certificates choices searched) name budget files)
draw_follows texts least certificates choices searched name budget files =
    source_choice_follows texts least certificates choices searched name budget files (λ text c. answer_then (drawn_for name text c)) (λ text program l one other. refl)
