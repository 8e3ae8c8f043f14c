-- The command `draw`.
use Rattle.std.specs.Prelude.{ℕ, true, List, [], Result}
use Rattle.vd_outside.specs.Files.{FilesView, Contents}
use Rattle.vd_core.specs.declared.normal.NormalForm.{NormalForm}
use Rattle.vd_constraints.specs.declared.labels.Labels.{Labels}
use Rattle.vd_draw_picture.specs.Picture as pictures
use Rattle.vd_search_stages.specs.Choices.{ChoiceOutcomes}
use Rattle.vd_search_stages.specs.declared.optimum.Assignment.{Assignment}
use Rattle.vd_cmd_plan.specs.Labelled.{labelled_form}
use Rattle.vd_cmd_plan.specs.Plans.{Plan, Executes, answer_then, ended}
use Rattle.vd_cmd_plan.specs.declared.answer.Answer.{Answer}
use Rattle.vd_cmd_plan.specs.declared.status.Status.{Status}
use Rattle.vd_cmd_labels.specs.Outcomes.{TextOutcomes, LabelOutcomes}
use Rattle.vd_cmd_choice.specs.Searching.{Search, SomeSearch}
use Rattle.vd_cmd_choice.specs.Choice.{Chosen, assigned_answer, source_choice_then}

-- ---- what it comes to

-- the drawing of the choice is printed, and nothing is stored
abbrev pub drawn_answer : (name text : List ℕ) → NormalForm → Labels → Assignment → Answer
drawn_answer name text program l a = ended [] (pictures.drawn name text program l a.protocols)

-- with what was found for the source with this text
abbrev pub drawn_for : (name text : List ℕ) → Chosen → Answer
drawn_for name text c = assigned_answer (labelled_form c.program c.labels) (drawn_answer name text c.program c.labels) c.assignment

abbrev pub draw_plan : TextOutcomes → LabelOutcomes → ChoiceOutcomes → Search → (name : List ℕ) → (budget : ℕ) → Contents → Plan
draw_plan texts least choices search name budget = source_choice_then texts least choices search name budget (λ text c. answer_then (drawn_for name text c))

-- ---- what the command does, whatever functions pick outcomes

abbrev pub ExecutesDraw : (name : List ℕ) → (budget : ℕ) → FilesView → FilesView → Result Answer Status → Type 0
ExecutesDraw name budget before now result =
    SomeSearch (λ choices search. (texts : TextOutcomes) (least : LabelOutcomes) → Executes true (draw_plan texts least choices search name budget) before now result)
