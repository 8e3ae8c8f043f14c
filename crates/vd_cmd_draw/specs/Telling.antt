-- What `draw` says where it ends well.
use Rattle.std.specs.Prelude.{◌≡◌, ℕ, List}
use Rattle.vd_outside.specs.Files.{Contents}
use Rattle.vd_core.specs.declared.source.Source.{Source}
use Rattle.vd_core.specs.declared.normal.NormalForm.{NormalForm}
use Rattle.vd_cmd_rewrite.specs.RunPrograms.{IsRunProgram}
use Rattle.vd_draw_rows.specs.Costs.{rows_cost}
use Rattle.vd_draw_rows.specs.Rows.{rows_of}
use Rattle.vd_draw_picture.specs.Picture.{drawn}
use Rattle.vd_search_stages.specs.Choices.{ChoiceOutcomes}
use Rattle.vd_search_stages.specs.declared.optimum.Assignment.{Assignment}
use Rattle.vd_cmd_plan.specs.declared.status.Status.TheVariants.{Ended}
use Rattle.vd_cmd_labels.specs.Outcomes.{LabelOutcomes, TextOutcomes}
use Rattle.vd_cmd_labels.specs.Sources.{HoldsSource}
use Rattle.vd_cmd_choice.specs.Searching.{Searched, searched_by}
use Rattle.vd_cmd_choice.specs.Outcomes.{CertificateOutcomes}
use Rattle.vd_cmd_choice.specs.Choice.{IsSelected}
use Rattle.vd_cmd_draw.specs.Drawing.{draw_plan}

-- The file is the text of a source that meets every rule, and what is printed is the drawing of its choice of protocols: of the valid
-- assignment of least cost, the first of these in order. The costs of its rows add up to that cost.
pub record TellsDrawing (name : List ℕ) (contents : Contents) (printed : List ℕ) : Type 0 where
  pub source : Source
  pub held : HoldsSource name contents source
  pub program : NormalForm
  pub is_run : IsRunProgram source program
  pub assignment : Assignment
  pub selected : IsSelected program assignment
  pub picture : printed ≡ drawn name held.bytes program selected.labels assignment.protocols
  pub costs : rows_cost (rows_of held.bytes program assignment.protocols) ≡ assignment.cost

-- so does its plan, whatever functions pick outcomes and whatever a search answers
abbrev pub DrawingsTell : Type 0
DrawingsTell = (texts : TextOutcomes) (least : LabelOutcomes) (certificates : CertificateOutcomes) (choices : ChoiceOutcomes) (searched : Searched)
    → (name : List ℕ) (budget : ℕ) (contents : Contents)
    → let plan = draw_plan texts least choices (searched_by certificates choices searched) name budget contents in
    plan.answer.status ≡ Ended → TellsDrawing name contents plan.answer.printed
