-- The program that is run, of the steps that make it.
use Rattle.std.proofs.Common.{◌≡◌, Bool, true, false, if◌then◌else◌, Result, Ok, Err, IfOk, sym, ap, ◌∙◌, subst}
use Rattle.vd_base.specs.declared.ids.SlotId.{SlotId}
use Rattle.vd_core.specs.declared.normal.NormalForm.{NormalForm}
use Rattle.vd_core.specs.declared.source.Source.{Source}
use Rattle.vd_core.specs.Facts.{IsWellMade}
use Rattle.vd_elaborate.specs.Normal.{normal_form}
use Rattle.vd_constraints.specs.declared.labels.Labels.{Labels}
use Rattle.vd_cmd_labels.proofs.Front.{program_system}
use Rattle.vd_space.specs.Reading.{problem_of}
use Rattle.vd_rewrite.specs.Rewriting.{marked}
use Rattle.vd_mux.specs.BooleanGuards.{has_boolean_guards}
use Rattle.vd_mux.specs.Hidden.{hidden_marks, turn_of}
use Rattle.vd_mux.specs.Selections.{turned}
use Rattle.vd_mux.proofs.Front.{turned_well_made}
use Rattle.vd_core.specs.Numbers.{NumbersFit}
use Rattle.vd_long.specs.Marks.{long_marks, lengthen_of}
use Rattle.vd_long.proofs.Front.{lengthened_well_made}
use Rattle.vd_cmd_labels.specs.Outcomes.{LabelOutcomes}
use Rattle.vd_cmd_rewrite.specs.RunPrograms.{Rewriting, IsLabelledOr, New, Old, Rewrites, Under, Without, Plain, IsRunForm, IsRunProgram, TellsAs, rewritten_by, run_form}
use Rattle.vd_cmd_rewrite.proofs.Once.{rewritten_once, rewritten_is}
use Rattle.vd_cmd_rewrite.proofs.Told.{run_hosts, run_tells}

turn_well_made : (p : NormalForm) (l : Labels) → IsWellMade p → IsWellMade (turn_of p l)
turn_well_made p l well = by (has_boolean_guards p)
  where
    by : (b : Bool) → IsWellMade (if b then turned (marked (hidden_marks p l)) p else p)
    by true = turned_well_made (marked (hidden_marks p l)) p well
    by false = well

lengthen_well_made : (p : NormalForm) (l : Labels) → IsWellMade p → IsWellMade (lengthen_of p l)
lengthen_well_made p l well = lengthened_well_made (marked (long_marks (problem_of p l))) p well

-- what is made of a well-made program is well made
well_made_in : (new old chosen : NormalForm) → IsWellMade new → IsWellMade old → IsLabelledOr new old chosen → IsWellMade chosen
well_made_in new old chosen n o (New l is e) = subst IsWellMade (sym e) n
well_made_in new old chosen n o (Old none e) = subst IsWellMade (sym e) o

rewritten_well_made : (change : Rewriting) (old new : NormalForm) → IsWellMade old → ((l : Labels) → IsWellMade (change old l)) → Rewrites change old new → IsWellMade new
rewritten_well_made change old new well wells (Under l is chosen) = well_made_in (change old l) old new (wells l) well chosen
rewritten_well_made change old new well wells (Without none e) = subst IsWellMade (sym e) well
rewritten_well_made change old new well wells (Plain stays e) = subst IsWellMade (sym e) well

module _ (source : Source) (p0 p1 : NormalForm) (is : p0 ≡ normal_form source) (well : IsWellMade p0) (well' : IsWellMade p1) (numbers : NumbersFit p1) (branches : Rewrites turn_of p0 p1) where
  pub run_is_form : {E : Type 0} (result : Result NormalForm E) → IfOk result (Rewrites lengthen_of p1) → IfOk result (IsRunForm source)
  run_is_form (Ok p2) divisions = λ least.
      let first = rewritten_once least turn_of p0 p1 (program_system p0 well) (λ l. program_system (turn_of p0 l) (turn_well_made p0 l well)) branches in
      let second = rewritten_once least lengthen_of p1 p2 (program_system p1 well') (λ l. program_system (lengthen_of p1 l) (lengthen_well_made p1 l well')) divisions in
      sym (ap (λ (p : NormalForm). rewritten_by lengthen_of least (rewritten_by turn_of least p)) (sym is) ∙ ap (rewritten_by lengthen_of least) first ∙ second)
  run_is_form (Err fault) divisions = tt

  pub run_is_program : {E : Type 0} (result : Result NormalForm E) → IfOk result (Rewrites lengthen_of p1) → IfOk result (IsRunProgram source)
  run_is_program (Ok p2) divisions =
      let from_source = subst (λ (p : NormalForm). Rewrites turn_of p p1) is branches in
      record { turned = p1; branches = from_source; divisions = divisions; hosts = run_hosts (normal_form source) p1 p2 from_source divisions }
  run_is_program (Err fault) divisions = tt

  pub run_tells_as : {E : Type 0} (result : Result NormalForm E) → IfOk result (Rewrites lengthen_of p1) → IfOk result (TellsAs source)
  run_tells_as (Ok p2) divisions = run_tells source p1 p2 (subst IsWellMade is well) well' numbers (subst (λ (p : NormalForm). Rewrites turn_of p p1) is branches) divisions
  run_tells_as (Err fault) divisions = tt

-- what a function that picks labels makes of a source is its program
pub run_form_is : (least : LabelOutcomes) (source : Source) → IsWellMade (normal_form source) → IsRunProgram source (run_form least (normal_form source))
run_form_is least source well =
    let p0 = normal_form source in
    let p1 = rewritten_by turn_of least p0 in
    let branches = rewritten_is least turn_of p0 (program_system p0 well) (λ l. program_system (turn_of p0 l) (turn_well_made p0 l well)) in
    let well' = rewritten_well_made turn_of p0 p1 well (λ l. turn_well_made p0 l well) branches in
    let divisions = rewritten_is least lengthen_of p1 (program_system p1 well') (λ l. program_system (lengthen_of p1 l) (lengthen_well_made p1 l well')) in
    record { turned = p1; branches = branches; divisions = divisions; hosts = run_hosts p0 p1 (run_form least p0) branches divisions }

-- there is no other
pub run_once : (source : Source) (program : NormalForm) → IsWellMade (normal_form source) → IsRunProgram source program → IsRunForm source program
run_once source program well is = λ least.
    let p0 = normal_form source in
    let well' = rewritten_well_made turn_of p0 is.turned well (λ l. turn_well_made p0 l well) is.branches in
    let first = rewritten_once least turn_of p0 is.turned (program_system p0 well) (λ l. program_system (turn_of p0 l) (turn_well_made p0 l well)) is.branches in
    let second = rewritten_once least lengthen_of is.turned program (program_system is.turned well') (λ l. program_system (lengthen_of is.turned l) (lengthen_well_made is.turned l well')) is.divisions in
    sym (ap (rewritten_by lengthen_of least) first ∙ second)

-- and it is well made
pub run_well_made : (source : Source) (program : NormalForm) → IsWellMade (normal_form source) → IsRunProgram source program → IsWellMade program
run_well_made source program well is =
    let p0 = normal_form source in
    let well' = rewritten_well_made turn_of p0 is.turned well (λ l. turn_well_made p0 l well) is.branches in
    rewritten_well_made lengthen_of is.turned program well' (λ l. lengthen_well_made is.turned l well') is.divisions
