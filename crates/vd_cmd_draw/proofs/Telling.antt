-- Where the plan of `draw` ends well, it prints the drawing of the choice.
use Rattle.std.proofs.Common.{◌≡◌, ℕ, Option, Some, None, List, refl, sym, ap, ◌∙◌, subst, pos}
use Rattle.std.specs.Prelude.{option_map}
use Rattle.vd_outside.specs.Files.{Contents}
use Rattle.vd_core.specs.declared.normal.NormalForm.{NormalForm}
use Rattle.vd_core.specs.declared.source.Source.{Source}
use Rattle.vd_core.specs.Facts.{IsWellMade}
use Rattle.vd_constraints.specs.Rules.{system_of}
use Rattle.vd_constraints.specs.Satisfies.{IsLeast}
use Rattle.vd_constraints.specs.declared.labels.Labels.{Labels}
use Rattle.vd_cmd_rewrite.specs.RunPrograms.{IsRunProgram}
use Rattle.vd_cmd_rewrite.proofs.Front.{run_well_made}
use Rattle.vd_space.proofs.Front.{cheapest}
use Rattle.vd_search.specs.Answers.{nat_or_zero}
use Rattle.vd_search_stages.specs.Choices.{IsChosen}
use Rattle.vd_search_stages.specs.Optimum.{assigned}
use Rattle.vd_search_stages.proofs.Front.{optimal_at}
use Rattle.vd_space.specs.declared.problem.Problem.{Problem}
use Rattle.vd_space.specs.Reading.{problem_of}
use Rattle.vd_space.proofs.Front.{is_problem}
use Rattle.vd_cmd_plan.specs.Labelled.{labelled_form}
use Rattle.vd_cmd_plan.specs.Plans.{answer_then}
use Rattle.vd_cmd_plan.specs.declared.answer.Answer.{Answer}
use Rattle.vd_cmd_plan.specs.declared.status.Status.TheVariants.{Ended, NoAssignment}
use Rattle.vd_cmd_labels.specs.Sources.{HoldsSource}
use Rattle.vd_cmd_choice.specs.Choice.{assigned_answer, chosen_by}
use Rattle.vd_cmd_laws.proofs.Front.{source_choice_came, answered, made_of}
use Rattle.vd_draw_rows.proofs.Front.{add_up}
use Rattle.vd_cmd_draw.specs.Drawing.{drawn_answer, drawn_for}
use Rattle.vd_cmd_draw.specs.Telling.{DrawingsTell, TellsDrawing}

module _ (name : List ℕ) (contents : Contents) (source : Source) (held : HoldsSource name contents source) (program : NormalForm) (is_run : IsRunProgram source program) (labels : Labels) (least : IsLeast (system_of program) labels) where
  abbrev problem : Problem
  problem = problem_of program labels

  told : (choice : Option (List ℕ)) → IsChosen problem choice → (answer : Answer) → answer ≡ assigned_answer (labelled_form program labels) (drawn_answer name held.bytes program labels) (option_map (assigned problem) choice) → answer.status ≡ Ended
      → TellsDrawing name contents answer.printed
  told None chosen answer is ends = let wrong : NoAssignment (labelled_form program labels) ≡ Ended = sym (ap (λ (x : Answer). x.status) is) ∙ ends in absurd (cc wrong)
  told (Some list) chosen answer is ends =
      let made : IsWellMade program = run_well_made source program (made_of name contents source held) is_run in
      let best = cheapest problem list (is_problem program labels made) chosen in
      let a = assigned problem list in
      let sum = add_up held.bytes program labels a.protocols made (record { places = list; is_valid = best.is_valid; named = refl }) in
      let rows = ap nat_or_zero sum in
      subst (λ (x : Answer). TellsDrawing name contents x.printed) (sym is) (record {
        source = source;
        held = held;
        program = program;
        is_run = is_run;
        assignment = a;
        selected = record { labels = labels; least = least; optimal = optimal_at problem list best (sym sum ∙ ap pos rows) };
        picture = refl;
        costs = rows;
      })

pub drawings_tell : DrawingsTell
drawings_tell texts least certificates choices searched name budget contents ends =
    let came = source_choice_came contents certificates choices searched texts least name budget (λ text c. answer_then (drawn_for name text c)) ends in
    let step = came.step in
    let problem : Problem = problem_of came.program step.labels in
    told name contents came.source came.held came.program came.is_run step.labels step.is_least (choices.choose problem) (choices.choose_is problem) _
    (came.leads ∙ answered contents (drawn_for name came.held.bytes (chosen_by choices came.program step.labels step.bytes))) ends
