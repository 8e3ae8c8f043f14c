-- Where the plan of `reveals` ends well, it prints the lines of the hosts that are asked for at the choice.
use Rattle.std.proofs.Common.{◌≡◌, ℕ, Option, Some, None, List, Result, Ok, Err, refl, sym, ap, ◌∙◌, subst, pos}
use Rattle.std.specs.Prelude.{option_map}
use Rattle.std.specs.Option.{option_map_or}
use Rattle.vd_base.specs.declared.ids.HostId.{HostId}
use Rattle.vd_base.specs.HostSets.{host}
use Rattle.vd_outside.specs.Files.{Contents}
use Rattle.vd_core.specs.declared.normal.NormalForm.{NormalForm}
use Rattle.vd_core.specs.declared.source.Source.{Source}
use Rattle.vd_core.specs.Facts.{IsWellMade}
use Rattle.vd_constraints.specs.Rules.{system_of}
use Rattle.vd_constraints.specs.Satisfies.{IsLeast}
use Rattle.vd_constraints.specs.declared.labels.Labels.{Labels}
use Rattle.vd_cmd_rewrite.specs.RunPrograms.{IsRunProgram}
use Rattle.vd_cmd_rewrite.proofs.Front.{run_well_made}
use Rattle.vd_space.proofs.Front.{cheapest}
use Rattle.vd_search.specs.Answers.{nat_or_zero}
use Rattle.vd_search_stages.specs.Choices.{IsChosen}
use Rattle.vd_search_stages.specs.Optimum.{assigned}
use Rattle.vd_search_stages.proofs.Front.{optimal_at}
use Rattle.vd_space.specs.declared.problem.Problem.{Problem}
use Rattle.vd_space.specs.Reading.{problem_of}
use Rattle.vd_space.proofs.Front.{is_problem}
use Rattle.vd_report.specs.Hosts.{host_of}
use Rattle.vd_cmd.specs.declared.command.RevealsWords.{RevealsWords}
use Rattle.vd_cmd_plan.specs.Labelled.{labelled_form}
use Rattle.vd_cmd_plan.specs.Plans.{answer_then}
use Rattle.vd_cmd_plan.specs.declared.answer.Answer.{Answer}
use Rattle.vd_cmd_plan.specs.declared.status.Status.{Status}
use Rattle.vd_cmd_plan.specs.declared.status.Status.TheVariants.{Ended, NoAssignment, NoHost}
use Rattle.vd_cmd_labels.specs.Sources.{HoldsSource}
use Rattle.vd_cmd_choice.specs.Choice.{assigned_answer, chosen_by}
use Rattle.vd_cmd_laws.proofs.Front.{answered, check_came, made_of, source_choice_came}
use Rattle.vd_noninter_protocols.proofs.Front.{new_words_tell}
use Rattle.vd_draw_rows.proofs.Front.{add_up}
use Rattle.vd_cmd_draw.specs.Revealing.{alone, asked_hosts, asked_then, revealed_answer, revealed_for}
use Rattle.vd_cmd_draw.specs.RevealsTelling.{RevealsTell, TellsReveals}

-- no refusal of a name ends well
no_end : (name : List ℕ) (place : Option ℕ) (status : Status) → alone (option_map_or (λ n. Ok (host n)) place (Err (NoHost name))) ≡ Err status → status ≡ Ended → ⊥
no_end name (Some n) status is ends = cc is
no_end name None status is ends = let wrong : NoHost name ≡ Ended = ap (λ (r : Result (List HostId) Status). err_or r) is ∙ ends in cc wrong
  where
    err_or : Result (List HostId) Status → Status
    err_or (Ok l) = Ended
    err_or (Err s) = s

never : (names : List (List ℕ)) (word : Option (List ℕ)) (status : Status) → asked_hosts names word ≡ Err status → status ≡ Ended → ⊥
never names None status is ends = cc is
never names (Some name) status is ends = no_end name (host_of names name) status is ends

module _ (words : RevealsWords) (contents : Contents) (source : Source) (held : HoldsSource words.source contents source) (program : NormalForm) (is_run : IsRunProgram source program) (labels : Labels) (least : IsLeast (system_of program) labels) where
  abbrev problem : Problem
  problem = problem_of program labels

  told : (asked : List HostId) → asked_hosts program.hosts words.host ≡ Ok asked → (choice : Option (List ℕ)) → IsChosen problem choice → (answer : Answer)
      → answer ≡ assigned_answer (labelled_form program labels) (revealed_answer held.bytes program asked) (option_map (assigned problem) choice) → answer.status ≡ Ended → TellsReveals words contents answer.printed
  told asked are None chosen answer is ends = let wrong : NoAssignment (labelled_form program labels) ≡ Ended = sym (ap (λ (x : Answer). x.status) is) ∙ ends in absurd (cc wrong)
  told asked are (Some list) chosen answer is ends =
      let made : IsWellMade program = run_well_made source program (made_of words.source contents source held) is_run in
      let best = cheapest problem list (is_problem program labels made) chosen in
      let a = assigned problem list in
      let sum = add_up held.bytes program labels a.protocols made (record { places = list; is_valid = best.is_valid; named = refl }) in
      let rows = ap nat_or_zero sum in
      subst (λ (x : Answer). TellsReveals words contents x.printed) (sym is) (record {
        source = source;
        held = held;
        program = program;
        is_run = is_run;
        assignment = a;
        selected = record { labels = labels; least = least; optimal = optimal_at problem list best (sym sum ∙ ap pos rows) };
        asked = asked;
        are_asked = are;
        lines = refl;
        enough = λ numbers h. new_words_tell program labels a.protocols (record { made = made; numbers = numbers; assignment = record { places = list; is_valid = best.is_valid; named = refl } }) h;
      })

pub reveals_told : RevealsTell
reveals_told texts least certificates choices searched words contents ends =
    let came = source_choice_came contents certificates choices searched texts least words.source words.budget (asked_then words.host) ends in
    let step = came.step in
    let problem : Problem = problem_of came.program step.labels in
    let c = chosen_by choices came.program step.labels step.bytes in
    let whole_ends = sym (ap (λ (a : Answer). a.status) came.leads) ∙ ends in
    let found = check_came contents (asked_hosts came.program.hosts words.host) (λ asked. answer_then (revealed_for asked came.held.bytes c)) (never came.program.hosts words.host) whole_ends in
    told words contents came.source came.held came.program came.is_run step.labels step.is_least found.0 found.1 (choices.choose problem) (choices.choose_is problem) _
    (came.leads ∙ found.2 ∙ answered contents (revealed_for found.0 came.held.bytes c)) ends
