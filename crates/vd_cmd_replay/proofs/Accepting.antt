-- The plan of accepted files ends well.
use Rattle.std.proofs.Common.{◌≡◌, ℕ, ◌≤◌, false, Option, Some, None, List, [], length, Result, Ok, refl, sym, ap, subst, arith, ℤ}
use Rattle.std.specs.Prelude.{nat_lt, option_map}
use Rattle.std.proofs.lemmas.Bool.Decides.{nat_tests}
use Rattle.vd_base.specs.Limits.{most_hosts}
use Rattle.vd_outside.specs.Files.{Contents}
use Rattle.vd_core.specs.declared.normal.NormalForm.{NormalForm}
use Rattle.vd_core.specs.declared.source.Source.{Source}
use Rattle.vd_core.specs.Facts.{IsWellMade}
use Rattle.vd_parser.proofs.Front.{names_are_names}
use Rattle.vd_elaborate.proofs.Front.{well_made}
use Rattle.vd_elaborate.specs.Normal.{normal_form}
use Rattle.vd_cmd_rewrite.proofs.Front.{run_once, run_well_made}
use Rattle.vd_cmd.specs.declared.command.ReplayWords.{ReplayWords}
use Rattle.vd_constraints.specs.Rules.{system_of}
use Rattle.vd_constraints.specs.declared.labels.Labels.{Labels}
use Rattle.vd_solver.proofs.Front.{system_or_not}
use Rattle.vd_tape.specs.Validity.{AreDeals}
use Rattle.vd_tape.specs.declared.deal_items.deal.Deal.{Deal}
use Rattle.vd_channel_crypto.specs.declared.deal_keys.secrets.Secrets.{Secrets}
use Rattle.vd_tape.specs.Text.{AreDealsOf, IsDealOf}
use Rattle.vd_tape.proofs.Front.{all_deals}
use Rattle.vd_deal_versions.specs.Text.{Fit_by}
use Rattle.vd_space.specs.declared.problem.Problem.{Problem}
use Rattle.vd_space.specs.Reading.{problem_of}
use Rattle.vd_space.proofs.Front.{is_problem}
use Rattle.vd_space.specs.Usual.{firm}
use Rattle.vd_space.proofs.Front.{back, places_cheapest}
use Rattle.vd_search_stages.specs.Choices.{ChoiceOutcomes, IsChosen, needed}
use Rattle.vd_search_stages.specs.Optimum.{assigned, assignment_of}
use Rattle.vd_search_stages.specs.declared.optimum.Assignment.{Assignment}
use Rattle.vd_search_stages.proofs.Front.{chosen_once}
use Rattle.vd_cmd_labels.specs.Labelling.{as_labels, labels_of}
use Rattle.vd_cmd_choice.specs.Choice.{Chosen, as_searched, chosen_by, search_then}
use Rattle.vd_cmd_choice.specs.Searching.{sure_search}
use Rattle.vd_cmd_plan.specs.Labelled.{labelled_form}
use Rattle.vd_cmd_plan.specs.Plans.{Plan}
use Rattle.vd_cmd_files.proofs.Front.{judged_once}
use Rattle.vd_cmd_replay.specs.Accepting.{EndsWell, IsAccepted}
use Rattle.vd_cmd_files.specs.Asking.{HoldAsked}
use Rattle.vd_cmd_files.specs.Deals.{as_consistent}
use Rattle.vd_cmd_replay.specs.Replaying.{asked_plan, assignment_plan, choice_plan, program_plan, report_for}
use Rattle.vd_cmd_replay.proofs.Steps.{Ends, answer_ends, asked_ends, check_ends, labels_for, labels_with_these, program_ends}

-- ---- the choice

enough_for : (needs budget : ℕ) → needs ≤ budget → nat_lt budget needs ≡ false
enough_for needs budget le = grind (arith, nat_tests)

searched : (choices : ChoiceOutcomes) (problem : Problem) (budget : ℕ) (list : List ℕ) → choices.choose problem ≡ Some list → needed problem (Some list) ≤ budget → sure_search choices problem budget ≡ Ok []
searched choices problem budget list is enough =
    let room : nat_lt budget (needed problem (choices.choose problem)) ≡ false = enough_for (needed problem (choices.choose problem)) budget (subst (λ (o : Option (List ℕ)). needed problem o ≤ budget) (sym is) enough) in
    rw room refl

-- the deal of a file of either version is one of so many hosts
is_deal : (hosts me : ℕ) (deal : Deal) (secrets : Option Secrets) → Fit_by hosts me deal secrets → IsDealOf hosts me deal
is_deal hosts me deal None fits = fits
is_deal hosts me deal (Some secrets) fits = fits.0

module _ (words : ReplayWords) (contents : Contents) (accepted : IsAccepted words contents) where
  abbrev source : Source
  source = accepted.held.source

  abbrev program : NormalForm
  program = accepted.program

  source_made : IsWellMade (normal_form source)
  source_made = well_made source accepted.held.is_source.holds.meets (names_are_names accepted.held.is_source.bytes source accepted.held.is_source.holds.parsed)

  made : IsWellMade program
  made = run_well_made source program source_made accepted.is_run

  are_asked : HoldAsked words program.hosts contents accepted.held.asked
  are_asked = subst (λ (hosts : List (List ℕ)). HoldAsked words hosts contents accepted.held.asked) (sym accepted.is_run.hosts) accepted.held.are_asked

  abbrev problem : Problem
  problem = problem_of program accepted.selected.labels

  few : length program.hosts ≤ most_hosts
  few = made.limits.hosts

  abbrev places : List ℕ
  places = accepted.selected.optimal.cheapest.valid.places

  -- the places of its protocols are the choice of the problem's tree
  chosen : IsChosen problem (Some places)
  chosen = back problem places (is_problem program accepted.selected.labels made) (places_cheapest problem accepted.assignment.protocols accepted.selected.optimal.cheapest)

  -- for which the budget is enough
  enough : needed problem (Some places) ≤ words.budget
  enough = subst (λ (z : ℤ). firm problem z ≤ words.budget) (sym accepted.selected.optimal.costs) accepted.enough

  are_deals : AreDeals accepted.held.asked.deals
  are_deals =
      let all = are_asked.all in
      let limit = few in
      let of_hosts : AreDealsOf (length program.hosts) accepted.held.asked.deals = λ number deal e. let held = (are_asked.deals number deal e).holds in is_deal (length program.hosts) number deal held.0 held.1.0 in
      all_deals accepted.held.asked.deals (omega (arith, all, limit)) (subst (λ (n : ℕ). AreDealsOf n accepted.held.asked.deals) (sym all) of_hosts)

  pub ends_well : EndsWell words contents
  ends_well = (
    labels_for accepted.selected.labels,
    λ texts outcomes choices.
        let least = labels_for accepted.selected.labels in
        let labelled = labels_with_these accepted.selected.labels (system_of program) (system_or_not (system_of program)) accepted.selected.least in
        let choice : choices.choose problem ≡ Some places = chosen_once problem (choices.choose problem) (Some places) (choices.choose_is problem) chosen in
        let judged = judged_once accepted.held.asked.deals (outcomes.judge accepted.held.asked.deals) None (outcomes.judge_is accepted.held.asked.deals are_deals) accepted.consistent in
        let rest : Chosen → Contents → Plan = λ c. choice_plan outcomes accepted.held.asked (labelled_form c.program c.labels) c.assignment in
        let a : Assignment = assigned problem places in
        let listed : Ends contents (assignment_plan outcomes accepted.held.asked program a) =
        check_ends contents (as_consistent (outcomes.judge accepted.held.asked.deals)) tt _ (ap as_consistent judged) (answer_ends contents (report_for program a.protocols accepted.held.asked)) in
        let ends : Ends contents (choice_plan outcomes accepted.held.asked (labelled_form program accepted.selected.labels) (assignment_of choices problem)) =
        subst (λ (o : Option (List ℕ)). Ends contents (choice_plan outcomes accepted.held.asked (labelled_form program accepted.selected.labels) (option_map (assigned problem) o))) (sym choice) listed in
        program_ends contents texts least words.source source (program_plan texts outcomes least choices (sure_search choices) words) accepted.held.is_source
        (subst (λ (p : NormalForm). Ends contents (program_plan texts outcomes least choices (sure_search choices) words p)) (run_once source program source_made accepted.is_run least)
        (asked_ends contents outcomes texts words program.hosts accepted.held.asked (asked_plan outcomes least choices (sure_search choices) words.budget program) few are_asked
        (check_ends contents (labels_of least program) accepted.selected.labels (λ l. search_then choices (sure_search choices) words.budget program l rest) (ap (λ (r : Result Labels ℕ). as_labels least program r) labelled)
        (check_ends contents (as_searched words.budget (labelled_form program accepted.selected.labels) (sure_search choices problem words.budget)) [] (λ (bytes : List ℕ). rest (chosen_by choices program accepted.selected.labels bytes))
        (ap (as_searched words.budget (labelled_form program accepted.selected.labels)) (searched choices problem words.budget places choice enough)) ends)))),
  )
