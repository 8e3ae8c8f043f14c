-- A run that ended has printed the answer, and so what the answer shows.
use Rattle.std.proofs.Common.{ℕ, true, List, Option, Some, None, Result, Ok, Err, subst}
use Rattle.vd_outside.specs.Files.{FilesView, Contents}
use Rattle.vd_outside.specs.Sink.{SinkView}
use Rattle.vd_cmd.specs.declared.command.Command.{Command}
use Rattle.vd_cmd.specs.declared.command.Command.TheVariants.{OnFiles, KeyDeal, Early, Host, Check, Run}
use Rattle.vd_cmd.specs.declared.command.FilesCommand.{FilesCommand}
use Rattle.vd_cmd.specs.declared.command.FilesCommand.TheVariants.{Depends, Influences, Needs, Replay, Trial}
use Rattle.vd_cmd.specs.declared.command.NeedsWords.{NeedsWords}
use Rattle.vd_cmd.specs.declared.command.ReplayWords.{ReplayWords}
use Rattle.vd_cmd_plan.specs.Plans.{Executes, Plan}
use Rattle.vd_cmd_plan.specs.Runs.{Finishes}
use Rattle.vd_cmd_plan.specs.declared.answer.Answer.{Answer}
use Rattle.vd_cmd_plan.specs.declared.status.Status.{Status}
use Rattle.vd_cmd_plan.proofs.Front.{completes}
use Rattle.vd_cmd_labels.proofs.Front.{some_texts}
use Rattle.vd_cmd_choice.specs.Searching.{sure_search}
use Rattle.vd_cmd_choice.proofs.Front.{some_certificates}
use Rattle.vd_search_stages.proofs.Front.{some_choices}
use Rattle.vd_cmd_plan.proofs.Front.{some_programs}
use Rattle.vd_cmd_files.proofs.Front.{some_outcomes as some_replays}
use Rattle.vd_cmd_laws.proofs.Front.{ended, never, printed}
use Rattle.vd_cmd_replay.proofs.Front.{ends_well}
use Rattle.vd_cmd_depends.proofs.Front.{some_dependences, some_influences}
use Rattle.vd_top.specs.Commands.{CompletesForm, CompletesWords, Outcomes, RunsForm, plan_of, search_of}
use Rattle.vd_top.specs.Counts.{CountedBy, CountsOf}
use Rattle.vd_top.specs.Headline.{KeepsAccepted, ShowsOf, TellsOf}
use Rattle.vd_top.proofs.Trials.{run_ends}
use Rattle.vd_top.proofs.Words.{command_follows}

module _ (plan : Contents → Plan) (before mid now : FilesView) (out_before out_now : SinkView) where
  headline : (words : ReplayWords) (came : Result Answer Status) (status : Status) → Executes true plan before mid came → Finishes came mid now out_before out_now status → TellsOf (Replay words) before came
      → ShowsOf (Replay words) before out_before out_now status
  headline words (Ok answer) status w finishes tells = λ t o e.
      let p = printed plan before mid now out_before out_now answer status w finishes t o e in
      record { printed = answer.printed; added = p.1; headline = tells t p.0 }
  headline words (Err came) status w finishes tells = λ t o e. absurd (never plan before mid now out_before out_now came status w finishes t e)

  dependence : (source : List ℕ) (names : List (List ℕ)) (came : Result Answer Status) (status : Status) → Executes true plan before mid came → Finishes came mid now out_before out_now status → TellsOf (Depends source names) before came
      → ShowsOf (Depends source names) before out_before out_now status
  dependence source names (Ok answer) status w finishes tells = λ t o e.
      let p = printed plan before mid now out_before out_now answer status w finishes t o e in
      record { printed = answer.printed; added = p.1; dependence = tells t p.0 }
  dependence source names (Err came) status w finishes tells = λ t o e. absurd (never plan before mid now out_before out_now came status w finishes t e)

  influence : (source name : List ℕ) (came : Result Answer Status) (status : Status) → Executes true plan before mid came → Finishes came mid now out_before out_now status → TellsOf (Influences source name) before came
      → ShowsOf (Influences source name) before out_before out_now status
  influence source name (Ok answer) status w finishes tells = λ t o e.
      let p = printed plan before mid now out_before out_now answer status w finishes t o e in
      record { printed = answer.printed; added = p.1; influence = tells t p.0 }
  influence source name (Err came) status w finishes tells = λ t o e. absurd (never plan before mid now out_before out_now came status w finishes t e)

  needs : (words : NeedsWords) (came : Result Answer Status) (status : Status) → Executes true plan before mid came → Finishes came mid now out_before out_now status → TellsOf (Needs words) before came
      → ShowsOf (Needs words) before out_before out_now status
  needs words (Ok answer) status w finishes tells = λ t o e.
      let p = printed plan before mid now out_before out_now answer status w finishes t o e in
      record { printed = answer.printed; added = p.1; needs = tells t p.0 }
  needs words (Err came) status w finishes tells = λ t o e. absurd (never plan before mid now out_before out_now came status w finishes t e)

  trial : (coordinates : ℕ) (came : Result Answer Status) (status : Status) → Executes true plan before mid came → Finishes came mid now out_before out_now status → TellsOf (Trial coordinates) before came
      → ShowsOf (Trial coordinates) before out_before out_now status
  trial coordinates (Ok answer) status w finishes tells = λ t. (
    run_ends mid now out_before out_now (w.still_told t) (Ok answer) status w.proper tells.1 finishes,
    λ o e.
        let p = printed plan before mid now out_before out_now answer status w finishes t o e in
        record { printed = answer.printed; added = p.1; trial = tells.0 p.0 },
  )
  trial coordinates (Err came) status w finishes tells = λ t. (
    run_ends mid now out_before out_now (w.still_told t) (Err came) status w.proper tells.1 finishes,
    λ o e. absurd (never plan before mid now out_before out_now came status w finishes t e),
  )

  count : (words : ReplayWords) (packets : Option ℕ) (came : Result Answer Status) (status : Status) → Executes true plan before mid came → Finishes came mid now out_before out_now status → CountsOf (Replay words) before packets came
      → CountedBy (Replay words) before packets status
  count words packets (Ok answer) status w finishes counts = λ t e. counts t (ended plan before mid now out_before out_now answer status w finishes t e)
  count words packets (Err came) status w finishes counts = λ t e. absurd (never plan before mid now out_before out_now came status w finishes t e)

  -- what the answer of a command counts, its run counts
  pub counted : (command : FilesCommand) (packets : Option ℕ) (came : Result Answer Status) (status : Status) → Executes true plan before mid came → Finishes came mid now out_before out_now status → CountsOf command before packets came
      → CountedBy command before packets status
  counted (Replay words) packets came status w finishes counts = count words packets came status w finishes counts
  counted command packets came status w finishes counts = tt

  -- what the answer of a command shows, its run shows
  pub shows : (command : FilesCommand) (came : Result Answer Status) (status : Status) → Executes true plan before mid came → Finishes came mid now out_before out_now status → TellsOf command before came
      → ShowsOf command before out_before out_now status
  shows (Replay words) came status w finishes tells = headline words came status w finishes tells
  shows (Depends source names) came status w finishes tells = dependence source names came status w finishes tells
  shows (Influences source name) came status w finishes tells = influence source name came status w finishes tells
  shows (Needs words) came status w finishes tells = needs words came status w finishes tells
  shows (Trial coordinates) came status w finishes tells = trial coordinates came status w finishes tells
  shows command came status w finishes tells = tt

module _ (before now : FilesView) (out_before out_now : SinkView) (status : Status) where
  -- what was run by the plan of some search is complete
  pub complete : (form : Option Command) → RunsForm form before now out_before out_now status → CompletesForm form before now out_before out_now status
  complete None runs = tt
  complete (Some (OnFiles command)) runs = λ outcomes.
      completes true (plan_of outcomes (search_of outcomes runs.0) command) (plan_of outcomes (sure_search outcomes.choices) command) before now out_before out_now status (runs.1 outcomes)
      (command_follows outcomes runs.0 command before.contents)
  complete (Some (KeyDeal words)) runs = tt
  complete (Some (Early words)) runs = tt
  complete (Some (Host words)) runs = tt
  complete (Some (Check words)) runs = tt
  complete (Some (Run words)) runs = tt

  pub accepted : (words : List (List ℕ)) → CompletesWords words before now out_before out_now status → KeepsAccepted words before now out_before out_now status
  accepted words completes_words = λ replay form t is quiet out_quiet.
      let well = ends_well replay before.contents is in
      let outcomes : Outcomes = record { texts = some_texts; labels = well.0; certificates = some_certificates; choices = some_choices; programs = some_programs; replays = some_replays; dependences = some_dependences; influences = some_influences } in
      (subst (λ (f : Option Command). CompletesForm f before now out_before out_now status) form completes_words) outcomes t quiet out_quiet (well.1 some_texts some_replays some_choices)
