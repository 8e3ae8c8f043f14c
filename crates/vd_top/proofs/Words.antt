-- What the functions that pick outcomes are, and the plans of commands beside one another.
use Rattle.std.proofs.Common.{inl, Bool, Result, Ok, Err, IfOk}
use Rattle.vd_outside.specs.Files.{Contents}
use Rattle.vd_tape.specs.declared.deal_items.deal.Counts.{Counts}
use Rattle.vd_tape.specs.Made.{AreCounts}
use Rattle.vd_cmd.specs.Commands.{AreWithin}
use Rattle.vd_cmd.specs.declared.command.FilesCommand.{FilesCommand}
use Rattle.vd_cmd.specs.declared.command.FilesCommand.TheVariants.{Choose, Draw, Reveals, Compile, Excuse, Needs, Replay, Trial}
use Rattle.vd_cmd_plan.specs.Plans.{IsProper, IsGiven}
use Rattle.vd_cmd_plan.specs.declared.status.Status.{Status}
use Rattle.vd_cmd_plan.specs.declared.answer.Answer.{Answer}
use Rattle.vd_cmd_plan.proofs.Front.{Follows}
use Rattle.vd_cmd_labels.proofs.Front.{some_texts, some_labels}
use Rattle.vd_search_stages.proofs.Front.{some_choices}
use Rattle.vd_cmd_choice.specs.Searching.{Searched, sure_search}
use Rattle.vd_cmd_choice.proofs.Front.{some_certificates}
use Rattle.vd_cmd_choose.proofs.Front.{choose_follows}
use Rattle.vd_cmd_compile.proofs.Front.{compile_follows}
use Rattle.vd_cmd_draw.proofs.Front.{draw_follows, reveals_follows}
use Rattle.vd_cmd_plan.proofs.Front.{some_programs}
use Rattle.vd_cmd_needs.proofs.Front.{needs_follows}
use Rattle.vd_cmd_files.proofs.Front.{some_outcomes as some_replays}
use Rattle.vd_cmd_replay.proofs.Front.{replay_follows}
use Rattle.vd_cmd_excuse.proofs.Front.{excuse_follows}
use Rattle.vd_cmd_trial.proofs.Front.{trial_follows}
use Rattle.vd_cmd_depends.proofs.Front.{some_dependences, some_influences}
use Rattle.vd_top.specs.Commands.{Outcomes, plan_of, search_of}

-- an answer of a proper result may be delivered
pub given : (fits : Bool) (result : Result Answer Status) → IsProper fits result → IfOk result (λ answer. IsGiven answer.status answer.printed)
given fits (Ok answer) proper = proper.0
given fits (Err status) proper = tt

-- there are outcomes
pub some_outcomes : Outcomes
some_outcomes = record { texts = some_texts; labels = some_labels; certificates = some_certificates; choices = some_choices; programs = some_programs; replays = some_replays; dependences = some_dependences; influences = some_influences }

-- the limits of what is dealt are those of what is made
pub are_counts : (counts : Counts) → AreWithin counts → AreCounts counts
are_counts counts within = record { hosts = within.hosts; own = within.own; muls = within.muls; ands = within.ands; pairs = within.pairs }

-- a plan whose search gives up wherever it may ends well only where each other does, or is out of memory
pub command_follows : (outcomes : Outcomes) (searched : Searched) (command : FilesCommand) (files : Contents) → Follows (plan_of outcomes (sure_search outcomes.choices) command files) (plan_of outcomes (search_of outcomes searched) command files)
command_follows outcomes searched (Choose source budget) files = choose_follows outcomes.texts outcomes.labels outcomes.certificates outcomes.choices searched source budget files
command_follows outcomes searched (Draw source budget) files = draw_follows outcomes.texts outcomes.labels outcomes.certificates outcomes.choices searched source budget files
command_follows outcomes searched (Reveals words) files = reveals_follows outcomes.texts outcomes.labels outcomes.certificates outcomes.choices searched words files
command_follows outcomes searched (Compile source prefix budget) files = compile_follows outcomes.texts outcomes.labels outcomes.certificates outcomes.choices searched source prefix budget files
command_follows outcomes searched (Needs words) files = needs_follows outcomes.texts outcomes.programs outcomes.labels outcomes.certificates outcomes.choices searched words files
command_follows outcomes searched (Replay words) files = replay_follows outcomes.texts outcomes.replays outcomes.labels outcomes.certificates outcomes.choices searched words files
command_follows outcomes searched (Excuse words) files = excuse_follows outcomes.texts outcomes.replays outcomes.labels outcomes.certificates outcomes.choices searched words files
command_follows outcomes searched (Trial coordinates) files = trial_follows outcomes.labels outcomes.certificates outcomes.choices searched coordinates files outcomes.texts
command_follows outcomes searched command files = λ e. inl e
