-- How many packets the hosts of a `replay` sent to one another.
use Rattle.std.specs.Prelude.{◌≡◌, ℕ, Bool, true, false, IsTrue, List, Option, Some, Result}
use Rattle.vd_outside.specs.Files.{FilesView}
use Rattle.vd_cmd.specs.Commands.{form_of}
use Rattle.vd_cmd.specs.declared.command.Command.{Command}
use Rattle.vd_cmd.specs.declared.command.Command.TheVariants.{OnFiles}
use Rattle.vd_cmd.specs.declared.command.FilesCommand.{FilesCommand}
use Rattle.vd_cmd.specs.declared.command.FilesCommand.TheVariants.{Replay}
use Rattle.vd_cmd.specs.declared.command.ReplayWords.{ReplayWords}
use Rattle.vd_cmd_plan.specs.declared.answer.Answer.{Answer}
use Rattle.vd_cmd_plan.specs.declared.status.Status.{Status}
use Rattle.vd_cmd_plan.specs.declared.status.Status.TheVariants.{Ended}
use Rattle.vd_cmd_replay.specs.Counting.{CountsReplay, IsReplayCount}

-- whether a command is the one that counts packets
abbrev pub counts_packets_by : Option Command → Bool
counts_packets_by (Some (OnFiles (Replay words))) = true
counts_packets_by other = false

abbrev pub counts_packets : List (List ℕ) → Bool
counts_packets words = counts_packets_by (form_of words)

-- Where the words are those of `replay`, and the files tell what they hold, a run with status 0 has counted the packets that the hosts
-- of the source sent to one another in the run that was reported.
abbrev pub KeepsCount : (words : List (List ℕ)) → FilesView → (packets : Option ℕ) → Status → Type 0
KeepsCount words before packets status =
    (replay : ReplayWords) → form_of words ≡ Some (OnFiles (Replay replay)) → IsTrue before.told → status ≡ Ended → IsReplayCount replay before.contents packets

-- ---- the same of a command: its answer, and its run

abbrev pub CountsOf : FilesCommand → FilesView → Option ℕ → Result Answer Status → Type 0
CountsOf (Replay words) before packets result = CountsReplay words before packets result
CountsOf command before packets result = Unit {0}

abbrev pub CountedBy : FilesCommand → FilesView → Option ℕ → Status → Type 0
CountedBy (Replay words) before packets status = IsTrue before.told → status ≡ Ended → IsReplayCount words before.contents packets
CountedBy command before packets status = Unit {0}

abbrev pub CountedForm : Option Command → FilesView → Option ℕ → Status → Type 0
CountedForm (Some (OnFiles command)) before packets status = CountedBy command before packets status
CountedForm other before packets status = Unit {0}
