-- What a run of `replay` has shown, one of `excuse`, one of `depends`, one of `influences`, one of `needs` and one of `trial`, where it ended.
use Rattle.std.specs.Prelude.{◌≡◌, ◌⊎◌, ℕ, IsTrue, List, ◌++◌, Option, Some, Result}
use Rattle.vd_outside.specs.Causes.{Rose}
use Rattle.vd_outside.specs.Files.{FilesView}
use Rattle.vd_outside.specs.Sink.{SinkView}
use Rattle.vd_outside.specs.declared.stored.Stored.{Stored}
use Rattle.vd_cmd.specs.Commands.{form_of}
use Rattle.vd_cmd.specs.declared.command.Command.{Command}
use Rattle.vd_cmd.specs.declared.command.Command.TheVariants.{OnFiles}
use Rattle.vd_cmd.specs.declared.command.FilesCommand.{FilesCommand}
use Rattle.vd_cmd.specs.declared.command.FilesCommand.TheVariants.{Compile, Depends, Excuse, Influences, Needs, Replay, Trial}
use Rattle.vd_cmd.specs.declared.command.ExcuseWords.{ExcuseWords}
use Rattle.vd_cmd.specs.declared.command.NeedsWords.{NeedsWords}
use Rattle.vd_cmd.specs.declared.command.ReplayWords.{ReplayWords}
use Rattle.vd_cmd_plan.specs.Deliver.{stored}
use Rattle.vd_cmd_plan.specs.declared.answer.Answer.{Answer}
use Rattle.vd_cmd_plan.specs.declared.status.Status.{Status}
use Rattle.vd_cmd_plan.specs.declared.status.Status.TheVariants.{Ended, Memory}
use Rattle.vd_cmd_compile.specs.Telling.{TellsSource}
use Rattle.vd_cmd_depends.specs.Telling.{IsDependenceOf, TellsDependence}
use Rattle.vd_cmd_depends.specs.Influencing.{IsInfluenceOf, TellsInfluence}
use Rattle.vd_cmd_excuse.specs.Telling.{IsExcuseBy, TellsExcuse}
use Rattle.vd_cmd_needs.specs.Telling.{IsNeeds, TellsNeeds}
use Rattle.vd_cmd_replay.specs.Accepting.{IsAccepted}
use Rattle.vd_cmd_replay.specs.Telling.{IsHeadline, TellsHeadline}
use Rattle.vd_cmd_trial.specs.Telling.{AnswersTrial, EndsTrial, IsTrial, TellsTrial}

-- the bytes that were added are the report of which the headline speaks
pub record PrintsHeadline (words : ReplayWords) (before : FilesView) (out_before out_now : SinkView) : Type 0 where
  pub printed : List ℕ
  pub added : out_now.taken ≡ out_before.taken ++ printed
  pub headline : IsHeadline words before.contents printed

-- The headline of these words: where they are those of `replay`, and the files and the output tell what they hold, a run with
-- status 0 has printed such a report, and nothing else.
abbrev pub KeepsHeadline : (words : List (List ℕ)) → FilesView → SinkView → SinkView → Status → Type 0
KeepsHeadline words before out_before out_now status =
    (replay : ReplayWords) → form_of words ≡ Some (OnFiles (Replay replay)) → IsTrue before.told → IsTrue out_now.told → status ≡ Ended
    → PrintsHeadline replay before out_before out_now

-- Where the words are those of `replay`, and the files are accepted, the run ends with status 0 or is out of memory, unless
-- something outside fails.
abbrev pub KeepsAccepted : (words : List (List ℕ)) → (before now : FilesView) → (out_before out_now : SinkView) → Status → Type 0
KeepsAccepted words before now out_before out_now status =
    (replay : ReplayWords) → form_of words ≡ Some (OnFiles (Replay replay)) → IsTrue before.told → IsAccepted replay before.contents
    → (Rose before.faults now.faults → ⊥) → (Rose out_before.faults out_now.faults → ⊥) → (status ≡ Ended) ⊎ (status ≡ Memory)

-- the bytes that were added are a line that names the hosts on which some host of these names depends
pub record PrintsDependence (source : List ℕ) (names : List (List ℕ)) (before : FilesView) (out_before out_now : SinkView) : Type 0 where
  pub printed : List ℕ
  pub added : out_now.taken ≡ out_before.taken ++ printed
  pub dependence : IsDependenceOf source names before.contents printed

-- Where the words are those of `depends`, and the files and the output tell what they hold, a run with status 0 has printed the
-- hosts whose inputs alone can bear on the outputs to some host of these names, and on the clear words that come to it at any valid
-- assignment of protocols, outside of what is declassified to it.
abbrev pub KeepsDependence : (words : List (List ℕ)) → FilesView → SinkView → SinkView → Status → Type 0
KeepsDependence words before out_before out_now status =
    (source : List ℕ) (names : List (List ℕ)) → form_of words ≡ Some (OnFiles (Depends source names)) → IsTrue before.told → IsTrue out_now.told → status ≡ Ended
    → PrintsDependence source names before out_before out_now

-- the bytes that were added are a line that names the hosts whose inputs bear on what the host of this name is told
pub record PrintsInfluence (source name : List ℕ) (before : FilesView) (out_before out_now : SinkView) : Type 0 where
  pub printed : List ℕ
  pub added : out_now.taken ≡ out_before.taken ++ printed
  pub influence : IsInfluenceOf source name before.contents printed

-- Where the words are those of `influences`, and the files and the output tell what they hold, a run with status 0 has printed the
-- hosts whose inputs alone can bear on the host's outputs, and those of them that can do so through endorsements alone: all
-- others have an integrity that acts for that of the host.
abbrev pub KeepsInfluence : (words : List (List ℕ)) → FilesView → SinkView → SinkView → Status → Type 0
KeepsInfluence words before out_before out_now status =
    (source name : List ℕ) → form_of words ≡ Some (OnFiles (Influences source name)) → IsTrue before.told → IsTrue out_now.told → status ≡ Ended
    → PrintsInfluence source name before out_before out_now

-- the bytes that were added tell what the hosts of a source take, or tell each other, or the host of a program
pub record PrintsNeeds (words : NeedsWords) (before : FilesView) (out_before out_now : SinkView) : Type 0 where
  pub printed : List ℕ
  pub added : out_now.taken ≡ out_before.taken ++ printed
  pub needs : IsNeeds words before.contents printed

-- Where the words are those of `needs` or `rounds`, and the files and the output tell what they hold, a run with status 0 has printed how much to
-- deal for the source: every deal of these sizes suffices for all inputs under every schedule, and where no branch takes differently
-- no smaller one does; or what each host tells each other one, at least and at most. Of the program of a host it has printed what that
-- host takes at most, or tells.
abbrev pub KeepsNeeds : (words : List (List ℕ)) → FilesView → SinkView → SinkView → Status → Type 0
KeepsNeeds words before out_before out_now status =
    (needs : NeedsWords) → form_of words ≡ Some (OnFiles (Needs needs)) → IsTrue before.told → IsTrue out_now.told → status ≡ Ended
    → PrintsNeeds needs before out_before out_now

-- the bytes that were added are what the other host sends, and these files were stored
pub record PrintsExcuse (words : ExcuseWords) (before now : FilesView) (out_before out_now : SinkView) : Type 0 where
  pub printed : List ℕ
  pub added : IsTrue out_now.told → out_now.taken ≡ out_before.taken ++ printed
  pub files : List Stored
  pub kept : now.contents ≡ stored files before.contents
  pub excuse : IsExcuseBy words before.contents files printed

-- Where the words are those of `excuse`, and the files tell what they hold, a run with status 0 has stored deals by which the host sees
-- of the second inputs what it saw of the first, and has printed what the other host sends it in both runs.
abbrev pub KeepsExcuse : (words : List (List ℕ)) → (before now : FilesView) → (out_before out_now : SinkView) → Status → Type 0
KeepsExcuse words before now out_before out_now status =
    (excuse : ExcuseWords) → form_of words ≡ Some (OnFiles (Excuse excuse)) → IsTrue before.told → status ≡ Ended → PrintsExcuse excuse before now out_before out_now

-- the bytes that were added are the cost of the choice for the generated source, and the report of its run, in which all hosts end
pub record PrintsTrial (coordinates : ℕ) (out_before out_now : SinkView) : Type 0 where
  pub printed : List ℕ
  pub added : out_now.taken ≡ out_before.taken ++ printed
  pub trial : IsTrial coordinates printed

-- The status is one with which a trial ends, so never a refusal of its source for its text, names, kinds or limits. With status 0,
-- where the output tells what it holds, the cost was printed and the report, by which all hosts have ended.
abbrev pub ShowsTrial : (coordinates : ℕ) → SinkView → SinkView → Status → Type 0
ShowsTrial coordinates out_before out_now status = EndsTrial status × (IsTrue out_now.told → status ≡ Ended → PrintsTrial coordinates out_before out_now)

-- Where the words are those of `trial`, and the files tell what they hold, the source with this many coordinates is not refused, and
-- a run with status 0 has printed the cost of the choice of protocols for it, and the report of a run of it in which all hosts end.
abbrev pub KeepsTrial : (words : List (List ℕ)) → FilesView → SinkView → SinkView → Status → Type 0
KeepsTrial words before out_before out_now status =
    (coordinates : ℕ) → form_of words ≡ Some (OnFiles (Trial coordinates)) → IsTrue before.told → ShowsTrial coordinates out_before out_now status

-- ---- the same of a command: its answer, and its run

-- what the answer of a command shows, where it is `compile`, `replay`, `excuse`, `depends`, `influences`, `needs` or `trial`
abbrev pub TellsOf : FilesCommand → FilesView → Result Answer Status → Type 0
TellsOf (Compile source prefix budget) before result = TellsSource source prefix before result
TellsOf (Replay words) before result = TellsHeadline words before result
TellsOf (Excuse words) before result = TellsExcuse words before result
TellsOf (Depends source names) before result = TellsDependence source names before result
TellsOf (Influences source name) before result = TellsInfluence source name before result
TellsOf (Needs words) before result = TellsNeeds words before result
TellsOf (Trial coordinates) before result = TellsTrial coordinates result × AnswersTrial result
TellsOf command before result = Unit {0}

-- what its run shows
abbrev pub ShowsOf : FilesCommand → FilesView → SinkView → SinkView → Status → Type 0
ShowsOf (Replay words) before out_before out_now status = IsTrue before.told → IsTrue out_now.told → status ≡ Ended → PrintsHeadline words before out_before out_now
ShowsOf (Depends source names) before out_before out_now status =
    IsTrue before.told → IsTrue out_now.told → status ≡ Ended → PrintsDependence source names before out_before out_now
ShowsOf (Influences source name) before out_before out_now status =
    IsTrue before.told → IsTrue out_now.told → status ≡ Ended → PrintsInfluence source name before out_before out_now
ShowsOf (Needs words) before out_before out_now status = IsTrue before.told → IsTrue out_now.told → status ≡ Ended → PrintsNeeds words before out_before out_now
ShowsOf (Trial coordinates) before out_before out_now status = IsTrue before.told → ShowsTrial coordinates out_before out_now status
ShowsOf command before out_before out_now status = Unit {0}

abbrev pub ShowsForm : Option Command → FilesView → SinkView → SinkView → Status → Type 0
ShowsForm (Some (OnFiles command)) before out_before out_now status = ShowsOf command before out_before out_now status
ShowsForm other before out_before out_now status = Unit {0}
