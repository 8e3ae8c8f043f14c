-- When a run of all hosts ends well.
use Rattle.std.specs.Prelude.{◌≡◌, ◌⊎◌, ℕ, IsTrue, List, length}
use Rattle.vd_base.specs.Limits.{most_search_budget}
use Rattle.vd_host_children.specs.Told.{AreHosts, AreNext, TellsEach}
use Rattle.vd_cmd.specs.declared.command.RunWords.{RunWords}
use Rattle.vd_cmd_compile.specs.Compiling.{compile_plan}
use Rattle.vd_core.specs.declared.source.Source.{Source}
use Rattle.vd_cmd_labels.specs.Outcomes.{LabelOutcomes, TextOutcomes}
use Rattle.vd_cmd_labels.specs.Sources.{HoldsSource}
use Rattle.vd_outside.specs.Causes.{Rose}
use Rattle.vd_outside.specs.Spawner.{SpawnerView}
use Rattle.vd_outside.specs.declared.child.Child.{Child}
use Rattle.vd_host_children.specs.declared.fault.ChildrenFault.TheVariants as children
use Rattle.vd_cmd_plan.specs.declared.status.Status.{Status}
use Rattle.vd_cmd_plan.specs.declared.status.Status.TheVariants.{Ended, Memory}
use Rattle.vd_cmd_plan.specs.declared.status.Status.TheVariants as status
use Rattle.vd_cmd_choice.specs.Searching.{sure_search}
use Rattle.vd_search_stages.specs.Choices.{ChoiceOutcomes}
use Rattle.vd_cmd_run.specs.Running.{Runs}
use Rattle.vd_cmd_run.specs.RunsHosts.{Outside}

-- The next children that are started, so many, are hosts: the lines of each are `listening`, words in decimal and `ended`, and
-- its status is 0.
pub record HostsWait (spawner : SpawnerView) (count : ℕ) : Type 0 where
  pub tells : TellsEach spawner
  pub children : List Child
  pub all : length children ≡ count
  pub next : AreNext spawner.waiting spawner.otherwise children
  pub printed : List (List ℕ)
  pub are_hosts : AreHosts printed children

-- no count of the outside rose
pub record IsQuiet (before now : Outside) : Type 0 where
  pub files : Rose before.files.faults now.files.faults → ⊥
  pub out : Rose before.out.faults now.out.faults → ⊥
  pub spawner : Rose before.spawner.faults now.spawner.faults → ⊥

-- Where `compile` ends well on the files, also where its search gives up wherever it may, and the children that wait are hosts,
-- the run ends with status 0 or is out of memory, unless something outside fails.
abbrev pub IsCompleteRun : RunWords → Outside → Outside → Status → Type 0
IsCompleteRun words before now end =
    (texts : TextOutcomes) (least : LabelOutcomes) (choices : ChoiceOutcomes) (source : Source) → IsTrue before.files.told → IsQuiet before now
    → (compile_plan texts least choices (sure_search choices) words.source words.prefix most_search_budget before.files.contents).answer.status ≡ Ended
    → HoldsSource words.source before.files.contents source → HostsWait before.spawner (length source.hosts)
    → (end ≡ Ended) ⊎ (end ≡ Memory)

abbrev pub RunsAreComplete : Type 0
RunsAreComplete = (words : RunWords) (before now : Outside) (end : Status) → Runs words before now end → IsCompleteRun words before now end

-- ---- why a run did not end well

-- a count rose, where the status is one of the outside's
abbrev pub HasCause : Outside → Outside → Status → Type 0
HasCause before now (status.ReadFault name) = Rose before.files.faults now.files.faults
HasCause before now status.WriteFault = Rose before.files.faults now.files.faults ⊎ Rose before.out.faults now.out.faults
HasCause before now (status.ChildFault names (children.Failed host)) = Rose before.spawner.faults now.spawner.faults
HasCause before now other = Unit {0}

abbrev pub StatusesHaveCauses : Type 0
StatusesHaveCauses = (words : RunWords) (before now : Outside) (end : Status) → Runs words before now end → HasCause before now end
