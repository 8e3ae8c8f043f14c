-- What a run asks of its spawner, and what it reports of the children.
use Rattle.std.specs.Prelude.{◌≡◌, ◌⊎◌, ◌++◌, ℕ, IsTrue, List, length, Result}
use Rattle.vd_host_children.specs.Asked.{Asks, run_calls}
use Rattle.vd_host_children.specs.Told.{EachEnded, TellsEach}
use Rattle.vd_host_children.specs.declared.fault.ChildrenFault.{ChildrenFault}
use Rattle.vd_cmd.specs.declared.command.RunWords.{RunWords}
use Rattle.vd_cmd_plan.specs.declared.status.Status.{Status}
use Rattle.vd_cmd_plan.specs.declared.status.Status.TheVariants.{Ended}
use Rattle.vd_cmd_run.specs.CommandLines.{command_lines}
use Rattle.vd_cmd_run.specs.Compiled.{AreHostsOf}
use Rattle.vd_cmd_run.specs.EndedLines.{ended_lines}
use Rattle.vd_cmd_run.specs.Running.{Runs}
use Rattle.vd_cmd_run.specs.RunsHosts.{Outside}

-- the command lines of hosts with these names
abbrev pub lines_for : RunWords → (names : List (List ℕ)) → List (List (List ℕ))
lines_for words names = command_lines words.prefix words.inputs words.port (length names)

-- the spawner was asked for the calls of a run of the source's hosts, or for a prefix of them
pub record AsksFor (words : RunWords) (before now : Outside) : Type 0 where
  pub names : List (List ℕ)
  pub hosts : IsTrue before.files.told → AreHostsOf words.source before.files.contents names
  pub result : Result (List (List ℕ)) ChildrenFault
  pub asks : Asks words.program (lines_for words names) before.spawner now.spawner result

-- A spawner that tells its calls was asked for nothing, or for such calls.
abbrev pub RunsAskInOrder : Type 0
RunsAskInOrder = (words : RunWords) (before now : Outside) (end : Status) → Runs words before now end → IsTrue before.spawner.told
    → (now.spawner ≡ before.spawner) ⊎ AsksFor words before now

-- Each host of the source was a child of its own with its command line, ended well and printed these words; and the report has
-- each host as ended with these words.
pub record ReportsHosts (words : RunWords) (before now : Outside) : Type 0 where
  pub names : List (List ℕ)
  pub hosts : IsTrue before.files.told → AreHostsOf words.source before.files.contents names
  pub printed : List (List ℕ)
  pub asked : IsTrue before.spawner.told → now.spawner.asked ≡ before.spawner.asked ++ run_calls words.program before.spawner.given (lines_for words names) printed
  pub ended : TellsEach before.spawner → EachEnded (lines_for words names) before.spawner printed
  pub reported : IsTrue now.out.told → now.out.taken ≡ before.out.taken ++ ended_lines names printed

abbrev pub EndedRunsReport : Type 0
EndedRunsReport = (words : RunWords) (before now : Outside) → Runs words before now Ended → ReportsHosts words before now
