-- What running all hosts of a compiled program comes to.
use Rattle.std.specs.Prelude.{◌≡◌, ℕ, List, Result, Ok, Err}
use Rattle.vd_outside.specs.Files.{FilesView}
use Rattle.vd_outside.specs.Sink.{SinkView, WritesAll}
use Rattle.vd_outside.specs.Spawner.{SpawnerView}
use Rattle.vd_outside.specs.declared.stored.Stored.{Stored}
use Rattle.vd_base.specs.declared.faults.Failed.{Failed}
use Rattle.vd_cmd_plan.specs.Deliver.{StoresAll}
use Rattle.vd_cmd_plan.specs.declared.status.Status.{Status}
use Rattle.vd_host_children.specs.Runs.{RunsChildren}
use Rattle.vd_host_children.specs.declared.fault.ChildrenFault.{ChildrenFault}
use Rattle.vd_cmd_run.specs.EndedLines.{ended_lines}
use Rattle.vd_cmd_run.specs.declared.fault.RunFault.{RunFault}
use Rattle.vd_cmd_run.specs.declared.fault.RunFault.TheVariants as fault

-- The outside of a run: its files, its output, and its children.
pub record Outside : Type 0 where
  pub files : FilesView
  pub out : SinkView
  pub spawner : SpawnerView

abbrev pub outside : FilesView → SinkView → SpawnerView → Outside
outside files out spawner = record { files = files; out = out; spawner = spawner }

-- The hosts' files are stored, then the hosts are run as children with these words, and then their report is written. What
-- comes behind the first fault is not done.
pub data RunsHosts (stores : List Stored) (names : List (List ℕ)) (program : List ℕ) (lines : List (List (List ℕ))) (before now : Outside) : Result (Unit {0}) RunFault → Type 0 where
  Reported : (printed : List (List ℕ)) → StoresAll stores before.files now.files (Ok tt) → RunsChildren program lines before.spawner now.spawner (Ok printed)
      → WritesAll {E = Failed} (ended_lines names printed) before.out now.out (Ok tt) → RunsHosts stores names program lines before now (Ok tt)
  NotStored : (status : Status) → StoresAll stores before.files now.files (Err status) → now.spawner ≡ before.spawner → now.out ≡ before.out
      → RunsHosts stores names program lines before now (Err (fault.Store status))
  NotRun : (cause : ChildrenFault) → StoresAll stores before.files now.files (Ok tt) → RunsChildren program lines before.spawner now.spawner (Err cause) → now.out ≡ before.out
      → RunsHosts stores names program lines before now (Err (fault.Children cause))
  NoReport : (printed : List (List ℕ)) → StoresAll stores before.files now.files (Ok tt) → RunsChildren program lines before.spawner now.spawner (Ok printed) → now.out ≡ before.out
      → RunsHosts stores names program lines before now (Err fault.Memory)
  NotWritten : (printed : List (List ℕ)) (failed : Failed) → StoresAll stores before.files now.files (Ok tt) → RunsChildren program lines before.spawner now.spawner (Ok printed)
      → WritesAll {E = Failed} (ended_lines names printed) before.out now.out (Err failed) → RunsHosts stores names program lines before now (Err fault.Write)
