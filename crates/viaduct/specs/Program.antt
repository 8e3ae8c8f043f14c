-- What the program does, whatever objects it is given.
use Rattle.std.specs.Prelude.{◌≡◌, ◌⊎◌, ℕ, Bool, IsTrue, List, Option, None, IfSome, Result, is_some}
use Rattle.vd_outside.specs.Files.{Contents, FilesView}
use Rattle.vd_outside.specs.Marks.{MarksView}
use Rattle.vd_outside.specs.Sink.{SinkView}
use Rattle.vd_outside.specs.Spawner.{SpawnerView}
use Rattle.vd_cmd.specs.Commands.{form_of}
use Rattle.vd_edge.specs.KeptFiles.{IsReadAhead, StandAlone, StandWhole, were_asked}
use Rattle.vd_cmd_host.specs.Hosts.{NetsView}
use Rattle.vd_cmd_plan.specs.Lines.{Says, status_line}
use Rattle.vd_cmd_plan.specs.declared.status.Status.{Status}
use Rattle.vd_cmd_plan.specs.declared.status.Status.TheVariants.{Memory}
use Rattle.vd_diag.specs.declared.fault.TellFault.{TellFault}
use Rattle.vd_diag_terminal.specs.Saying.{SaysTo}
use Rattle.vd_diag_terminal.specs.Wraps.{SaysWraps}
use Rattle.vd_diag_terminal.specs.declared.telling.Destination.{Destination}
use Rattle.vd_top.specs.Promises.{Around, Starts}
use Rattle.vd_shell.specs.Ahead.{wanted_by}

-- The command line was run, and ended with this status; then more was said of it to the person at a terminal, and of `clear` what wrapped.
pub record IsRun (destination : Destination) (words : List (List ℕ)) (o : Around) (status : Status) : Type 0 where
  -- the files and the error stream behind the run, and then behind what was said of a fault
  pub files : FilesView
  pub err : SinkView
  pub later_files : FilesView
  pub later_err : SinkView
  pub starts : Starts words (record o { files = (o.files.0, files); err = (o.err.0, err) }) status
  pub said : Result (Unit {0}) TellFault
  pub more : SaysTo destination words status files later_files err later_err said
  pub told : Result (Unit {0}) TellFault
  pub wraps : SaysWraps destination words status later_files o.files.1 later_err o.err.1 told

-- the objects that a run uses besides files, each before it and after it, and how many packets it says that hosts sent
pub record Streams : Type 0 where
  pub out : SinkView × SinkView
  pub err : SinkView × SinkView
  pub marks : MarksView × MarksView
  pub nets : NetsView × NetsView
  pub spawner : SpawnerView × SpawnerView
  pub packets : Option ℕ

-- There was no memory for the files, which is said; nothing else was done.
pub record WantsMemory (o : Streams) (status : Status) : Type 0 where
  pub says : Says (status_line Memory) o.err.0 o.err.1
  pub out : o.out.1 ≡ o.out.0
  pub marks : o.marks.1 ≡ o.marks.0
  pub nets : o.nets.1 ≡ o.nets.0
  pub spawner : o.spawner.1 ≡ o.spawner.0
  pub packets : o.packets ≡ None
  pub ends : status ≡ Memory

-- What a directory holds after a run is what the files told last: each file whole, and nothing else, but at and beside the name of a store
-- that was asked and failed.
pub record IsOnDisk (last : FilesView) (disk : Contents) : Type 0 where
  pub stores : List (List ℕ × Option (List ℕ))
  pub asked : IsTrue (were_asked last.asked stores)
  pub whole : StandWhole last.contents disk
  pub alone : StandAlone stores last.contents disk

-- The command line was run over the files that it may fetch, each of which was read ahead, or a read of it failed. What the directory
-- held before is what the files told first, where it tells that, and what it holds afterwards is what they told last.
pub record IsRunOver (destination : Destination) (words : List (List ℕ)) (fails_at : List ℕ → Type 0) (tells : Bool) (holds : Contents)
    (after : Option Contents) (o : Streams) (status : Status) : Type 0 where
  pub read : FilesView
  pub last : FilesView
  pub faults : ℕ × ℕ
  pub ahead : IsReadAhead (wanted_by (form_of words)) fails_at faults tells holds read
  pub run : IsRun destination words
      (record { files = (read, last); out = o.out; err = o.err; marks = o.marks; nets = o.nets; spawner = o.spawner; packets = (None, o.packets) })
      status
  pub disk : IfSome after (λ now. IsTrue tells → IsOnDisk last now)
  pub is_left : IsTrue (is_some after)

-- Either was it, or there was no memory.
abbrev pub RunsOver : Destination → (words : List (List ℕ)) → (fails_at : List ℕ → Type 0) → (tells : Bool) → (holds : Contents)
    → (after : Option Contents) → Streams → Status → Type 0
RunsOver destination words fails_at tells holds after o status =
    IsRunOver destination words fails_at tells holds after o status ⊎ WantsMemory o status
