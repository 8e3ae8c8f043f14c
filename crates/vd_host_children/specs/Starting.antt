-- How a host's child begins.
use Rattle.std.specs.Prelude.{◌≡◌, ℕ, false, List, Some, None, Result, Ok, Err}
use Rattle.std.specs.Str.{bytes_eq}
use Rattle.vd_base.specs.declared.faults.CallFault.{CallFault}
use Rattle.vd_base.specs.declared.ids.HostId.{HostId}
use Rattle.vd_outside.specs.Spawner.{SpawnerView, Starts, ReadsLine}
use Rattle.vd_host_children.specs.Faults.{fault_at}
use Rattle.vd_host_children.specs.Finishing.{Ends}
use Rattle.vd_host_children.specs.Lines.{listening}
use Rattle.vd_host_children.specs.declared.fault.ChildrenFault.{ChildrenFault}
use Rattle.vd_host_children.specs.declared.fault.ChildrenFault.TheVariants as fault

-- It is started, and its first line is `listening`. What breaks that form is answered at once; where the output is empty,
-- the child is finished, and a status other than 0 is carried.
pub data Begins (program : List ℕ) (words : List (List ℕ)) (host : HostId) (before now : SpawnerView) : Result ℕ ChildrenFault → Type 0 where
  Listening : (child : ℕ) (started : SpawnerView) → Starts program words before started (Ok child) → ReadsLine child started now (Ok (Some listening))
      → Begins program words host before now (Ok child)
  NotStarted : (cause : CallFault) → Starts program words before now (Err cause) → Begins program words host before now (Err (fault_at host cause))
  NoFirstLine : (child : ℕ) (started : SpawnerView) (cause : CallFault) → Starts program words before started (Ok child)
      → ReadsLine child started now (Err cause) → Begins program words host before now (Err (fault_at host cause))
  AnotherLine : (child : ℕ) (started : SpawnerView) (line : List ℕ) → Starts program words before started (Ok child)
      → ReadsLine child started now (Ok (Some line)) → bytes_eq line listening ≡ false → Begins program words host before now (Err (fault.Line host))
  Silent : (child : ℕ) (started over : SpawnerView) → Starts program words before started (Ok child)
      → ReadsLine child started over (Ok None) → Ends child host over now (Ok tt) → Begins program words host before now (Err (fault.Line host))
  SilentFault : (child : ℕ) (started over : SpawnerView) (cause : ChildrenFault) → Starts program words before started (Ok child)
      → ReadsLine child started over (Ok None) → Ends child host over now (Err cause) → Begins program words host before now (Err cause)
