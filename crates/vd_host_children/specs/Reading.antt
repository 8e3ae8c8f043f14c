-- How a host's child is read to its end.
use Rattle.std.specs.Prelude.{◌++◌, ◌∷◌, [], ℕ, Bool, true, false, List, Some, None, Result, Ok, Err}
use Rattle.vd_base.specs.declared.faults.CallFault.{CallFault}
use Rattle.vd_base.specs.declared.ids.HostId.{HostId}
use Rattle.vd_outside.specs.Spawner.{SpawnerView, ReadsLine}
use Rattle.vd_host_children.specs.Faults.{fault_at}
use Rattle.vd_host_children.specs.Finishing.{Ends}
use Rattle.vd_host_children.specs.Lines.{ArePrinted, Breaks}
use Rattle.vd_host_children.specs.declared.fault.ChildrenFault.{ChildrenFault}
use Rattle.vd_host_children.specs.declared.fault.ChildrenFault.TheVariants as fault

-- the child gives these lines, one after the other
pub data Gives (child : ℕ) (start : SpawnerView) : List (List ℕ) → SpawnerView → Type 0 where
  NoLine : Gives child start [] start
  OneLine : (lines : List (List ℕ)) (line : List ℕ) (before now : SpawnerView) → Gives child start lines before → ReadsLine child before now (Ok (Some line))
      → Gives child start (lines ++ line ∷ []) now

-- it printed these words, and perhaps that it ended, and nothing else so far
pub record Printed (child : ℕ) (start now : SpawnerView) (words : List ℕ) (over : Bool) : Type 0 where
  pub lines : List (List ℕ)
  pub gives : Gives child start lines now
  pub form : ArePrinted lines words over

-- Each line is asked for, up to one that breaks the form or to the end of the output; at the end the child is finished.
pub data Reads (child : ℕ) (host : HostId) (start end : SpawnerView) : Result (List ℕ) ChildrenFault → Type 0 where
  Whole : (words : List ℕ) (now over : SpawnerView) → Printed child start now words true → ReadsLine child now over (Ok None) → Ends child host over end (Ok tt)
      → Reads child host start end (Ok words)
  TooShort : (words : List ℕ) (now over : SpawnerView) → Printed child start now words false → ReadsLine child now over (Ok None) → Ends child host over end (Ok tt)
      → Reads child host start end (Err (fault.Line host))
  NotFinished : (words : List ℕ) (ended : Bool) (now over : SpawnerView) (cause : ChildrenFault) → Printed child start now words ended
      → ReadsLine child now over (Ok None) → Ends child host over end (Err cause) → Reads child host start end (Err cause)
  NotRead : (words : List ℕ) (ended : Bool) (now : SpawnerView) (cause : CallFault) → Printed child start now words ended → ReadsLine child now end (Err cause)
      → Reads child host start end (Err (fault_at host cause))
  WrongLine : (words : List ℕ) (ended : Bool) (now : SpawnerView) (line : List ℕ) → Printed child start now words ended → ReadsLine child now end (Ok (Some line))
      → Breaks words ended line → Reads child host start end (Err (fault.Line host))
  NoRoom : (words : List ℕ) (ended : Bool) (now : SpawnerView) (line : List ℕ) → Printed child start now words ended → ReadsLine child now end (Ok (Some line))
      → Reads child host start end (Err fault.Memory)
