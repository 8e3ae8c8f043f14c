-- A fault of the spawner is answered only where its count rose.
use Rattle.std.proofs.Common.{arith, ◌≤◌, ℕ, List, Option, Err, Result, IsErrOf, refl}
use Rattle.vd_base.specs.declared.faults.CallFault.{CallFault}
use Rattle.vd_base.specs.declared.faults.CallFault.TheVariants as call_fault
use Rattle.vd_base.specs.declared.ids.HostId.{HostId}
use Rattle.vd_outside.specs.Causes.{Rose}
use Rattle.vd_outside.specs.Spawner.{SpawnerView}
use Rattle.vd_host_children.specs.Causes.{Causes, IsCaused}
use Rattle.vd_host_children.specs.Faults.{fault_at}
use Rattle.vd_host_children.specs.Finishing.{Ends, Unfinished, Well, WithStatus}
use Rattle.vd_host_children.specs.Reading.{Gives, NoLine, NoRoom, NotFinished, NotRead, OneLine, Reads, TooShort, Whole, WrongLine}
use Rattle.vd_host_children.specs.Runs.{AllEnded, NoNumber, NoPlace, NoneRead, NoneStarted, NotAllRead, NotAllStarted, NotBegun, NotReadWell, OneRead, OneStarted, ReadToEnd, RunsChildren, Started, StopsAtRead, StopsAtStart}
use Rattle.vd_host_children.specs.Starting.{AnotherLine, Begins, Listening, NoFirstLine, NotStarted, Silent, SilentFault}
use Rattle.vd_host_children.specs.declared.fault.ChildrenFault.{ChildrenFault}
use Rattle.vd_host_children.specs.declared.fault.ChildrenFault.TheVariants as fault

call_caused : (T : Type 0) (host : HostId) (before now : ℕ) (cause : CallFault) → (IsErrOf {T = T} {E = CallFault} (Err cause) call_fault.Failed → Rose before now) → IsCaused before now (fault_at host cause)
call_caused T host before now call_fault.Failed rose = rose refl
call_caused T host before now call_fault.Memory rose = tt

-- a count that rose later rose
caused_later : (start before now : ℕ) (told : ChildrenFault) → start ≤ before → IsCaused before now told → IsCaused start now told
caused_later start before now fault.Memory first caused = tt
caused_later start before now (fault.Failed host) first caused = omega (arith, first, caused)
caused_later start before now (fault.Line host) first caused = tt
caused_later start before now (fault.Status host status) first caused = tt

ends_causes : (child : ℕ) (host : HostId) (before now : SpawnerView) {result : Result (Unit {0}) ChildrenFault} → Ends child host before now result → Causes before now result
ends_causes child host before now (Well f) = record { later = f.later; failed = tt }
ends_causes child host before now (WithStatus status other f) = record { later = f.later; failed = tt }
ends_causes child host before now (Unfinished cause f) = record { later = f.later; failed = call_caused ℕ host before.faults now.faults cause f.failed }

begins_causes : (program : List ℕ) (words : List (List ℕ)) (host : HostId) (before now : SpawnerView) {result : Result ℕ ChildrenFault} → Begins program words host before now result → Causes before now result
begins_causes program words host before now (Listening child started s l) = record { later = (let a = s.later in let b = l.later in omega (arith, a, b)); failed = tt }
begins_causes program words host before now (NotStarted cause s) = record { later = s.later; failed = call_caused ℕ host before.faults now.faults cause s.failed }
begins_causes program words host before now (NoFirstLine child started cause s l) = record {
  later = (let a = s.later in let b = l.later in omega (arith, a, b));
  failed = caused_later before.faults started.faults now.faults (fault_at host cause) s.later (call_caused (Option (List ℕ)) host started.faults now.faults cause l.failed);
}
begins_causes program words host before now (AnotherLine child started line s l other) = record { later = (let a = s.later in let b = l.later in omega (arith, a, b)); failed = tt }
begins_causes program words host before now (Silent child started over s l e) = record {
  later = (let a = s.later in let b = l.later in let c = (ends_causes child host over now e).later in omega (arith, a, b, c));
  failed = tt;
}
begins_causes program words host before now (SilentFault child started over cause s l e) = record {
  later = (let a = s.later in let b = l.later in let c = (ends_causes child host over now e).later in omega (arith, a, b, c));
  failed = caused_later before.faults over.faults now.faults cause (let a = s.later in let b = l.later in omega (arith, a, b)) (ends_causes child host over now e).failed;
}

gives_later : (child : ℕ) (start now : SpawnerView) {lines : List (List ℕ)} → Gives child start lines now → start.faults ≤ now.faults
gives_later child start now NoLine = omega arith
gives_later child start now (OneLine lines line before end g r) = let a = gives_later child start before g in let b = r.later in omega (arith, a, b)

reads_causes : (child : ℕ) (host : HostId) (start end : SpawnerView) {result : Result (List ℕ) ChildrenFault} → Reads child host start end result → Causes start end result
reads_causes child host start end (Whole words now over p r e) = record {
  later = (let a = gives_later child start now p.gives in let b = r.later in let c = (ends_causes child host over end e).later in omega (arith, a, b, c));
  failed = tt;
}
reads_causes child host start end (TooShort words now over p r e) = record {
  later = (let a = gives_later child start now p.gives in let b = r.later in let c = (ends_causes child host over end e).later in omega (arith, a, b, c));
  failed = tt;
}
reads_causes child host start end (NotFinished words ended now over cause p r e) = record {
  later = (let a = gives_later child start now p.gives in let b = r.later in let c = (ends_causes child host over end e).later in omega (arith, a, b, c));
  failed = caused_later start.faults over.faults end.faults cause (let a = gives_later child start now p.gives in let b = r.later in omega (arith, a, b)) (ends_causes child host over end e).failed;
}
reads_causes child host start end (NotRead words ended now cause p r) = record {
  later = (let a = gives_later child start now p.gives in let b = r.later in omega (arith, a, b));
  failed = caused_later start.faults now.faults end.faults (fault_at host cause) (gives_later child start now p.gives) (call_caused (Option (List ℕ)) host now.faults end.faults cause r.failed);
}
reads_causes child host start end (WrongLine words ended now line p r breaks) = record { later = (let a = gives_later child start now p.gives in let b = r.later in omega (arith, a, b)); failed = tt }
reads_causes child host start end (NoRoom words ended now line p r) = record { later = (let a = gives_later child start now p.gives in let b = r.later in omega (arith, a, b)); failed = tt }

started_later : (program : List ℕ) (start now : SpawnerView) {hosts : List (List (List ℕ))} {children : List ℕ} → Started program start hosts children now → start.faults ≤ now.faults
started_later program start now NoneStarted = omega arith
started_later program start now (OneStarted hosts children words child before end s b) =
    let a = started_later program start before s in let c = (begins_causes program words _ before end b).later in omega (arith, a, c)

read_later : (start now : SpawnerView) {children : List ℕ} {printed : List (List ℕ)} → ReadToEnd start children printed now → start.faults ≤ now.faults
read_later start now NoneRead = omega arith
read_later start now (OneRead children printed child words before end r b) =
    let a = read_later start before r in let c = (reads_causes child _ before end b).later in omega (arith, a, c)

start_causes : (program : List ℕ) (hosts : List (List (List ℕ))) (start end : SpawnerView) {cause : ChildrenFault} → StopsAtStart program hosts start end cause → Causes {T = List (List ℕ)} start end (Err cause)
start_causes program hosts start end (NotBegun children words now cause s at b) = record {
  later = (let a = started_later program start now s in let c = (begins_causes program words _ now end b).later in omega (arith, a, c));
  failed = caused_later start.faults now.faults end.faults cause (started_later program start now s) (begins_causes program words _ now end b).failed;
}
start_causes program hosts start end (NoNumber children words child now s at b) = record {
  later = (let a = started_later program start now s in let c = (begins_causes program words _ now end b).later in omega (arith, a, c));
  failed = tt;
}

read_causes : (children : List ℕ) (start end : SpawnerView) {cause : ChildrenFault} → StopsAtRead children start end cause → Causes {T = List (List ℕ)} start end (Err cause)
read_causes children start end (NotReadWell printed child now cause r at b) = record {
  later = (let a = read_later start now r in let c = (reads_causes child _ now end b).later in omega (arith, a, c));
  failed = caused_later start.faults now.faults end.faults cause (read_later start now r) (reads_causes child _ now end b).failed;
}
read_causes children start end (NoPlace printed child words now r at b) = record {
  later = (let a = read_later start now r in let c = (reads_causes child _ now end b).later in omega (arith, a, c));
  failed = tt;
}

pub run_causes : (program : List ℕ) (hosts : List (List (List ℕ))) (start end : SpawnerView) {result : Result (List (List ℕ)) ChildrenFault} → RunsChildren program hosts start end result → Causes start end result
run_causes program hosts start end (AllEnded children printed now s r) = record { later = (let a = started_later program start now s in let b = read_later now end r in omega (arith, a, b)); failed = tt }
run_causes program hosts start end (NotAllStarted cause s) = start_causes program hosts start end s
run_causes program hosts start end (NotAllRead children now cause s r) = record {
  later = (let a = started_later program start now s in let b = (read_causes children now end r).later in omega (arith, a, b));
  failed = caused_later start.faults now.faults end.faults cause (started_later program start now s) (read_causes children now end r).failed;
}
