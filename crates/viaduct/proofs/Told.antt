-- What was told, by what the objects know.
use Rattle.std.proofs.Common.{ℕ, List, Option, Ok, Err, Result, OnOk}
use Rattle.vd_outside.specs.Sink.{SinkView}
use Rattle.vd_cmd_plan.specs.declared.status.Status.{Status}
use Rattle.vd_shell.specs.Telling.{Tells, fault_lines, success_lines}
use Rattle.vd_shell.specs.declared.telling.Reasons.{Reasons}
use Rattle.viaduct.specs.Telling.{TellsPackets, TellsReasons}

pub packets_told : {E : Type 0} (sent : Option ℕ) (is_host : Option (List ℕ) → Type 0) (is_passed : ℕ × ℕ → Type 0) (host : Option (List ℕ)) (passed : ℕ × ℕ) (before now : SinkView)
    (result : Result (Unit {0}) E) → is_host host → is_passed passed → OnOk result (Tells (success_lines host passed sent) before now) → OnOk result (TellsPackets sent is_host is_passed before now)
packets_told sent is_host is_passed host passed before now (Ok done) known counted told = (host, passed, known, counted, told)
packets_told sent is_host is_passed host passed before now (Err fault) known counted told = tt

pub reasons_told : {E : Type 0} (status : Status) (is_host : Option (List ℕ) → Type 0) (is_reasons : Reasons → Type 0) (host : Option (List ℕ)) (reasons : Reasons) (before now : SinkView)
    (result : Result (Unit {0}) E) → is_host host → is_reasons reasons → OnOk result (Tells (fault_lines host status reasons) before now) → OnOk result (TellsReasons status is_host is_reasons before now)
reasons_told status is_host is_reasons host reasons before now (Ok done) known given told = (host, reasons, known, given, told)
reasons_told status is_host is_reasons host reasons before now (Err fault) known given told = tt
