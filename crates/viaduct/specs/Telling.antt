-- What a person is told besides, and who asks for it.
use Rattle.std.specs.Prelude.{◌≡◌, ◌≢◌, ℕ, Bool, true, false, List, [], ◌∷◌, codes, Option, None, Some, if◌then◌else◌}
use Rattle.vd_outside.specs.Sink.{SinkView}
use Rattle.vd_cmd_plan.specs.declared.status.Status.{Status}
use Rattle.vd_cmd_plan.specs.declared.status.Status.TheVariants.{Ended}
use Rattle.vd_shell.specs.Reasons.{reason_line}
use Rattle.vd_shell.specs.Telling.{Tells, fault_lines, success_lines}
use Rattle.vd_shell.specs.declared.telling.Reasons.{Reasons}
use Rattle.vd_diag_terminal.specs.declared.telling.Destination.{Destination}
use Rattle.vd_diag_terminal.specs.declared.telling.Destination.TheVariants.{Asked, File, Terminal}
use Rattle.viaduct.specs.declared.caller.Caller.{Caller}
use Rattle.viaduct.specs.declared.caller.Telling.{Telling}
use Rattle.viaduct.specs.declared.caller.Telling.TheVariants as telling

-- the words of a command line; none where one of its arguments is no text
abbrev pub words_in : Option (List (List ℕ)) → List (List ℕ)
words_in None = []
words_in (Some words) = words

-- Of a run that ended well a person at a terminal is told the packets. Of another one the reasons are told to whom asked for them.
abbrev pub success_telling : Destination → Telling
success_telling (Terminal coloured) = telling.Packets
success_telling Asked = telling.Nothing
success_telling File = telling.Nothing

abbrev pub fault_telling : (told readable : Bool) → Telling
fault_telling told readable = if told then (if readable then telling.Fault else telling.NoText) else telling.Nothing

abbrev pub telling_of : Caller → Status → Telling
telling_of caller Ended = success_telling caller.destination
telling_of caller status = fault_telling caller.told caller.readable

-- the packets were told that the objects know
abbrev pub TellsPackets : (sent : Option ℕ) → (is_host : Option (List ℕ) → Type 0) → (is_passed : ℕ × ℕ → Type 0)
    → (before now : SinkView) → Type 0
TellsPackets sent is_host is_passed before now =
    (host : Option (List ℕ)) × (passed : ℕ × ℕ) × is_host host × is_passed passed
    × Tells (success_lines host passed sent) before now

-- so were the reasons
abbrev pub TellsReasons : Status → (is_host : Option (List ℕ) → Type 0) → (is_reasons : Reasons → Type 0) → (before now : SinkView) → Type 0
TellsReasons status is_host is_reasons before now =
    (host : Option (List ℕ)) × (reasons : Reasons) × is_host host × is_reasons reasons × Tells (fault_lines host status reasons) before now

-- what was told, by what the objects know
abbrev pub IsTold : Telling → Status → (sent : Option ℕ) → (is_host : Option (List ℕ) → Type 0)
    → (is_passed : ℕ × ℕ → Type 0) → (is_reasons : Reasons → Type 0)
    → (before now : SinkView) → Type 0
IsTold telling.Nothing status sent is_host is_passed is_reasons before now = now ≡ before
IsTold telling.Packets status sent is_host is_passed is_reasons before now = TellsPackets sent is_host is_passed before now
IsTold telling.Fault status sent is_host is_passed is_reasons before now = TellsReasons status is_host is_reasons before now
IsTold telling.NoText status sent is_host is_passed is_reasons before now =
    Tells (reason_line None (codes "a word is no UTF-8") ∷ []) before now

-- Of a run that did not end well reasons are told to whom asked for them, and to nobody else. At a terminal alone the packets are told of
-- another one.
pub record ReasonsAreAsked : Type 0 where
  pub unasked : (caller : Caller) (status : Status) → caller.told ≡ false → status ≢ Ended → telling_of caller status ≡ telling.Nothing
  pub asked : (caller : Caller) (status : Status) → caller.told ≡ true → caller.readable ≡ true → status ≢ Ended
      → telling_of caller status ≡ telling.Fault
  pub no_text : (caller : Caller) (status : Status) → caller.told ≡ true → caller.readable ≡ false → status ≢ Ended
      → telling_of caller status ≡ telling.NoText
  pub file : (caller : Caller) → caller.destination ≡ File → telling_of caller Ended ≡ telling.Nothing
  pub elsewhere : (caller : Caller) → caller.destination ≡ Asked → telling_of caller Ended ≡ telling.Nothing
