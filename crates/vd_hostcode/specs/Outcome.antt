-- What the bytes of a host's program come to, ranges included.
use Rattle.std.specs.Prelude.{◌≡◌, ◌≢◌, ◌↔◌, ℕ, ◌<◌, ◌≤◌, List, length, Result, Ok, Err}
use Rattle.vd_base.specs.Limits.{most_hosts}
use Rattle.vd_base.specs.declared.ids.HostId.{HostId}
use Rattle.vd_base_codec.specs.Reading.{capped}
use Rattle.vd_base_codec.specs.Exact.{StopsAt}
use Rattle.vd_execution.specs.declared.instructions.Instr.{Instr}
use Rattle.vd_execution.specs.Code.{Code}
use Rattle.vd_execution.specs.Text.{IsCodeOf}
use Rattle.vd_execution.specs.Ranges.{IsInRange}
use Rattle.vd_hostcode.specs.declared.host_text.program.HostProgram.{HostProgram}
use Rattle.vd_hostcode.specs.HostTextOutcome.{IsHostFile, IsFileOf}
use Rattle.vd_hostcode.specs.declared.fault.CodeFault.{CodeFault}
use Rattle.vd_hostcode.specs.declared.fault.CodeFault.TheVariants.{Text, Range, Memory}
use Rattle.vd_hostcode.specs.Ranges.{IsFirstBroken, IsWithinRanges, static_steps, most_steps}

-- A program within the ranges.
abbrev pub IsWithin : HostProgram → Type 0
IsWithin p = IsWithinRanges (length p.hosts) p.me p.code

-- The outcome of the bytes: their program, where they are the file of one within the ranges; else the first instruction that breaks a
-- range; or the first offset at which they go on as no file does.
abbrev pub IsOutcome : List ℕ → Result HostProgram CodeFault → Type 0
IsOutcome bytes (Ok p) = IsFileOf bytes p × IsWithin p
IsOutcome bytes (Err (Text at)) = (offset : ℕ) × StopsAt IsHostFile bytes offset × (at ≡ capped offset)
IsOutcome bytes (Err (Range at)) = (p : HostProgram) × (number : ℕ) × IsFileOf bytes p × IsFirstBroken (length p.hosts) p.me p.code number × (at ≡ capped number)
IsOutcome bytes (Err Memory) = ⊥

-- Unless memory runs out, the answer is the outcome, and no other is.
abbrev pub Answers : List ℕ → Result HostProgram CodeFault → Type 0
Answers bytes result = result ≢ Err Memory → (outcome : Result HostProgram CodeFault) → (result ≡ outcome) ↔ IsOutcome bytes outcome

-- The fault tells the first offset at which the bytes go on as no file does, unless memory runs out.
abbrev pub IsTextRefused : List ℕ → CodeFault → Type 0
IsTextRefused bytes (Text at) = (offset : ℕ) × StopsAt IsHostFile bytes offset × (at ≡ capped offset)
IsTextRefused bytes (Range at) = ⊥
IsTextRefused bytes Memory = Unit {0}

-- The ranges of a code hold; or the fault tells the first instruction that breaks one, unless memory runs out.
abbrev pub Checked : ℕ → HostId → List Instr → Result (Unit {0}) CodeFault → Type 0
Checked hosts me code (Ok _) = IsWithinRanges hosts me code
Checked hosts me code (Err (Text at)) = ⊥
Checked hosts me code (Err (Range at)) = (number : ℕ) × IsFirstBroken hosts me code number × (at ≡ capped number)
Checked hosts me code (Err Memory) = Unit {0}

-- The heading names one to four hosts, of which the own is one.
pub record IsHeaded (p : HostProgram) : Type 0 where
  pub some : 1 ≤ length p.hosts
  pub few : length p.hosts ≤ most_hosts
  pub me : p.me.0 < length p.hosts

-- A machine can load the code, which has no more static steps than are allowed.
pub record CanRun (p : HostProgram) : Type 0 where
  pub nested : Code
  pub is_code : IsCodeOf p.code nested
  pub ranges : IsInRange (length p.hosts) nested
  pub steps : static_steps nested ≤ most_steps
