-- The programs of hosts in an order that waits less as they are stored.
use Rattle.std.specs.Prelude.{ℕ, ◌≤◌, List, [], length, flat_map, Ok}
use Rattle.vd_base.specs.declared.protocols.Proto.{Proto}
use Rattle.vd_base.specs.HostSets.{host}
use Rattle.vd_base.specs.Limits.{most_source_bytes, most_host_file_bytes}
use Rattle.vd_core.specs.declared.normal.NormalForm.{NormalForm}
use Rattle.vd_execution.specs.Code.{Code}
use Rattle.vd_execution.specs.Joint.{Joint}
use Rattle.vd_execution.specs.Text.{IsCodeOf}
use Rattle.vd_hostcode.specs.declared.host_text.program.Digest.{Digest}
use Rattle.vd_hostcode.specs.declared.host_text.program.HostProgram.{HostProgram}
use Rattle.vd_hostcode.specs.Text.{name_field, program_text}
use Rattle.vd_hostcode.specs.Outcome.{IsOutcome}
use Rattle.vd_projection.specs.Programs.{joint_of}
use Rattle.vd_projection.specs.Stored.{CanBeStored, StandsInAFile}
use Rattle.vd_projection.specs.Early.{IsEarly, opened_in_order, early_code, early_text}

-- the program of a host: its part of a joint code, with the names of all hosts and the digest of the plan
abbrev pub program_at : NormalForm → List Proto → Joint → Digest → ℕ → HostProgram
program_at program protocols joint plan h =
    record { hosts = program.hosts; me = host h; plan = plan; code = early_text (opened_in_order program protocols) joint h }

-- its file is one that the grammar has, and no instruction of it breaks a range
abbrev pub EarlyProgramsStandInFiles : Type 0
EarlyProgramsStandInFiles = (program : NormalForm) (protocols : List Proto) (plan : Digest) (h : ℕ) (joint : Joint) → CanBeStored program protocols plan h
    → IsEarly (joint_of program protocols) joint → StandsInAFile (program_at program protocols joint plan h)

-- What is read of its text is the program again, whose code is this.
pub record IsReadAgain (program : HostProgram) (code : Code) : Type 0 where
  pub read : IsOutcome (program_text program) (Ok program)
  pub part : IsCodeOf program.code code

abbrev pub EarlyProgramsAreReadBack : Type 0
EarlyProgramsAreReadBack = (program : NormalForm) (protocols : List Proto) (plan : Digest) (h : ℕ) (joint : Joint) → CanBeStored program protocols plan h
    → IsEarly (joint_of program protocols) joint
    → IsReadAgain (program_at program protocols joint plan h) (early_code (opened_in_order program protocols) h joint)

-- where the names of the hosts take no more bytes than a source has, the text is not longer than a host's file may be
abbrev pub EarlyTextsAreShort : Type 0
EarlyTextsAreShort = (program : NormalForm) (protocols : List Proto) (plan : Digest) (h : ℕ) (joint : Joint) → CanBeStored program protocols plan h
    → IsEarly (joint_of program protocols) joint → length (flat_map name_field program.hosts) ≤ most_source_bytes
    → length (program_text (program_at program protocols joint plan h)) ≤ most_host_file_bytes
