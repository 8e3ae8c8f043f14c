-- The programs of hosts as they are stored, and what holds of them.
use Rattle.std.specs.Prelude.{◌≡◌, ℕ, ◌<◌, ◌≤◌, List, [], length, slice_index_or, flat_map, Ok}
use Rattle.std.specs.List.{AllByRecursion}
use Rattle.vd_base.specs.declared.protocols.Proto.{Proto}
use Rattle.vd_base.specs.HostSets.{host}
use Rattle.vd_base.specs.Limits.{most_source_bytes, most_host_file_bytes}
use Rattle.vd_core.specs.declared.normal.NormalForm.{NormalForm}
use Rattle.vd_hostcode.specs.declared.host_text.program.Digest.{Digest}
use Rattle.vd_hostcode.specs.declared.host_text.program.HostProgram.{HostProgram}
use Rattle.vd_hostcode.specs.Text.{name_field, program_text}
use Rattle.vd_hostcode.specs.File.{IsFile}
use Rattle.vd_hostcode.specs.HostTextOutcome.{file_of}
use Rattle.vd_hostcode.specs.Outcome.{IsWithin, IsOutcome}
use Rattle.vd_projection.specs.Programs.{CanRunAt, host_codes}

-- the program of a host: its part of what the splitter makes, with the names of all hosts and the digest of the plan
abbrev pub stored_program : NormalForm → List Proto → Digest → ℕ → HostProgram
stored_program program protocols plan h = record {
  hosts = program.hosts;
  me = host h;
  plan = plan;
  code = slice_index_or (host_codes program protocols) h [];
}

-- 32 bytes
abbrev pub IsDigest : Digest → Type 0
IsDigest plan = (length plan.bytes ≡ 32) × AllByRecursion (λ b. b < 256) plan.bytes

-- a program, protocols at which it can run, the digest of a plan, and one of its hosts
pub record CanBeStored (program : NormalForm) (protocols : List Proto) (plan : Digest) (h : ℕ) : Type 0 where
  pub runs : CanRunAt program protocols
  pub digest : IsDigest plan
  pub declared : h < length program.hosts

-- its file is one that the grammar has, and no instruction of it breaks a range
pub record StandsInAFile (program : HostProgram) : Type 0 where
  pub file : IsFile (file_of program)
  pub within : IsWithin program

abbrev pub StoredProgramsStandInFiles : Type 0
StoredProgramsStandInFiles = (program : NormalForm) (protocols : List Proto) (plan : Digest) (h : ℕ) → CanBeStored program protocols plan h
    → StandsInAFile (stored_program program protocols plan h)

-- what is read of its text is the program again
abbrev pub StoredProgramsAreReadBack : Type 0
StoredProgramsAreReadBack = (program : NormalForm) (protocols : List Proto) (plan : Digest) (h : ℕ) → CanBeStored program protocols plan h
    → IsOutcome (program_text (stored_program program protocols plan h)) (Ok (stored_program program protocols plan h))

-- where the names of the hosts take no more bytes than a source has, the text is not longer than a host's file may be
abbrev pub StoredTextsAreShort : Type 0
StoredTextsAreShort = (program : NormalForm) (protocols : List Proto) (plan : Digest) (h : ℕ) → CanBeStored program protocols plan h
    → length (flat_map name_field program.hosts) ≤ most_source_bytes → length (program_text (stored_program program protocols plan h)) ≤ most_host_file_bytes
