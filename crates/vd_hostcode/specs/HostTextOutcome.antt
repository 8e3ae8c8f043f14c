-- What the bytes of a host's program come to: the program, or the first offset at which they go on as no such file does.
use Rattle.std.specs.Prelude.{◌≡◌, ◌↔◌, ℕ, ◌-◌, ◌<◌, List, map, length, Result, Ok, Err, codes}
use Rattle.std.specs.List.{AllByRecursion}
use Rattle.vd_base.specs.HostSets.{host}
use Rattle.vd_base_codec.specs.Reading.{Reading, ◌>>=◌, literal_at, field_at, capped}
use Rattle.vd_base_codec.specs.Exact.{StopsAt, IsTextOf, whole}
use Rattle.vd_execution.specs.declared.instructions.Action.TheVariants as action
use Rattle.vd_execution.specs.declared.instructions.Instr.{Instr}
use Rattle.vd_execution.specs.declared.instructions.Instr.TheVariants as instr
use Rattle.vd_hostcode.specs.declared.host_text.blocks.Arrays.{Arrays}
use Rattle.vd_hostcode.specs.declared.host_text.program.Digest.{Digest}
use Rattle.vd_hostcode.specs.declared.host_text.program.HostProgram.{HostProgram}
use Rattle.vd_base.specs.declared.faults.FileFault.{FileFault}
use Rattle.vd_base.specs.declared.faults.FileFault.TheVariants.{Text, Memory}
use Rattle.vd_hostcode.specs.Lines.{line_of, start}
use Rattle.vd_hostcode.specs.Reading.{code_of, code_at}
use Rattle.vd_hostcode.specs.File.{File, file_text, IsFile}
use Rattle.vd_hostcode.specs.Heading.{one_at, version_of, hosts_at, plan_at, file_read}

abbrev pub digest : List ℕ → Digest
digest bytes = record { bytes = bytes }

abbrev pub program_with : List (List ℕ) → ℕ → List ℕ → List Instr → HostProgram
program_with hosts me plan code = record { hosts = hosts; me = host me; plan = digest plan; code = code }

-- the program that a file says, and the file that says a program
abbrev pub program_of : File → HostProgram
program_of f = program_with f.hosts f.me f.plan (code_of f.lines)

abbrev pub file_of : HostProgram → File
file_of p = record { hosts = p.hosts; me = p.me.0; plan = p.plan.bytes; lines = map line_of p.code }

-- ---- outcomes

-- the text of some file
abbrev pub IsHostFile : List ℕ → Type 0
IsHostFile bytes = IsTextOf IsFile file_text bytes

-- The bytes are a file of the grammar, which says this program.
abbrev pub IsFileOf : List ℕ → HostProgram → Type 0
IsFileOf bytes p = (file : File) × IsFile file × (file_text file ≡ bytes) × (p ≡ program_of file)

-- The fault tells the first offset at which the bytes go on as no file does, unless memory runs out.
abbrev pub IsRefused : List ℕ → FileFault → Type 0
IsRefused bytes (Text at) = (offset : ℕ) × StopsAt IsHostFile bytes offset × (at ≡ capped offset)
IsRefused bytes Memory = Unit {0}

-- The bytes have one outcome, and it is what is read of them.
pub record FilesFollowGrammar (bytes : List ℕ) : Type 0 where
  pub given : (file : File) → (file_read bytes ≡ Ok file) ↔ (IsFile file × (file_text file ≡ bytes))
  pub refused : (at : ℕ) → (file_read bytes ≡ Err at) ↔ StopsAt IsHostFile bytes at

-- the numbers of peers are bytes
abbrev pub HasPeer : Instr → Type 0
HasPeer (instr.Do (action.Triple p a b c)) = p.0 < 256
HasPeer (instr.Do (action.Bits p a b c)) = p.0 < 256
HasPeer (instr.Do (action.Pair p s x)) = p.0 < 256
HasPeer (instr.Send p rs) = p.0 < 256
HasPeer (instr.Recv p rs) = p.0 < 256
HasPeer i = Unit {0}

-- A program that has a text: its file is one that the grammar has.
abbrev pub HasText : HostProgram → Type 0
HasText p = IsFile (file_of p) × AllByRecursion HasPeer p.code

-- ---- a program as it is read

-- the number of the format
unfoldable pub version_at : List ℕ → Reading Arrays
version_at bs = literal_at (codes "viaduct-host ") bs >>= λ x. one_at version_of x.1

-- the line of names
unfoldable pub names_line_at : List ℕ → Reading (List (List ℕ))
names_line_at bs = literal_at (codes "\nhosts") bs >>= λ x. hosts_at x.1

-- the line of the own number among so many
unfoldable pub me_at : ℕ → List ℕ → Reading ℕ
me_at hosts bs = literal_at (codes "\nme") bs >>= λ x. field_at (hosts - 1) x.1

unfoldable pub program_at : List ℕ → Reading HostProgram
program_at bs = do
  may ← version_at bs
  hosts ← names_line_at may.1
  me ← me_at (length hosts.0) hosts.1
  plan ← plan_at me.1
  code ← code_at (start may.0) plan.1
  Ok (program_with hosts.0 me.0 plan.0 code.0, code.1)

-- what the bytes say: a program, or the offset of the first byte that cannot stand
abbrev pub program_read : List ℕ → Result HostProgram ℕ
program_read bytes = whole bytes (program_at bytes)

-- The answer is what is read, unless memory runs out.
abbrev pub IsFaultOf : Result HostProgram ℕ → FileFault → Type 0
IsFaultOf outcome (Text at) = (offset : ℕ) × (outcome ≡ Err offset) × (at ≡ capped offset)
IsFaultOf outcome Memory = Unit {0}
