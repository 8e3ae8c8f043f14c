-- The files that `compile` stores.
use Rattle.std.specs.Prelude.{◌≡◌, ℕ, ◌+◌, ◌≤◌, List, [], ◌∷◌, length, codes, Ok}
use Rattle.std.specs.List.{AllByRecursion}
use Rattle.vd_base.specs.declared.protocols.Proto.{Proto}
use Rattle.vd_base.specs.Limits.{most_host_file_bytes}
use Rattle.vd_outside.specs.declared.stored.Stored.{Stored}
use Rattle.vd_core.specs.declared.normal.NormalForm.{NormalForm}
use Rattle.vd_core.specs.declared.source.Source.{Source}
use Rattle.vd_parser.specs.Outcomes.{IsParse}
use Rattle.vd_elaborate.specs.Normal.{normal_form}
use Rattle.vd_search_stages.specs.declared.optimum.Assignment.{Assignment}
use Rattle.vd_cmd_rewrite.specs.RunPrograms.{IsRunProgram}
use Rattle.vd_execution.specs.Joint.{code_of}
use Rattle.vd_execution.specs.Text.{IsCodeOf}
use Rattle.vd_hostcode.specs.declared.host_text.program.Digest.{Digest}
use Rattle.vd_cmd_plan.specs.Numbered.{file_name}
use Rattle.vd_hostcode.specs.Outcome.{IsOutcome}
use Rattle.vd_projection.specs.Programs.{CanRunAt, joint_of}
use Rattle.vd_projection.specs.Stored.{stored_program}
use Rattle.vd_cmd_choice.specs.Choice.{IsSelected, printed_at}
use Rattle.vd_cmd_compile.specs.Compiling.{compiled_at, plan_for}

-- Reading these bytes gives the program of the host with this number: with the names of all hosts, this number and this plan; and its
-- code is that host's part of the joint code of the program at this list.
pub record IsReadBack (program : NormalForm) (list : List Proto) (plan : Digest) (h : ℕ) (bytes : List ℕ) : Type 0 where
  pub read : IsOutcome bytes (Ok (stored_program program list plan h))
  pub part : IsCodeOf (stored_program program list plan h).code (code_of h (joint_of program list))

-- so it is of the files of the hosts that are numbered from here on
abbrev pub EachFrom : (ℕ → Stored → Type 0) → ℕ → List Stored → Type 0
EachFrom Holds h [] = Unit {0}
EachFrom Holds h (file ∷ files) = Holds h file × EachFrom Holds (h + 1) files

-- the programs of one source and one choice know each other by this plan
abbrev pub plan_at : NormalForm → Assignment → (text : List ℕ) → Digest
plan_at program a text = plan_for text (printed_at program a)

-- Each file that is stored of a program is read as the program of its host, whatever the cost of the choice, the source's bytes and the
-- prefix are.
abbrev pub CompiledFilesAreReadBack : Type 0
CompiledFilesAreReadBack = (program : NormalForm) (a : Assignment) (text prefix : List ℕ) → CanRunAt program a.protocols
    → EachFrom (λ h file. IsReadBack program a.protocols (plan_at program a text) h file.content) 0 (compiled_at program a text prefix).stores

-- and each is short enough to be read, where the program has the hosts of the source that the text spells
abbrev pub IsShort : Stored → Type 0
IsShort file = length file.content ≤ most_host_file_bytes

abbrev pub CompiledFilesAreShort : Type 0
CompiledFilesAreShort = (text : List ℕ) (source : Source) (program : NormalForm) (a : Assignment) (prefix : List ℕ)
    → IsParse text (Ok source) → program.hosts ≡ (normal_form source).hosts → CanRunAt program a.protocols
    → AllByRecursion IsShort (compiled_at program a text prefix).stores

-- the text spells a source, the program is the one that is run for that source, and this is its choice of protocols
pub record IsCompiled (text : List ℕ) (program : NormalForm) (a : Assignment) : Type 0 where
  pub source : Source
  pub parsed : IsParse text (Ok source)
  pub is_run : IsRunProgram source program
  pub selected : IsSelected program a

-- The file has the name of the host's, is not longer than one that is read may be, and is read as the host's program.
pub record IsFileOf (program : NormalForm) (list : List Proto) (plan : Digest) (prefix : List ℕ) (h : ℕ) (file : Stored) : Type 0 where
  pub name : file.name ≡ file_name prefix h (codes ".host")
  pub short : IsShort file
  pub read : IsReadBack program list plan h file.content

-- a file for each host, in order
pub record AreFilesOf (program : NormalForm) (list : List Proto) (plan : Digest) (prefix : List ℕ) (files : List Stored) : Type 0 where
  pub counted : length files ≡ length program.hosts
  pub each : EachFrom (IsFileOf program list plan prefix) 0 files

abbrev pub CompiledFilesCanBeRead : NormalForm → Type 0
CompiledFilesCanBeRead program = (a : Assignment) (text prefix : List ℕ) → IsCompiled text program a
    → AreFilesOf program a.protocols (plan_at program a text) prefix (compiled_at program a text prefix).stores
