-- Files that hold the programs of all hosts of a source.
use Rattle.std.specs.Prelude.{◌<◌, ℕ, List, codes, length}
use Rattle.vd_base.specs.declared.protocols.Proto.{Proto}
use Rattle.vd_base.specs.Limits.{most_host_file_bytes}
use Rattle.vd_core.specs.declared.normal.NormalForm.{NormalForm}
use Rattle.vd_core.specs.declared.source.Source.{Source}
use Rattle.vd_search_stages.specs.declared.optimum.Assignment.{Assignment}
use Rattle.vd_cmd_rewrite.specs.RunPrograms.{IsRunProgram, TellsAs}
use Rattle.vd_outside.specs.Files.{Contents}
use Rattle.vd_hostcode.specs.declared.host_text.program.Digest.{Digest}
use Rattle.vd_cmd_plan.specs.Held.{IsHeld}
use Rattle.vd_cmd_plan.specs.Numbered.{file_name}
use Rattle.vd_cmd_labels.specs.Sources.{IsSourceText}
use Rattle.vd_projection.specs.Stored.{CanBeStored}
use Rattle.vd_cmd_compile.specs.Compiling.{plan_for}
use Rattle.vd_cmd_choice.specs.Choice.{IsSelected}
use Rattle.vd_cmd_laws.specs.Compiled.{IsReadBack}

-- The file of the host with this number, by its name, is read as the program of that host.
abbrev pub HoldsProgram : NormalForm → List Proto → Digest → (prefix : List ℕ) → Contents → ℕ → Type 0
HoldsProgram program list plan prefix contents h =
    IsHeld (file_name prefix h (codes ".host")) most_host_file_bytes contents (IsReadBack program list plan h)

-- These bytes are the text of a source that meets every rule. The slots of the program that is run for it stand at their choice of
-- protocols, and each host's file holds its part of that program's joint code at that choice. All programs have one plan: the digest
-- of these bytes and of what was printed.
pub record IsCompilation (text prefix printed : List ℕ) (contents : Contents) : Type 0 where
  pub source : Source
  pub read : IsSourceText source text
  pub program : NormalForm
  pub is_run : IsRunProgram source program
  pub tells : TellsAs source program
  pub assignment : Assignment
  pub selected : IsSelected program assignment
  pub programs : (h : ℕ) → h < length program.hosts → HoldsProgram program assignment.protocols (plan_for text printed) prefix contents h
  -- what the laws on hosts that run these programs ask of them
  pub can_be_stored : (h : ℕ) → h < length program.hosts → CanBeStored program assignment.protocols (plan_for text printed) h
