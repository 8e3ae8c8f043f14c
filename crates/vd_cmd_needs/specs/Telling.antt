-- What a run of `needs` or `rounds` has shown.
use Rattle.std.specs.Prelude.{◌≡◌, ◌<◌, ℕ, List, [], length, get_or, Result, Ok, IfOk}
use Rattle.vd_base.specs.Limits.{most_host_file_bytes}
use Rattle.vd_outside.specs.Files.{FilesView, Contents}
use Rattle.vd_core.specs.declared.normal.NormalForm.{NormalForm}
use Rattle.vd_core.specs.declared.source.Source.{Source}
use Rattle.vd_search_stages.specs.declared.optimum.Assignment.{Assignment}
use Rattle.vd_cmd_rewrite.specs.RunPrograms.{IsRunProgram}
use Rattle.vd_execution.specs.Joint.{Joint, IsTidy, code_of}
use Rattle.vd_execution.specs.Step.{Source as Listed}
use Rattle.vd_execution.specs.Claims.{reached}
use Rattle.vd_execution.specs.Histories.{gone}
use Rattle.vd_execution.specs.World.{Supply}
use Rattle.vd_execution.specs.Text.{IsCodeOf}
use Rattle.vd_deal_needs.specs.DealNeedsLawsNeeds.{counts, takes}
use Rattle.vd_deal_needs.specs.Counted.{code_in}
use Rattle.vd_hostcode.specs.declared.host_text.program.HostProgram.{HostProgram}
use Rattle.vd_hostcode.specs.Outcome.{IsOutcome}
use Rattle.vd_cmd.specs.declared.command.NeedsKind.{NeedsKind}
use Rattle.vd_cmd.specs.declared.command.NeedsWords.{NeedsWords}
use Rattle.vd_projection.specs.Programs.{host_codes, joint_of}
use Rattle.vd_rounds.specs.TallyLaws.{TellsWithin, alone}
use Rattle.vd_cmd_plan.specs.Held.{Finds, IsHeld}
use Rattle.vd_cmd_plan.specs.declared.answer.Answer.{Answer}
use Rattle.vd_cmd_plan.specs.declared.status.Status.{Status}
use Rattle.vd_cmd_plan.specs.declared.status.Status.TheVariants.{Ended}
use Rattle.vd_cmd_labels.specs.Sources.{IsSourceText}
use Rattle.vd_cmd_choice.specs.Choice.{IsSelected}
use Rattle.vd_deal_needs.specs.Enough.{AreEnough, AreLeast, AreMade, sizes_for}
use Rattle.vd_cmd_needs.specs.Needing.{needs_text, program_text}

-- What is printed of a program is what its hosts take, or tell, at its choice of protocols. A deal of the sizes that are printed suffices
-- for all inputs under every schedule, and where no branch takes differently no smaller one does. Under every schedule no host tells
-- another more packets or words than are printed, and one that has ended told no fewer than the least of them.
pub record IsNeedsOf (kind : NeedsKind) (program : NormalForm) (printed : List ℕ) : Type 0 where
  pub assignment : Assignment
  pub selected : IsSelected program assignment
  pub line : printed ≡ needs_text kind program assignment.protocols
  pub enough : AreEnough program assignment.protocols
  pub made : AreMade (sizes_for program assignment.protocols)
  pub least : AreLeast program assignment.protocols
  pub codes : (h : ℕ) → h < length program.hosts
      → code_in (get_or (host_codes program assignment.protocols) h []) ≡ code_of h (joint_of program assignment.protocols)
  pub tells : (s : Supply) (turns : List ℕ) (h : ℕ)
      → TellsWithin (code_of h (joint_of program assignment.protocols)) (reached s (joint_of program assignment.protocols) turns h)

-- of a source that meets every rule, whose text the bytes are
pub record IsNeedsOfSource (kind : NeedsKind) (bytes printed : List ℕ) : Type 0 where
  pub source : Source
  pub text : IsSourceText source bytes
  pub program : NormalForm
  pub is_run : IsRunProgram source program
  pub needs : IsNeedsOf kind program printed

-- Of the program of a host: what it takes at most, whatever joint code it is that host's part of; or what it tells each other host,
-- whatever words it is given.
pub record IsNeedsOfHost (kind : NeedsKind) (bytes printed : List ℕ) : Type 0 where
  pub program : HostProgram
  pub read : IsOutcome bytes (Ok program)
  pub line : printed ≡ program_text kind program
  pub nested : IsCodeOf program.code (code_in program.code)
  pub taken : (j : Joint) (list : Listed) → IsTidy j → IsCodeOf program.code (code_of program.me.0 j) → takes j program.me.0 list ≡ counts (code_in program.code) list
  pub tells : (words : List (List ℕ)) → TellsWithin (code_in program.code) (gone (alone (code_in program.code)) words)

-- of the file
pub data IsNeedsOfBytes (kind : NeedsKind) (bytes printed : List ℕ) : Type 0 where
  OfSource : IsNeedsOfSource kind bytes printed → IsNeedsOfBytes kind bytes printed
  OfHost : IsNeedsOfHost kind bytes printed → IsNeedsOfBytes kind bytes printed

abbrev pub IsNeeds : NeedsWords → Contents → (printed : List ℕ) → Type 0
IsNeeds words contents printed = IsHeld words.file most_host_file_bytes contents (λ bytes. IsNeedsOfBytes words.kind bytes printed)

-- ---- where the command ended well, what is printed is that

abbrev pub TellsProgram : NeedsKind → NormalForm → Result Answer Status → Type 0
TellsProgram kind program result = IfOk result (λ answer. answer.status ≡ Ended → IsNeedsOf kind program answer.printed)

abbrev pub TellsText : NeedsWords → List ℕ → Result Answer Status → Type 0
TellsText words bytes result = IfOk result (λ answer. answer.status ≡ Ended → IsNeedsOfSource words.kind bytes answer.printed)

abbrev pub TellsHost : NeedsKind → List ℕ → Result Answer Status → Type 0
TellsHost kind bytes result = IfOk result (λ answer. IsNeedsOfHost kind bytes answer.printed)

abbrev pub TellsBytes : NeedsWords → List ℕ → Result Answer Status → Type 0
TellsBytes words bytes result = IfOk result (λ answer. answer.status ≡ Ended → IsNeedsOfBytes words.kind bytes answer.printed)

abbrev pub TellsNeeds : NeedsWords → FilesView → Result Answer Status → Type 0
TellsNeeds words before result = Finds before result (λ contents answer. answer.status ≡ Ended → IsNeeds words contents answer.printed)
