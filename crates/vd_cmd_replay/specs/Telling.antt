-- What is printed: how hosts stand that have printed a prefix of what the source tells them.
use Rattle.std.specs.Prelude.{◌≡◌, ℕ, ◌<◌, List, [], length, Result, IfOk}
use Rattle.vd_outside.specs.Files.{FilesView, Contents}
use Rattle.vd_core.specs.declared.normal.NormalForm.{NormalForm}
use Rattle.vd_core.specs.declared.source.Source.{Source}
use Rattle.vd_semantics.specs.ProgramMeaning.{program_outputs}
use Rattle.vd_semantics.specs.SourceMeaning.{host_names, source_outputs}
use Rattle.vd_search_stages.specs.declared.optimum.Assignment.{Assignment}
use Rattle.vd_cmd_rewrite.specs.RunPrograms.{IsRunProgram}
use Rattle.vd_cmd.specs.declared.command.ReplayWords.{ReplayWords}
use Rattle.vd_tape.specs.Validity.{IsConsistent}
use Rattle.vd_execution.specs.declared.instructions.Instr.{Instr}
use Rattle.vd_execution.specs.Joint.{Joint, code_of, started}
use Rattle.vd_execution.specs.Text.{text}
use Rattle.vd_projection.specs.Programs.{joint_of}
use Rattle.vd_world.specs.Loading.{AreCodesOf}
use Rattle.vd_world.specs.Reports.{report_of}
use Rattle.vd_world.specs.Schedules.{replayed}
use Rattle.vd_world.specs.Supplies.{supply_of_files}
use Rattle.vd_world.specs.Told.{TellsUnder}
use Rattle.vd_cmd_plan.specs.Held.{Finds}
use Rattle.vd_cmd_plan.specs.declared.answer.Answer.{Answer}
use Rattle.vd_cmd_plan.specs.declared.status.Status.{Status}
use Rattle.vd_cmd_plan.specs.declared.status.Status.TheVariants.{Ended}
use Rattle.vd_cmd_labels.specs.Sources.{HoldsSource}
use Rattle.vd_cmd_compile.specs.Compiling.{IsStoredFor}
use Rattle.vd_cmd_choice.specs.Choice.{IsSelected}
use Rattle.vd_cmd_compile.specs.Selected.{AreCovered}
use Rattle.vd_cmd_files.specs.declared.run_files.RunFiles.{RunFiles}
use Rattle.vd_cmd_files.specs.Asking.{HoldAsked}

-- ---- the two halves of the headline

-- What is told. Hosts of these names run this joint code, each its own part, and what is printed is the report of their world.
pub record IsReportOf (names outputs : List (List ℕ)) (asked : RunFiles) (joint : Joint) (printed : List ℕ) : Type 0 where
  -- there is a code for each host, which can be loaded and is that host's part of the joint code
  pub codes : List (List Instr)
  pub counted : length codes ≡ length names
  pub parts : AreCodesOf codes joint
  -- the deals of all hosts keep their identities
  pub consistent : IsConsistent asked.deals
  -- what is printed is the report of the world to which the schedule leads from the start of all hosts
  pub report : let supply = supply_of_files asked.inputs asked.deals in
      printed ≡ report_of names supply (replayed supply (length names) asked.schedule (started joint)) asked.messages
  -- in that world each host has printed a prefix of the words that it is told, and all else holds that is claimed of every schedule
  pub told : TellsUnder (length names) outputs (supply_of_files asked.inputs asked.deals) joint asked.schedule

-- Which code it is: that of a program at its choice of protocols.
pub record IsCodeAtChoice (program : NormalForm) (joint : Joint) : Type 0 where
  -- the choice: valid under the least labels, of least cost, and the first of these in order
  pub assignment : Assignment
  pub selected : IsSelected program assignment
  -- the protocol of each slot covers its least label, in confidentiality and in integrity
  pub covered : AreCovered program selected.labels assignment.protocols
  -- the joint code is that of the program at this choice
  pub compiled : joint ≡ joint_of program assignment.protocols
  -- and each host's part of it is what `compile` stores for that host
  pub stored : (h : ℕ) → h < length program.hosts → IsStoredFor program assignment h (text (code_of h joint) [])

-- The report of a program with these outputs.
pub record IsReport (program : NormalForm) (outputs : List (List ℕ)) (asked : RunFiles) (printed : List ℕ) : Type 0 where
  pub joint : Joint
  pub told : IsReportOf program.hosts outputs asked joint printed
  pub code : IsCodeAtChoice program joint

-- ---- the headline

-- What the files hold that the words name: the first is the text of a source that meets every rule, and the others give inputs,
-- deals and a schedule for its hosts.
pub record HoldReplay (words : ReplayWords) (contents : Contents) : Type 0 where
  pub source : Source
  pub is_source : HoldsSource words.source contents source
  pub asked : RunFiles
  pub are_asked : HoldAsked words (host_names source.hosts) contents asked

-- The headline. What is printed is the report of a world in which each host of the source has printed a prefix of the words that the
-- source tells it, and sent a prefix of what the joint run sends, all of it where all hosts have ended. What runs there is the code, at
-- its choice of protocols, of the program that is run for the source.
pub record IsHeadline (words : ReplayWords) (contents : Contents) (printed : List ℕ) : Type 0 where
  pub held : HoldReplay words contents
  pub joint : Joint
  pub told : IsReportOf (host_names held.source.hosts) (source_outputs held.source held.asked.inputs) held.asked joint printed
  pub program : NormalForm
  pub is_run : IsRunProgram held.source program
  pub code : IsCodeAtChoice program joint

-- ---- where a program was run, what is printed is such a report

abbrev pub TellsOf : NormalForm → RunFiles → Result Answer Status → Type 0
TellsOf program asked result = IfOk result (λ answer. answer.status ≡ Ended → IsReport program (program_outputs program asked.inputs) asked answer.printed)

abbrev pub TellsHeadline : ReplayWords → FilesView → Result Answer Status → Type 0
TellsHeadline words before result = Finds before result (λ contents answer. answer.status ≡ Ended → IsHeadline words contents answer.printed)
