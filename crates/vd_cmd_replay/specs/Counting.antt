-- How many packets the hosts of a replay sent to one another.
use Rattle.std.specs.Prelude.{◌≡◌, ℕ, Option, Some, List, length, Result, IfOk}
use Rattle.vd_base.specs.declared.protocols.Proto.{Proto}
use Rattle.vd_outside.specs.Files.{FilesView, Contents}
use Rattle.vd_core.specs.declared.normal.NormalForm.{NormalForm}
use Rattle.vd_core.specs.declared.source.Source.{Source}
use Rattle.vd_search_stages.specs.declared.optimum.Assignment.{Assignment}
use Rattle.vd_cmd_rewrite.specs.RunPrograms.{IsRunProgram}
use Rattle.vd_cmd.specs.declared.command.ReplayWords.{ReplayWords}
use Rattle.vd_world.specs.Packets.{counted, packets_of}
use Rattle.vd_cmd_plan.specs.Held.{Finds}
use Rattle.vd_cmd_plan.specs.declared.answer.Answer.{Answer}
use Rattle.vd_cmd_plan.specs.declared.status.Status.{Status}
use Rattle.vd_cmd_plan.specs.declared.status.Status.TheVariants.{Ended}
use Rattle.vd_cmd_labels.specs.Sources.{HoldsSource}
use Rattle.vd_cmd_choice.specs.Choice.{IsSelected}
use Rattle.vd_cmd_files.specs.declared.run_files.RunFiles.{RunFiles}
use Rattle.vd_cmd_files.specs.Asking.{HoldAsked}
use Rattle.vd_cmd_replay.specs.Replaying.{world_for}

-- those of the world to which the schedule leads, as far as 64 bits tell it
abbrev pub packets_for : NormalForm → List Proto → RunFiles → ℕ
packets_for program protocols asked = counted (packets_of (world_for program protocols asked) (length program.hosts))

-- the count is that of the hosts of a program at its choice of protocols
pub record IsCount (program : NormalForm) (asked : RunFiles) (packets : Option ℕ) : Type 0 where
  pub assignment : Assignment
  pub selected : IsSelected program assignment
  pub packets_are : packets ≡ Some (packets_for program assignment.protocols asked)

-- on what the files say that the words name
pub record IsCountOf (words : ReplayWords) (program : NormalForm) (contents : Contents) (packets : Option ℕ) : Type 0 where
  pub asked : RunFiles
  pub held : HoldAsked words program.hosts contents asked
  pub count : IsCount program asked packets

-- and of the program that is run for the source that they hold
pub record IsReplayCount (words : ReplayWords) (contents : Contents) (packets : Option ℕ) : Type 0 where
  pub source : Source
  pub is_source : HoldsSource words.source contents source
  pub program : NormalForm
  pub is_run : IsRunProgram source program
  pub count : IsCountOf words program contents packets

-- ---- where a program was run, so many packets are counted

abbrev pub CountsOf : NormalForm → RunFiles → Option ℕ → Result Answer Status → Type 0
CountsOf program asked packets result = IfOk result (λ answer. answer.status ≡ Ended → IsCount program asked packets)

abbrev pub CountsReplay : ReplayWords → FilesView → Option ℕ → Result Answer Status → Type 0
CountsReplay words before packets result = Finds before result (λ contents answer. answer.status ≡ Ended → IsReplayCount words contents packets)
