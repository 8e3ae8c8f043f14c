-- What is stored and printed: a deal by which a host sees of the second inputs what it saw of the first.
use Rattle.std.specs.Prelude.{◌≡◌, ℕ, ◌-◌, ◌<◌, List, Some, Result, IfOk}
use Rattle.vd_base.specs.declared.ids.HostId.{HostId}
use Rattle.vd_outside.specs.Files.{FilesView, Contents}
use Rattle.vd_outside.specs.declared.stored.Stored.{Stored}
use Rattle.vd_core.specs.declared.normal.NormalForm.{NormalForm}
use Rattle.vd_core.specs.declared.source.Source.{Source}
use Rattle.vd_search_stages.specs.declared.optimum.Assignment.{Assignment}
use Rattle.vd_cmd_rewrite.specs.RunPrograms.{IsRunProgram}
use Rattle.vd_cmd.specs.declared.command.ExcuseWords.{ExcuseWords}
use Rattle.vd_tape.specs.declared.deal_items.deal.Deal.{Deal}
use Rattle.vd_report.specs.Hosts.{host_of}
use Rattle.vd_cmd_plan.specs.Held.{Finds}
use Rattle.vd_cmd_plan.specs.declared.answer.Answer.{Answer}
use Rattle.vd_cmd_plan.specs.declared.status.Status.{Status}
use Rattle.vd_cmd_plan.specs.declared.status.Status.TheVariants.{Ended}
use Rattle.vd_cmd_labels.specs.Sources.{HoldsSource}
use Rattle.vd_cmd_choice.specs.Choice.{IsSelected}
use Rattle.vd_views.specs.Views.{alone}
use Rattle.vd_views.specs.Explained.{IsOfTwo, plan_of, AgreeFor}
use Rattle.vd_views.specs.Files.{IsExcuse}
use Rattle.vd_excuse.specs.Talk.{talk}
use Rattle.vd_cmd_excuse.specs.declared.runs.Runs.{Runs}
use Rattle.vd_cmd_excuse.specs.Runs.{HoldRuns}
use Rattle.vd_cmd_excuse.specs.Excusing.{excused_files, talk_line}

-- The program has two hosts, and none of the protocols of its choice is a commitment. The host of this name knows the same words of
-- both inputs. The files that are stored are those of deals which explain the second inputs to it, each of the version of the file that
-- was read, with its name and keys. What is printed is what the other host sends it: the same in both runs.
pub record IsExcuseOf (name : List ℕ) (p : NormalForm) (runs : Runs) (out : List ℕ) (stored : List Stored) (printed : List ℕ) : Type 0 where
  pub assignment : Assignment
  pub selected : IsSelected p assignment
  pub two : IsOfTwo p selected.labels assignment.protocols
  pub host : HostId
  pub low : host.0 < 2
  pub named : host_of p.hosts name ≡ Some host.0
  pub agree : AgreeFor p selected.labels assignment.protocols (alone host.0) runs.first runs.second
  pub deals : List Deal
  pub explain : IsExcuse host.0 (plan_of p assignment.protocols) runs.first runs.second runs.dealing.deals deals
  pub files : stored ≡ excused_files out runs.dealing.secrets deals
  pub line : printed ≡ talk_line p.hosts host (talk p assignment.protocols runs.first runs.dealing.deals (1 - host.0) host.0)
  pub line_too : printed ≡ talk_line p.hosts host (talk p assignment.protocols runs.second deals (1 - host.0) host.0)

-- of a program, on what the files say that the words name
pub record IsExcuseIn (words : ExcuseWords) (p : NormalForm) (contents : Contents) (stored : List Stored) (printed : List ℕ) : Type 0 where
  pub runs : Runs
  pub held : HoldRuns words p.hosts contents runs
  pub excuse : IsExcuseOf words.host p runs words.out stored printed

-- of the program that is run for the source that the first file holds
pub record IsExcuseBy (words : ExcuseWords) (contents : Contents) (stored : List Stored) (printed : List ℕ) : Type 0 where
  pub source : Source
  pub is_source : HoldsSource words.source contents source
  pub program : NormalForm
  pub is_run : IsRunProgram source program
  pub excuse : IsExcuseIn words program contents stored printed

-- ---- where the command ended well, its answer is such

abbrev pub TellsOf : (name out : List ℕ) → NormalForm → Runs → Result Answer Status → Type 0
TellsOf name out p runs result = IfOk result (λ answer. answer.status ≡ Ended → IsExcuseOf name p runs out answer.stores answer.printed)

-- whatever its name is
abbrev pub TellsAt : HostId → NormalForm → (out : List ℕ) → Runs → Result Answer Status → Type 0
TellsAt h p out runs result = (name : List ℕ) → host_of p.hosts name ≡ Some h.0 → TellsOf name out p runs result

abbrev pub TellsExcuse : ExcuseWords → FilesView → Result Answer Status → Type 0
TellsExcuse words before result = Finds before result (λ contents answer. answer.status ≡ Ended → IsExcuseBy words contents answer.stores answer.printed)
