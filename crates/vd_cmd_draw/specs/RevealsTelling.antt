-- What `reveals` says where it ends well.
use Rattle.std.specs.Prelude.{◌≡◌, ℕ, List, Ok}
use Rattle.vd_base.specs.declared.ids.HostId.{HostId}
use Rattle.vd_outside.specs.Files.{Contents}
use Rattle.vd_core.specs.declared.source.Source.{Source}
use Rattle.vd_core.specs.declared.normal.NormalForm.{NormalForm}
use Rattle.vd_core.specs.Numbers.{NumbersFit}
use Rattle.vd_noninter_protocols.specs.Learning.{NewWordsTell}
use Rattle.vd_cmd_rewrite.specs.RunPrograms.{IsRunProgram}
use Rattle.vd_search_stages.specs.Choices.{ChoiceOutcomes}
use Rattle.vd_search_stages.specs.declared.optimum.Assignment.{Assignment}
use Rattle.vd_cmd.specs.declared.command.RevealsWords.{RevealsWords}
use Rattle.vd_cmd_plan.specs.declared.status.Status.TheVariants.{Ended}
use Rattle.vd_cmd_labels.specs.Outcomes.{LabelOutcomes, TextOutcomes}
use Rattle.vd_cmd_labels.specs.Sources.{HoldsSource}
use Rattle.vd_cmd_choice.specs.Searching.{Searched, searched_by}
use Rattle.vd_cmd_choice.specs.Outcomes.{CertificateOutcomes}
use Rattle.vd_cmd_choice.specs.Choice.{IsSelected}
use Rattle.vd_cmd_draw.specs.Reveals.{reveals_text}
use Rattle.vd_cmd_draw.specs.Revealing.{asked_hosts, reveals_plan}

-- The file is the text of a source that meets every rule, and what is printed are the lines of the hosts that are asked for, at its choice
-- of protocols: the valid assignment of least cost, the first of these in order.
pub record TellsReveals (words : RevealsWords) (contents : Contents) (printed : List ℕ) : Type 0 where
  pub source : Source
  pub held : HoldsSource words.source contents source
  pub program : NormalForm
  pub is_run : IsRunProgram source program
  pub assignment : Assignment
  pub selected : IsSelected program assignment
  pub asked : List HostId
  pub are_asked : asked_hosts program.hosts words.host ≡ Ok asked
  pub lines : printed ≡ reveals_text held.bytes program assignment.protocols asked
  -- what comes to a host in clear is told by its own inputs and by the words that are new to it where they come
  pub enough : NumbersFit program → (h : HostId) → NewWordsTell program selected.labels assignment.protocols h

-- so does its plan, whatever functions pick outcomes and whatever a search answers
abbrev pub RevealsTell : Type 0
RevealsTell = (texts : TextOutcomes) (least : LabelOutcomes) (certificates : CertificateOutcomes) (choices : ChoiceOutcomes) (searched : Searched)
    → (words : RevealsWords) (contents : Contents)
    → let plan = reveals_plan texts least choices (searched_by certificates choices searched) words contents in
    plan.answer.status ≡ Ended → TellsReveals words contents plan.answer.printed
