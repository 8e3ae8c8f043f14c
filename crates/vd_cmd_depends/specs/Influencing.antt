-- The command `influences`.
use Rattle.std.specs.Prelude.{◌≡◌, ℕ, Bool, true, false, ◌&&◌, not, List, Some, [], ◌∷◌, ◌++◌, filter, flat_map, length, slice_index_or, Result, IfOk}
use Rattle.vd_base.specs.HostSets.{has_host, hosts, members}
use Rattle.vd_base.specs.declared.ids.HostId.{HostId}
use Rattle.vd_base.specs.declared.protocols.HostSet.{HostSet}
use Rattle.vd_core.specs.Facts.{IsWellMade}
use Rattle.vd_core.specs.declared.source.Source.{Source}
use Rattle.vd_core.specs.declared.normal.NormalForm.{NormalForm}
use Rattle.vd_elaborate.specs.Normal.{normal_form}
use Rattle.vd_cmd_rewrite.specs.RunPrograms.{run_form}
use Rattle.vd_cmd_rewrite.specs.RunPrograms.{IsRunProgram}
use Rattle.vd_outside.specs.Files.{FilesView, Contents}
use Rattle.vd_report.specs.Hosts.{host_of}
use Rattle.vd_report.specs.Lines.{number_field}
use Rattle.vd_cmd_plan.specs.Held.{Finds}
use Rattle.vd_cmd_plan.specs.Plans.{Plan, Executes, check_then, answer_then, ended}
use Rattle.vd_cmd_plan.specs.declared.answer.Answer.{Answer}
use Rattle.vd_cmd_plan.specs.declared.status.Status.{Status}
use Rattle.vd_cmd_plan.specs.declared.status.Status.TheVariants.{Ended}
use Rattle.vd_cmd_labels.specs.Labelling.{labels_of}
use Rattle.vd_cmd_labels.specs.Outcomes.{TextOutcomes, LabelOutcomes}
use Rattle.vd_cmd_labels.specs.Sources.{HoldsSource, source_then}
use Rattle.vd_noninter.specs.Hosts.{members as is_member}
use Rattle.vd_noninter.specs.IntegrityLawsInfluence.{AreEnoughToTell, AreInfluences, AreTrusted}
use Rattle.vd_cmd_depends.specs.Depending.{as_host, name_field}

-- a function that gives each host of a program the hosts whose inputs bear on what it is told, through endorsements or not
pub record InfluenceOutcomes : Type 0 where
  pub hosts : Bool → NormalForm → HostId → HostSet
  pub hosts_are : (passed : Bool) (p : NormalForm) (h : HostId) → IsWellMade p → AreInfluences passed p h (is_member (hosts passed p h))

-- those of the first n hosts that one set has and the other lacks
abbrev pub lacked : ℕ → HostSet → HostSet → List HostId
lacked n all direct = filter (λ h. has_host all h && not (has_host direct h)) (hosts n)

-- how many hosts there are, and their names
abbrev pub hosts_field : List (List ℕ) → List HostId → List ℕ
hosts_field names list = number_field (length list) ++ flat_map (name_field names) list

-- A host; how many hosts' inputs bear on what it is told, and their names in host order; and the same of those among them whose
-- inputs do so through endorsements alone.
abbrev pub influence_line : List (List ℕ) → HostId → HostSet → HostSet → List ℕ
influence_line names h all direct =
    slice_index_or names h.0 [] ++ (hosts_field names (members (length names) all) ++ (hosts_field names (lacked (length names) all direct) ++ 10 ∷ []))

-- what `influences` does with a program: it looks for the host, then for labels
abbrev pub influence_plan : LabelOutcomes → InfluenceOutcomes → List ℕ → NormalForm → Contents → Plan
influence_plan least outcomes name p =
    check_then (as_host p.hosts name) (λ h. check_then (labels_of least p) (λ labels. answer_then (ended [] (influence_line p.hosts h (outcomes.hosts true p h) (outcomes.hosts false p h)))))

abbrev pub influences_plan : TextOutcomes → LabelOutcomes → InfluenceOutcomes → List ℕ → List ℕ → Contents → Plan
influences_plan texts least outcomes source name = source_then texts source (λ tree. influence_plan least outcomes name (run_form least (normal_form tree)))

abbrev pub ExecutesProgram : List ℕ → NormalForm → Result Answer Status → Type 0
ExecutesProgram name p result =
    (least : LabelOutcomes) (outcomes : InfluenceOutcomes) (files : FilesView) → Executes true (influence_plan least outcomes name p) files files result

abbrev pub ExecutesSource : List ℕ → Source → Result Answer Status → Type 0
ExecutesSource name source result =
    (least : LabelOutcomes) (outcomes : InfluenceOutcomes) (files : FilesView) → Executes true (influence_plan least outcomes name (run_form least (normal_form source))) files files result

abbrev pub ExecutesInfluences : List ℕ → List ℕ → FilesView → FilesView → Result Answer Status → Type 0
ExecutesInfluences source name before now result =
    (texts : TextOutcomes) (least : LabelOutcomes) (outcomes : InfluenceOutcomes) → Executes true (influences_plan texts least outcomes source name) before now result

-- This line names the hosts whose inputs bear on what the host of this name is told.
pub record IsInfluenceLine (name : List ℕ) (p : NormalForm) (printed : List ℕ) : Type 0 where
  pub host : HostId
  pub named : host_of p.hosts name ≡ Some host.0
  pub all : HostSet
  pub direct : HostSet
  pub line : printed ≡ influence_line p.hosts host all direct
  -- they are those whose inputs are reached from what is output to the host, and no other
  pub reached : AreInfluences true p host (is_member all)
  -- those that are not named a second time are those that are reached without endorsements, and no other
  pub reached_directly : AreInfluences false p host (is_member direct)
  pub nested : (k : ℕ) → is_member direct k ≡ true → is_member all k ≡ true
  -- Two families of inputs that agree on theirs give the host the same outputs.
  pub enough : AreEnoughToTell true p host (is_member all)
  -- So do two that agree on those that are not named a second time, and under which the words of all reached endorsements are the same.
  pub enough_endorsed : AreEnoughToTell false p host (is_member direct)
  -- each that is not named a second time has an integrity that acts for that of the host
  pub trusted : AreTrusted p host (is_member direct)

-- The file is the text of a source that meets every rule, and the line is that of the program that is run for it.
pub record IsInfluenceOf (source name : List ℕ) (contents : Contents) (printed : List ℕ) : Type 0 where
  pub tree : Source
  pub held : HoldsSource source contents tree
  pub program : NormalForm
  pub is_run : IsRunProgram tree program
  pub line : IsInfluenceLine name program printed

abbrev pub TellsProgram : List ℕ → NormalForm → Result Answer Status → Type 0
TellsProgram name p result = IfOk result (λ answer. answer.status ≡ Ended → IsInfluenceLine name p answer.printed)

abbrev pub TellsSource : List ℕ → Source → Result Answer Status → Type 0
TellsSource name source result = IfOk result (λ answer. answer.status ≡ Ended → (program : NormalForm) × IsRunProgram source program × IsInfluenceLine name program answer.printed)

abbrev pub TellsInfluence : (source name : List ℕ) → FilesView → Result Answer Status → Type 0
TellsInfluence source name before result = Finds before result (λ contents answer. answer.status ≡ Ended → IsInfluenceOf source name contents answer.printed)
