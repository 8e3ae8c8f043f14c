-- The command `depends`.
use Rattle.std.specs.Prelude.{ℕ, Bool, true, List, [], ◌∷◌, ◌++◌, length, map, filter, flat_map, slice_index_or, Result, Ok, Err}
use Rattle.std.specs.List.{list_any}
use Rattle.std.specs.Option.{option_map_or}
use Rattle.vd_base.specs.HostSets.{has_host, host, hosts}
use Rattle.vd_base.specs.declared.ids.HostId.{HostId}
use Rattle.vd_base.specs.declared.protocols.HostSet.{HostSet}
use Rattle.vd_constraints.specs.declared.labels.Labels.{Labels}
use Rattle.vd_core.specs.declared.source.Source.{Source}
use Rattle.vd_core.specs.declared.normal.NormalForm.{NormalForm}
use Rattle.vd_elaborate.specs.Normal.{normal_form}
use Rattle.vd_cmd_rewrite.specs.RunPrograms.{run_form}
use Rattle.vd_outside.specs.Files.{FilesView, Contents}
use Rattle.vd_report.specs.Hosts.{host_of}
use Rattle.vd_report.specs.Lines.{number_field}
use Rattle.vd_cmd_plan.specs.Plans.{Plan, Executes, check_then, answer_then, ended}
use Rattle.vd_cmd_plan.specs.declared.answer.Answer.{Answer}
use Rattle.vd_cmd_plan.specs.declared.status.Status.{Status}
use Rattle.vd_cmd_plan.specs.declared.status.Status.TheVariants.{NoHost}
use Rattle.vd_cmd_labels.specs.Labelling.{labels_of}
use Rattle.vd_cmd_labels.specs.Outcomes.{TextOutcomes, LabelOutcomes}
use Rattle.vd_cmd_labels.specs.Sources.{source_then}
use Rattle.vd_cmd_depends.specs.Outcomes.{DependenceOutcomes}

-- the name of a host, behind a space
abbrev pub name_field : List (List ℕ) → HostId → List ℕ
name_field names h = 32 ∷ slice_index_or names h.0 []

-- the name of a host, behind a comma
abbrev pub other_name : List (List ℕ) → HostId → List ℕ
other_name names h = 0x2c ∷ slice_index_or names h.0 []

-- the names of hosts in one word, with commas between them
abbrev pub joined_names : List (List ℕ) → List HostId → List ℕ
joined_names names [] = []
joined_names names (h ∷ others) = slice_index_or names h.0 [] ++ flat_map (other_name names) others

-- some of these sets has the host
abbrev pub in_some : List HostSet → HostId → Bool
in_some sets h = list_any (λ set. has_host set h) sets

-- hosts in one word, how many hosts some of them depends on, and their names in host order
abbrev pub hosts_line : List (List ℕ) → List HostId → List HostSet → List ℕ
hosts_line names group sets =
    let list = filter (in_some sets) (hosts (length names)) in
    joined_names names group ++ (number_field (length list) ++ (flat_map (name_field names) list ++ 10 ∷ []))

-- the host of this name, or the status of its refusal
abbrev pub as_host : List (List ℕ) → List ℕ → Result HostId Status
as_host names name = option_map_or (λ place. Ok (host place)) (host_of names name) (Err (NoHost name))

-- a host before others
abbrev pub host_before : Result HostId Status → Result (List HostId) Status → Result (List HostId) Status
host_before (Err status) others = Err status
host_before (Ok h) (Err status) = Err status
host_before (Ok h) (Ok others) = Ok (h ∷ others)

-- the hosts of these names, or the status of the first refusal
unfoldable pub as_hosts : List (List ℕ) → List (List ℕ) → Result (List HostId) Status
as_hosts hosts [] = Ok []
as_hosts hosts (name ∷ names) = host_before (as_host hosts name) (as_hosts hosts names)

-- what is printed of a group of hosts
abbrev pub group_answer : DependenceOutcomes → NormalForm → Labels → List HostId → Answer
group_answer outcomes p labels group = ended [] (hosts_line p.hosts group (map (outcomes.hosts p labels) group))

-- what `depends` does with a program: it looks for the hosts, then for labels
abbrev pub program_plan : LabelOutcomes → DependenceOutcomes → List (List ℕ) → NormalForm → Contents → Plan
program_plan least outcomes names p =
    check_then (as_hosts p.hosts names) (λ group. check_then (labels_of least p) (λ labels. answer_then (group_answer outcomes p labels group)))

abbrev pub depends_plan : TextOutcomes → LabelOutcomes → DependenceOutcomes → List ℕ → List (List ℕ) → Contents → Plan
depends_plan texts least outcomes source names = source_then texts source (λ tree. program_plan least outcomes names (run_form least (normal_form tree)))

abbrev pub ExecutesProgram : List (List ℕ) → NormalForm → Result Answer Status → Type 0
ExecutesProgram names p result =
    (least : LabelOutcomes) (outcomes : DependenceOutcomes) (files : FilesView) → Executes true (program_plan least outcomes names p) files files result

abbrev pub ExecutesSource : List (List ℕ) → Source → Result Answer Status → Type 0
ExecutesSource names source result =
    (least : LabelOutcomes) (outcomes : DependenceOutcomes) (files : FilesView) → Executes true (program_plan least outcomes names (run_form least (normal_form source))) files files result

abbrev pub ExecutesDepends : List ℕ → List (List ℕ) → FilesView → FilesView → Result Answer Status → Type 0
ExecutesDepends source names before now result =
    (texts : TextOutcomes) (least : LabelOutcomes) (outcomes : DependenceOutcomes) → Executes true (depends_plan texts least outcomes source names) before now result
