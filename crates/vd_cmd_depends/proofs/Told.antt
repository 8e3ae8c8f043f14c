-- What is told of the hosts on which some of a group depends.
use Rattle.std.proofs.Common.{◌≡◌, ◌++◌, ◌∷◌, ℕ, ◌<◌, true, Bool, IsTrue, List, [], length, map, flat_map, Result, Ok, Err, ap, subst, ◌∙◌}
use Rattle.std.specs.List.{filter}
use Rattle.vd_base.specs.HostSets.{hosts}
use Rattle.vd_base.specs.declared.ids.HostId.{HostId}
use Rattle.vd_base.specs.declared.protocols.HostSet.{HostSet}
use Rattle.vd_core.specs.Facts.{IsWellMade}
use Rattle.vd_core.specs.declared.source.Source.{Source}
use Rattle.vd_core.specs.declared.normal.NormalForm.{NormalForm}
use Rattle.vd_constraints.specs.Rules.{system_of}
use Rattle.vd_constraints.specs.Satisfies.{IsLeast}
use Rattle.vd_constraints.specs.declared.labels.Labels.{Labels}
use Rattle.vd_noninter.proofs.Front.{reached_once}
use Rattle.vd_noninter.specs.Hosts.{members}
use Rattle.vd_noninter_protocols.proofs.Front.{all_hear_reached}
use Rattle.vd_outside.specs.Files.{FilesView}
use Rattle.vd_report.specs.Lines.{number_field}
use Rattle.vd_cmd_labels.specs.Labelling.{labels_of}
use Rattle.vd_cmd_labels.specs.Outcomes.{LabelOutcomes}
use Rattle.vd_cmd_labels.specs.Sources.{HoldsSource}
use Rattle.vd_cmd_plan.proofs.Front.{answers, any_memory, check_step}
use Rattle.vd_cmd_plan.specs.Plans.{Checks, Computes, Executes, answer_then, check_then, ended}
use Rattle.vd_cmd_plan.specs.declared.answer.Answer.{Answer}
use Rattle.vd_cmd_plan.specs.declared.status.Status.{Status}
use Rattle.vd_cmd_plan.specs.declared.status.Status.TheVariants.{Memory}
use Rattle.vd_cmd_depends.specs.Depending.{as_hosts, group_answer, hosts_line, in_some, joined_names, name_field, program_plan}
use Rattle.vd_cmd_depends.specs.Outcomes.{DependenceOutcomes}
use Rattle.vd_cmd_depends.specs.Telling.{AreFound, EachOne, IsDependence, TellsDependence, TellsProgram, TellsSource}
use Rattle.vd_cmd_depends.proofs.Group.{each_named, found_named, group_named, same_some}

-- ---- sets with the same members have one line

abbrev line_with : List (List ℕ) → List HostId → (HostId → Bool) → List ℕ
line_with names group test =
    let list = filter test (hosts (length names)) in
    joined_names names group ++ (number_field (length list) ++ (flat_map (name_field names) list ++ 10 ∷ []))

same_line : (names : List (List ℕ)) (group : List HostId) (sets others : List HostSet) → ((k : HostId) → in_some sets k ≡ in_some others k) → hosts_line names group sets ≡ hosts_line names group others
same_line names group sets others agree =
    let tests : in_some sets ≡ in_some others = λ i k. agree k i in
    ap (λ (test : HostId → Bool). line_with names group test) tests

-- ---- with a program

module _ (names : List (List ℕ)) (p : NormalForm) where
  -- for these hosts, where they are those of the program
  checks_for : {hosts : List (List ℕ)} (result : Result (List HostId) Status) → hosts ≡ p.hosts → Checks (as_hosts hosts names) result → Checks (as_hosts p.hosts names) result
  checks_for result same checks = subst (λ (l : List (List ℕ)). Checks (as_hosts l names) result) same checks

  -- what was found for one of them
  abbrev FoundFor : Labels → HostId → HostSet → Type 0
  FoundFor labels h set = AreFound p labels h (members set)

  module _ (least : LabelOutcomes) (outcomes : DependenceOutcomes) (files : FilesView) (declared : List (List ℕ)) (same : declared ≡ p.hosts) where
    pub unnamed : (status : Status) → Checks {T = List HostId} (as_hosts declared names) (Err status) → Executes true (program_plan least outcomes names p) files files (Err status)
    unnamed status checks =
        check_step (as_hosts p.hosts names) files (Err status) (checks_for (Err status) same checks) (λ group. check_then (labels_of least p) (λ labels. answer_then (group_answer outcomes p labels group)))

    pub unlabelled : (group : List HostId) (status : Status) → Checks (as_hosts declared names) (Ok group) → Checks {T = Labels} (labels_of least p) (Err status)
        → Executes true (program_plan least outcomes names p) files files (Err status)
    unlabelled group status checks found =
        check_step (as_hosts p.hosts names) files (Ok group) (checks_for (Ok group) same checks) (λ hs. check_then (labels_of least p) (λ labels. answer_then (group_answer outcomes p labels hs))) files (Err status)
        (check_step (labels_of least p) files (Err status) found (λ labels. answer_then (group_answer outcomes p labels group)))

    pub no_memory : Executes true (program_plan least outcomes names p) files files (Err Memory)
    no_memory = any_memory (program_plan least outcomes names p) files

    pub answered : (group : List HostId) (labels : Labels) (sets : List HostSet) (result : Result Answer Status) → IsWellMade p → Checks (as_hosts declared names) (Ok group) → Checks (labels_of least p) (Ok labels)
        → IsLeast (system_of p) labels → EachOne (FoundFor labels) group sets → Computes (ended [] (hosts_line declared group sets)) result → Executes true (program_plan least outcomes names p) files files result
    answered group labels sets result well checks found is_least each computes =
        let once = λ (h : HostId) (set : HostSet) (is : FoundFor labels h set).
        reached_once p labels h (members set) (members (outcomes.hosts p labels h)) is.reached (outcomes.hosts_are p labels h well is_least.is) in
        let line : hosts_line declared group sets ≡ hosts_line p.hosts group (map (outcomes.hosts p labels) group) =
        ap (λ (l : List (List ℕ)). hosts_line l group sets) same
        ∙ same_line p.hosts group sets (map (outcomes.hosts p labels) group) (same_some (outcomes.hosts p labels) (FoundFor labels) once group sets each) in
        check_step (as_hosts p.hosts names) files (Ok group) (checks_for (Ok group) same checks) (λ hs. check_then (labels_of least p) (λ l. answer_then (group_answer outcomes p l hs))) files result
        (check_step (labels_of least p) files (Ok labels) found (λ l. answer_then (group_answer outcomes p l group)) files result
        (answers (group_answer outcomes p labels group) files result (subst (λ (text : List ℕ). Computes (ended [] text) result) line computes)))

  -- of a host that has a name
  depending : (labels : Labels) → IsWellMade p → IsLeast (system_of p) labels → (h : HostId) (set : HostSet) → h.0 < length p.hosts → FoundFor labels h set → IsDependence p labels h set
  depending labels well is_least h set low found = record {
    found = found;
    enough_assigned = λ protocols valid. all_hear_reached p labels h well is_least.is (members set) found.reached low protocols valid;
  }

  pub told : (declared : List (List ℕ)) (group : List HostId) (labels : Labels) (sets : List HostSet) (result : Result Answer Status) → IsWellMade p → declared ≡ p.hosts → Checks (as_hosts declared names) (Ok group)
      → IsLeast (system_of p) labels → EachOne (FoundFor labels) group sets → Computes (ended [] (hosts_line declared group sets)) result → TellsProgram names p result
  told declared group labels sets (Ok answer) well same checks is_least each computes = λ ends.
      let are = found_named p.hosts names group (checks_for (Ok group) same checks) in
      record {
        labels = labels;
        least = is_least;
        group = group;
        named = group_named p.hosts names group are;
        sets = sets;
        line = ap (λ (a : Answer). a.printed) computes.settled ∙ ap (λ (l : List (List ℕ)). hosts_line l group sets) same;
        each = each_named (FoundFor labels) (IsDependence p labels) p.hosts names group sets are (depending labels well is_least) each;
      }
  told declared group labels sets (Err status) well same checks is_least each computes = tt

-- ---- with a source

pub dependence_told : (source : List ℕ) (names : List (List ℕ)) (before : FilesView) (tree : Source) (result : Result Answer Status) → (IsTrue before.told → HoldsSource source before.contents tree) → TellsSource names tree result
    → TellsDependence source names before result
dependence_told source names before tree (Ok answer) held tells = λ t ends. let run = tells ends in record { tree = tree; held = held t; program = run.0; is_run = run.1; line = run.2 }
dependence_told source names before tree (Err status) held tells = λ t. tt
