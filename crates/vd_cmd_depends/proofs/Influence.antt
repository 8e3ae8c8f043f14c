-- What is told of the hosts whose inputs bear on what a host is told.
use Rattle.std.proofs.Common.{◌≡◌, ◌++◌, ◌∷◌, ℕ, true, false, ◌&&◌, not, Bool, IsTrue, List, [], length, Result, Ok, Err, ap, subst, ◌∙◌}
use Rattle.std.specs.Prelude.{slice_index_or}
use Rattle.std.specs.List.{filter}
use Rattle.vd_base.specs.HostSets.{has_host, hosts}
use Rattle.vd_base.specs.declared.ids.HostId.{HostId}
use Rattle.vd_base.specs.declared.protocols.HostSet.{HostSet}
use Rattle.vd_core.specs.Facts.{IsWellMade}
use Rattle.vd_core.specs.declared.source.Source.{Source}
use Rattle.vd_core.specs.declared.normal.NormalForm.{NormalForm}
use Rattle.vd_constraints.specs.Rules.{system_of}
use Rattle.vd_constraints.specs.Satisfies.{IsLeast}
use Rattle.vd_constraints.specs.declared.labels.Labels.{Labels}
use Rattle.vd_noninter.specs.Hosts.{members}
use Rattle.vd_noninter.specs.IntegrityLawsInfluence.{AreInfluences}
use Rattle.vd_noninter.proofs.Front.{influences_are_enough, influences_are_single, influences_nest, influences_trusted}
use Rattle.vd_outside.specs.Files.{FilesView}
use Rattle.vd_cmd_labels.specs.Labelling.{labels_of}
use Rattle.vd_cmd_labels.specs.Outcomes.{LabelOutcomes}
use Rattle.vd_cmd_labels.specs.Sources.{HoldsSource}
use Rattle.vd_cmd_plan.proofs.Front.{answers, any_memory, check_step}
use Rattle.vd_cmd_plan.specs.Plans.{Checks, Computes, Executes, answer_then, check_then, ended}
use Rattle.vd_cmd_plan.specs.declared.answer.Answer.{Answer}
use Rattle.vd_cmd_plan.specs.declared.status.Status.{Status}
use Rattle.vd_cmd_plan.specs.declared.status.Status.TheVariants.{Memory}
use Rattle.vd_cmd_depends.specs.Depending.{as_host}
use Rattle.vd_cmd_depends.specs.Influencing.{InfluenceOutcomes, TellsInfluence, TellsProgram, TellsSource, hosts_field, influence_line, influence_plan}
use Rattle.vd_cmd_depends.proofs.Naming.{named}

-- ---- sets with the same members have one line

abbrev line_with : List (List ℕ) → HostId → (HostId → Bool) → (HostId → Bool) → List ℕ
line_with names h all direct =
    slice_index_or names h.0 []
    ++ (hosts_field names (filter all (hosts (length names))) ++ (hosts_field names (filter (λ k. all k && not (direct k)) (hosts (length names))) ++ 10 ∷ []))

same_line : (names : List (List ℕ)) (h : HostId) (all direct more less : HostSet) → ((k : ℕ) → members all k ≡ members more k) → ((k : ℕ) → members direct k ≡ members less k)
    → influence_line names h all direct ≡ influence_line names h more less
same_line names h all direct more less first second =
    let alls : has_host all ≡ has_host more = λ i x. first x.0 i in
    let directs : has_host direct ≡ has_host less = λ i x. second x.0 i in
    λ i. line_with names h (alls i) (directs i)

-- ---- with a program

module _ (name : List ℕ) (p : NormalForm) where
  -- for these names, where they are those of its hosts
  checks_for : {names : List (List ℕ)} (result : Result HostId Status) → names ≡ p.hosts → Checks (as_host names name) result → Checks (as_host p.hosts name) result
  checks_for result same checks = subst (λ (l : List (List ℕ)). Checks (as_host l name) result) same checks

  module _ (least : LabelOutcomes) (outcomes : InfluenceOutcomes) (files : FilesView) (names : List (List ℕ)) (same : names ≡ p.hosts) where
    abbrev line_for : HostId → Answer
    line_for h = ended [] (influence_line p.hosts h (outcomes.hosts true p h) (outcomes.hosts false p h))

    pub unnamed : (status : Status) → Checks {T = HostId} (as_host names name) (Err status) → Executes true (influence_plan least outcomes name p) files files (Err status)
    unnamed status checks = check_step (as_host p.hosts name) files (Err status) (checks_for (Err status) same checks) (λ h. check_then (labels_of least p) (λ labels. answer_then (line_for h)))

    pub unlabelled : (h : HostId) (status : Status) → Checks (as_host names name) (Ok h) → Checks {T = Labels} (labels_of least p) (Err status) → Executes true (influence_plan least outcomes name p) files files (Err status)
    unlabelled h status checks found =
        check_step (as_host p.hosts name) files (Ok h) (checks_for (Ok h) same checks) (λ x. check_then (labels_of least p) (λ labels. answer_then (line_for x))) files (Err status)
        (check_step (labels_of least p) files (Err status) found (λ labels. answer_then (line_for h)))

    pub no_memory : Executes true (influence_plan least outcomes name p) files files (Err Memory)
    no_memory = any_memory (influence_plan least outcomes name p) files

    pub answered : (h : HostId) (labels : Labels) (all direct : HostSet) (result : Result Answer Status) → IsWellMade p → Checks (as_host names name) (Ok h) → Checks (labels_of least p) (Ok labels)
        → AreInfluences true p h (members all) → AreInfluences false p h (members direct) → Computes (ended [] (influence_line names h all direct)) result
        → Executes true (influence_plan least outcomes name p) files files result
    answered h labels all direct result well checks found reached directly computes =
        let line : influence_line names h all direct ≡ influence_line p.hosts h (outcomes.hosts true p h) (outcomes.hosts false p h) =
        ap (λ (l : List (List ℕ)). influence_line l h all direct) same
        ∙ same_line p.hosts h all direct (outcomes.hosts true p h) (outcomes.hosts false p h)
        (influences_are_single true p h (members all) (members (outcomes.hosts true p h)) reached (outcomes.hosts_are true p h well))
        (influences_are_single false p h (members direct) (members (outcomes.hosts false p h)) directly (outcomes.hosts_are false p h well)) in
        check_step (as_host p.hosts name) files (Ok h) (checks_for (Ok h) same checks) (λ x. check_then (labels_of least p) (λ l. answer_then (line_for x))) files result
        (check_step (labels_of least p) files (Ok labels) found (λ l. answer_then (line_for h)) files result
        (answers (line_for h) files result (subst (λ (text : List ℕ). Computes (ended [] text) result) line computes)))

  pub told : (names : List (List ℕ)) (h : HostId) (labels : Labels) (all direct : HostSet) (result : Result Answer Status) → IsWellMade p → names ≡ p.hosts → Checks (as_host names name) (Ok h) → IsLeast (system_of p) labels
      → AreInfluences true p h (members all) → AreInfluences false p h (members direct) → Computes (ended [] (influence_line names h all direct)) result → TellsProgram name p result
  told names h labels all direct (Ok answer) well same checks is_least reached directly computes = λ ends. record {
    host = h;
    named = named p.hosts name h (checks_for (Ok h) same checks).ok;
    all = all;
    direct = direct;
    line = ap (λ (a : Answer). a.printed) computes.settled ∙ ap (λ (l : List (List ℕ)). influence_line l h all direct) same;
    reached = reached;
    reached_directly = directly;
    nested = influences_nest p h (members all) (members direct) reached directly;
    enough = influences_are_enough true p h (members all) reached;
    enough_endorsed = influences_are_enough false p h (members direct) directly;
    trusted = influences_trusted p labels h well is_least.is (members direct) directly;
  }
  told names h labels all direct (Err status) well same checks is_least reached directly computes = tt

-- ---- with a source

pub influence_told : (source name : List ℕ) (before : FilesView) (tree : Source) (result : Result Answer Status) → (IsTrue before.told → HoldsSource source before.contents tree) → TellsSource name tree result
    → TellsInfluence source name before result
influence_told source name before tree (Ok answer) held tells = λ t ends. let run = tells ends in record { tree = tree; held = held t; program = run.0; is_run = run.1; line = run.2 }
influence_told source name before tree (Err status) held tells = λ t. tt
