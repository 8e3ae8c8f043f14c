-- What is told of a host's dependence, and why that is enough.
use Rattle.std.specs.Prelude.{◌≡◌, ℕ, Bool, List, [], ◌∷◌, map, Some, Result, IfOk}
use Rattle.vd_base.specs.declared.ids.HostId.{HostId}
use Rattle.vd_base.specs.declared.protocols.HostSet.{HostSet}
use Rattle.vd_base.specs.declared.protocols.Proto.{Proto}
use Rattle.vd_core.specs.declared.source.Source.{Source}
use Rattle.vd_core.specs.declared.normal.NormalForm.{NormalForm}
use Rattle.vd_constraints.specs.Rules.{system_of}
use Rattle.vd_constraints.specs.Satisfies.{IsLeast}
use Rattle.vd_constraints.specs.declared.labels.Labels.{Labels}
use Rattle.vd_noninter.specs.NoninterLawsDependence.{AreEnough, AreReached, AreReadable}
use Rattle.vd_noninter.specs.Reading.{reads_result}
use Rattle.vd_noninter.specs.Hosts.{members}
use Rattle.vd_noninter_protocols.specs.Assigned.{HearsOnly}
use Rattle.vd_cmd_rewrite.specs.RunPrograms.{IsRunProgram}
use Rattle.vd_outside.specs.Files.{FilesView, Contents}
use Rattle.vd_report.specs.Hosts.{host_of}
use Rattle.vd_cmd_plan.specs.Held.{Finds}
use Rattle.vd_cmd_plan.specs.declared.answer.Answer.{Answer}
use Rattle.vd_cmd_plan.specs.declared.status.Status.{Status}
use Rattle.vd_cmd_plan.specs.declared.status.Status.TheVariants.{Ended}
use Rattle.vd_cmd_labels.specs.Sources.{HoldsSource}
use Rattle.vd_cmd_depends.specs.Depending.{hosts_line}
use Rattle.vd_space.specs.Cheapest.{IsAssignment}
use Rattle.vd_space.specs.Reading.{problem_of}

-- these hosts were found for a host
pub record AreFound (p : NormalForm) (labels : Labels) (host : HostId) (hosts : ℕ → Bool) : Type 0 where
  -- they are those whose inputs are reached from the host's outputs, and no other
  pub reached : AreReached p labels host hosts
  -- the host may read each of them
  pub readable : AreReadable p host hosts
  -- Two families of inputs that agree on theirs, and on the words of all declassifications whose result the host may read, give
  -- it the same outputs, and the same words at every slot that is reached and in its view.
  pub enough : AreEnough p labels host hosts

-- these are the hosts on which a host depends
pub record IsDependence (p : NormalForm) (labels : Labels) (host : HostId) (set : HostSet) : Type 0 where
  pub found : AreFound p labels host (members set)
  -- Whatever valid assignment of protocols is taken, two families of inputs that agree on theirs, and on all that is declassified to the
  -- host, bring it the same clear words, in order.
  pub enough_assigned : (protocols : List Proto) → IsAssignment (problem_of p labels) protocols → HearsOnly p labels protocols host (reads_result p labels host) (members set)

-- one set for each host, in order
abbrev pub EachOne : (HostId → HostSet → Type 0) → List HostId → List HostSet → Type 0
EachOne P [] [] = Unit {0}
EachOne P (h ∷ group) (set ∷ sets) = P h set × EachOne P group sets
EachOne P [] (set ∷ sets) = ⊥
EachOne P (h ∷ group) [] = ⊥

-- This line names the hosts on which some host of these names depends.
pub record IsDependenceLine (names : List (List ℕ)) (p : NormalForm) (printed : List ℕ) : Type 0 where
  pub labels : Labels
  pub least : IsLeast (system_of p) labels
  pub group : List HostId
  pub named : map (host_of p.hosts) names ≡ map (λ h. Some h.0) group
  pub sets : List HostSet
  pub line : printed ≡ hosts_line p.hosts group sets
  pub each : EachOne (IsDependence p labels) group sets

-- The file is the text of a source that meets every rule, and the line is that of the program that is run for it.
pub record IsDependenceOf (source : List ℕ) (names : List (List ℕ)) (contents : Contents) (printed : List ℕ) : Type 0 where
  pub tree : Source
  pub held : HoldsSource source contents tree
  pub program : NormalForm
  pub is_run : IsRunProgram tree program
  pub line : IsDependenceLine names program printed

abbrev pub TellsProgram : List (List ℕ) → NormalForm → Result Answer Status → Type 0
TellsProgram names p result = IfOk result (λ answer. answer.status ≡ Ended → IsDependenceLine names p answer.printed)

abbrev pub TellsSource : List (List ℕ) → Source → Result Answer Status → Type 0
TellsSource names source result = IfOk result (λ answer. answer.status ≡ Ended → (program : NormalForm) × IsRunProgram source program × IsDependenceLine names program answer.printed)

abbrev pub TellsDependence : (source : List ℕ) → (names : List (List ℕ)) → FilesView → Result Answer Status → Type 0
TellsDependence source names before result = Finds before result (λ contents answer. answer.status ≡ Ended → IsDependenceOf source names contents answer.printed)
