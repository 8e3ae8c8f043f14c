-- What `labels`, `certify` and `choose` say where they end well, in the words of labels and costs.
use Rattle.std.specs.Prelude.{◌≡◌, ◌⊎◌, ℕ, ◌<◌, Some, List, [], ◌++◌, length, codes, pos, ◌≤ℤ◌}
use Rattle.std.specs.Fmt.{decimal}
use Rattle.vd_base.specs.declared.protocols.Proto.{Proto}
use Rattle.vd_outside.specs.Files.{Contents}
use Rattle.vd_outside.specs.declared.stored.Stored.{Stored}
use Rattle.vd_core.specs.declared.source.Source.{Source}
use Rattle.vd_elaborate.specs.Normal.{normal_form}
use Rattle.vd_core.specs.declared.normal.NormalForm.{NormalForm}
use Rattle.vd_search_stages.specs.declared.optimum.Assignment.{Assignment}
use Rattle.vd_cmd_rewrite.specs.RunPrograms.{IsRunProgram}
use Rattle.vd_constraints.specs.Rules.{system_of}
use Rattle.vd_constraints.specs.Satisfies.{IsLeast}
use Rattle.vd_constraints.specs.declared.labels.Labels.{Labels}
use Rattle.vd_space.specs.declared.problem.Problem.{Problem}
use Rattle.vd_space.specs.Reading.{problem_of}
use Rattle.vd_space.specs.Cheapest.{IsAssignment, cost_of}
use Rattle.vd_execution.specs.Joint.{code_of}
use Rattle.vd_execution.specs.Text.{text}
use Rattle.vd_projection.specs.Programs.{joint_of}
use Rattle.vd_cmd_plan.specs.Plans.{ended}
use Rattle.vd_cmd_labels.specs.Labelling.{labels_text}
use Rattle.vd_cmd_labels.specs.Outcomes.{LabelOutcomes, TextOutcomes}
use Rattle.vd_cmd_labels.specs.Sources.{HoldsSource}
use Rattle.vd_cmd_choose.specs.Certifying.{certify_plan}
use Rattle.vd_cmd_choice.specs.Outcomes.{CertificateOutcomes}
use Rattle.vd_cmd_compile.specs.Compiling.{host_file, plan_for}
use Rattle.vd_cmd_choice.specs.Choice.{IsSelected, printed_at}

-- ---- labels

-- The file is the text of a source that meets every rule, and what is printed has a line for each slot, with its label under the
-- labelling that satisfies all flow rules and checks and that every labelling that does is above.
pub record TellsLabels (name : List ℕ) (contents : Contents) (printed : List ℕ) : Type 0 where
  pub source : Source
  pub held : HoldsSource name contents source
  pub labels : Labels
  pub least : IsLeast (system_of (normal_form source)) labels
  pub lines : printed ≡ labels_text (normal_form source) labels

-- ---- certify

abbrev pub least_line : ℕ → List ℕ
least_line number = codes "least " ++ (decimal number ++ codes "\n")

-- a valid assignment costs the number that is printed, and none costs less
pub record IsLeastCost (problem : Problem) (printed : List ℕ) : Type 0 where
  pub number : ℕ
  pub line : printed ≡ least_line number
  pub protocols : List Proto
  pub valid : IsAssignment problem protocols
  pub costs : cost_of problem protocols valid ≡ pos number
  pub least : (others : List Proto) (are : IsAssignment problem others) → pos number ≤ℤ cost_of problem others are

-- or no assignment is valid
pub record HasNone (problem : Problem) (printed : List ℕ) : Type 0 where
  pub line : printed ≡ codes "empty\n"
  pub none : (protocols : List Proto) → IsAssignment problem protocols → ⊥

-- The file is the text of a source that meets every rule, and what is printed is the least cost of the lists of protocols that are
-- valid for the program that is run for it, under the least labels of that, or that there are none, whoever made the certificate.
pub record TellsProof (name : List ℕ) (contents : Contents) (printed : List ℕ) : Type 0 where
  pub source : Source
  pub held : HoldsSource name contents source
  pub program : NormalForm
  pub is_run : IsRunProgram source program
  pub labels : Labels
  pub least : IsLeast (system_of program) labels
  pub proved : IsLeastCost (problem_of program labels) printed ⊎ HasNone (problem_of program labels) printed

-- ---- choose and compile

-- The file is the text of a source that meets every rule, and what is printed is its choice of protocols: a line for each slot, and then
-- the cost.
pub record TellsAssignment (name : List ℕ) (contents : Contents) (printed : List ℕ) : Type 0 where
  pub source : Source
  pub held : HoldsSource name contents source
  pub program : NormalForm
  pub is_run : IsRunProgram source program
  pub assignment : Assignment
  pub selected : IsSelected program assignment
  pub lines : printed ≡ printed_at program assignment

-- `certify` on these two files ends well and prints this cost, whatever functions pick outcomes
abbrev pub IsCertified : (name certificate : List ℕ) → Contents → ℕ → Type 0
IsCertified name certificate contents number = (texts : TextOutcomes) (least : LabelOutcomes) (certificates : CertificateOutcomes)
    → (certify_plan texts least certificates name certificate contents).answer ≡ ended [] (least_line number)

-- The choice is printed, and of the certificate that then stands beside the source `certify` prints the same cost.
pub record TellsChoice (name : List ℕ) (contents now : Contents) (printed : List ℕ) : Type 0 where
  pub choice : TellsAssignment name contents printed
  pub certified : IsCertified name (name ++ codes ".cert") now choice.assignment.cost

-- a file stands as it was to be stored
abbrev pub Stands : Contents → Stored → Type 0
Stands contents file = contents file.name ≡ Some file.content

-- The choice is printed, and then the file of each host stands, numbered behind the prefix: the text of that host's part of the joint code
-- at this choice, with the names of all hosts and the digest of the source and the choice.
pub record TellsCompiled (name prefix : List ℕ) (contents now : Contents) (printed : List ℕ) : Type 0 where
  pub choice : TellsAssignment name contents printed
  pub files : let program = choice.program in (h : ℕ) → h < length program.hosts
      → Stands now (host_file prefix program.hosts (plan_for choice.held.bytes printed) h (text (code_of h (joint_of program choice.assignment.protocols)) []))
