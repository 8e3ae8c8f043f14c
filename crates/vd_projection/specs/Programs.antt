-- The code of each host of a program at a valid assignment of protocols to its slots.
use Rattle.std.specs.Prelude.{ℕ, List, [], length, map}
use Rattle.std.specs.List.{All, range_with_len}
use Rattle.vd_base.specs.declared.protocols.Proto.{Proto}
use Rattle.vd_base.specs.Holders.{proto_in}
use Rattle.vd_base.specs.Words.{InputsAreWords}
use Rattle.vd_core.specs.declared.normal.NormalForm.{NormalForm}
use Rattle.vd_core.specs.Facts.{IsWellMade}
use Rattle.vd_core.specs.Numbers.{NumbersFit}
use Rattle.vd_constraints.specs.declared.labels.Labels.{Labels}
use Rattle.vd_space.specs.Reading.{problem_of}
use Rattle.vd_space.specs.Cheapest.{IsAssignment}
use Rattle.vd_execution.specs.declared.instructions.Instr.{Instr}
use Rattle.vd_execution.specs.Deals.{IsValidDeal}
use Rattle.vd_execution.specs.Joint.{Joint, code_of}
use Rattle.vd_execution.specs.Ranges.{IsInRange}
use Rattle.vd_execution.specs.Text.{IsCodeOf, text}
use Rattle.vd_execution.specs.World.{Supply, Tape, followed_by_zeros}
use Rattle.vd_execution.specs.Claims.{RunsWell}
use Rattle.vd_backend_laws.specs.Suite.{AreGiven, IsOver}
use Rattle.vd_backend_laws.specs.Whole.{code_at, inputs_of, RunsAsToldBy}

-- a valid assignment, whatever the labels are
pub record IsRunnable (program : NormalForm) (protocols : List Proto) : Type 0 where
  pub labels : Labels
  pub assignment : IsAssignment (problem_of program labels) protocols

-- a well-made program whose numbers are words, and protocols that are a valid assignment for it under some labels
pub record CanRunAt (program : NormalForm) (protocols : List Proto) : Type 0 where
  pub made : IsWellMade program
  pub numbers : NumbersFit program
  pub runnable : IsRunnable program protocols

-- protocols over the hosts of a program
abbrev pub AreOver : NormalForm → List Proto → Type 0
AreOver program protocols = All (IsOver (length program.hosts)) protocols

-- what all hosts do together, and the code of each
abbrev pub joint_of : NormalForm → List Proto → Joint
joint_of program protocols = code_at (proto_in protocols) program

abbrev pub host_codes : NormalForm → List Proto → List (List Instr)
host_codes program protocols = map (λ h. text (code_of h (joint_of program protocols)) []) (range_with_len 0 (length program.hosts))

-- ---- what holds of them

-- the code of a host can be loaded
pub record CanBeLoaded (program : NormalForm) (protocols : List Proto) (h : ℕ) : Type 0 where
  pub nested : IsCodeOf (text (code_of h (joint_of program protocols)) []) (code_of h (joint_of program protocols))
  pub in_range : IsInRange (length program.hosts) (code_of h (joint_of program protocols))

abbrev pub CodesCanBeLoaded : Type 0
CodesCanBeLoaded = (program : NormalForm) (protocols : List Proto) → IsWellMade program → AreOver program protocols → (h : ℕ) → CanBeLoaded program protocols h

abbrev pub CodesRunAsTold : Type 0
CodesRunAsTold = (program : NormalForm) (protocols : List Proto) → CanRunAt program protocols
    → (inputs : List (List ℕ)) → InputsAreWords inputs → (t : Tape) → IsValidDeal t → AreGiven (inputs_of inputs) t
    → RunsAsToldBy program (proto_in protocols) inputs t

-- on lists that are read as followed by zeros
abbrev pub CodesRunWell : Type 0
CodesRunWell = (program : NormalForm) (protocols : List Proto) → CanRunAt program protocols
    → (inputs : List (List ℕ)) → InputsAreWords inputs → (s : Supply) → IsValidDeal (followed_by_zeros s) → AreGiven (inputs_of inputs) (followed_by_zeros s)
    → RunsWell s (joint_of program protocols)
