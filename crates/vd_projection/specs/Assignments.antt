-- Programs at valid assignments of protocols.
use Rattle.std.specs.Prelude.{ℕ, ◌^◌, ◌<◌, List, slice_index}
use Rattle.vd_base.specs.declared.protocols.Proto.{Proto}
use Rattle.vd_base.specs.Holders.{proto_in}
use Rattle.vd_core.specs.declared.normal.NormalForm.{NormalForm}
use Rattle.vd_core.specs.Facts.{IsWellMade}
use Rattle.vd_constraints.specs.declared.labels.Labels.{Labels}
use Rattle.vd_space.specs.Reading.{problem_of}
use Rattle.vd_space.specs.Cheapest.{IsAssignment}
use Rattle.vd_execution.specs.World.{Tape}
use Rattle.vd_execution.specs.Deals.{IsValidDeal}
use Rattle.vd_core.specs.Numbers.{NumbersFit}
use Rattle.vd_backend_laws.specs.Suite.{AreGiven}
use Rattle.vd_backend_laws.specs.Whole.{inputs_of, CanRun, RunsAsToldBy}

-- a well-made program whose numbers are words, and protocols that are a valid assignment for it at these labels
pub record IsValidFor (program : NormalForm) (labels : Labels) (protocols : List Proto) : Type 0 where
  pub made : IsWellMade program
  pub numbers : NumbersFit program
  pub assignment : IsAssignment (problem_of program labels) protocols

abbrev pub AssignmentsCanRun : Type 0
AssignmentsCanRun = (program : NormalForm) (labels : Labels) (protocols : List Proto) → IsValidFor program labels protocols
    → (inputs : List (List ℕ)) → ((h i : ℕ) → slice_index (inputs_of inputs h) i < 2 ^ 32) → (t : Tape) → IsValidDeal t → AreGiven (inputs_of inputs) t
    → CanRun program (proto_in protocols) inputs t

-- and its joint code tells each host what the program tells it
abbrev pub AssignmentsTellTheSame : Type 0
AssignmentsTellTheSame = (program : NormalForm) (labels : Labels) (protocols : List Proto) → IsValidFor program labels protocols
    → (inputs : List (List ℕ)) → ((h i : ℕ) → slice_index (inputs_of inputs h) i < 2 ^ 32) → (t : Tape) → IsValidDeal t → AreGiven (inputs_of inputs) t
    → RunsAsToldBy program (proto_in protocols) inputs t
