-- What all hosts together do with the joint code of a program.
use Rattle.std.specs.Prelude.{◌≡◌, ℕ, ◌^◌, ◌<◌, List, [], length, map, slice_index, slice_index_or}
use Rattle.std.specs.List.{range_with_len}
use Rattle.vd_base.specs.declared.protocols.Proto.{Proto}
use Rattle.vd_core.specs.declared.normal.NormalForm.{NormalForm}
use Rattle.vd_core.specs.Facts.{IsWellMade}
use Rattle.vd_semantics.specs.ProgramMeaning.{program_outputs}
use Rattle.vd_execution.specs.World.{Supply, Tape, followed_by_zeros}
use Rattle.vd_execution.specs.Deals.{IsValidDeal}
use Rattle.vd_execution.specs.Joint.{Joint, fresh, joint, IsTidy, IsSmooth}
use Rattle.vd_execution.specs.Gadgets.{Gadget, IsSound}
use Rattle.vd_execution.specs.Plans.{Plan, joint_of, PlanIsTidy}
use Rattle.vd_execution.specs.Claims.{RunsWell, IsOf}
use Rattle.vd_split.specs.Emission.{block_emission, emitting_at_start}
use Rattle.vd_core.specs.Numbers.{NumbersFit}
use Rattle.vd_split.specs.Outcome.{ValidAt}
use Rattle.vd_split.specs.ChoreographyPlaces.{NeedsItsLoops}
use Rattle.vd_backend_laws.specs.Machine.{machine}
use Rattle.vd_backend_laws.specs.Parts.{suite_calls}
use Rattle.vd_backend_laws.specs.Suite.{IsOver, suite, AreGiven}

-- the plan of a program whose slots stand at these protocols
abbrev pub plan_at : (ℕ → Proto) → NormalForm → Plan Gadget
plan_at proto program = ((block_emission (suite_calls (length program.hosts)) proto program.body).emit (emitting_at_start (suite_calls (length program.hosts)) proto)).tree

-- its joint code
abbrev pub code_at : (ℕ → Proto) → NormalForm → Joint
code_at proto program = joint_of (plan_at proto program)

-- the inputs of a host
abbrev pub inputs_of : List (List ℕ) → ℕ → List ℕ
inputs_of inputs h = slice_index_or inputs h []

-- a program, protocols at which it is valid, its inputs, and a valid deal with these inputs
pub record CanRun (program : NormalForm) (proto : ℕ → Proto) (inputs : List (List ℕ)) (t : Tape) : Type 0 where
  pub made : IsWellMade program
  pub numbers : NumbersFit program
  pub over : (x : ℕ) → IsOver (length program.hosts) (proto x)
  pub valid : ValidAt (machine t (inputs_of inputs)) (suite t (inputs_of inputs) (length program.hosts)) proto program
  pub words : (h i : ℕ) → slice_index (inputs_of inputs h) i < 2 ^ 32
  pub deal : IsValidDeal t
  pub given : AreGiven (inputs_of inputs) t

-- the joint code prints at each host what the program tells it, and keeps what every schedule needs
pub record RunsAsToldBy (program : NormalForm) (proto : ℕ → Proto) (inputs : List (List ℕ)) (t : Tape) : Type 0 where
  pub prints : map (λ h. (joint t (code_at proto program) fresh h).printed) (range_with_len 0 (length program.hosts)) ≡ program_outputs program inputs
  pub smooth : IsSmooth t (code_at proto program) fresh
  pub tidy : IsTidy (code_at proto program)
  pub plan_tidy : PlanIsTidy (plan_at proto program)
  pub hosts : IsOf (length program.hosts) (code_at proto program)
  pub sound : IsSound (joint t (code_at proto program) fresh)

abbrev pub CodeTellsTheSame : Type 0
CodeTellsTheSame = (program : NormalForm) (proto : ℕ → Proto) (inputs : List (List ℕ)) (t : Tape) → CanRun program proto inputs t → RunsAsToldBy program proto inputs t

-- on lists that are read as followed by zeros it runs well, so that what holds of every schedule holds of it
abbrev pub CodeRunsWell : Type 0
CodeRunsWell = (program : NormalForm) (proto : ℕ → Proto) (inputs : List (List ℕ)) (s : Supply) → CanRun program proto inputs (followed_by_zeros s)
    → RunsWell s (code_at proto program)

-- each host that has a loop has an instruction of its body
abbrev pub LoopsAreNeeded : Type 0
LoopsAreNeeded = (program : NormalForm) (proto : ℕ → Proto) (inputs : List (List ℕ)) (t : Tape) → CanRun program proto inputs t
    → NeedsItsLoops (machine t (inputs_of inputs)) (plan_at proto program)
