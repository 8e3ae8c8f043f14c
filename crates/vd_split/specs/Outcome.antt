-- What the joint run of a program comes to.
use Rattle.std.specs.Prelude.{◌≡◌, ℕ, ◌^◌, ◌<◌, List, [], map, slice_index, slice_index_or}
use Rattle.std.specs.List.{range_with_len}
use Rattle.vd_base.specs.declared.protocols.Proto.{Proto}
use Rattle.vd_core.specs.declared.normal.NormalForm.{NormalForm}
use Rattle.vd_semantics.specs.ProgramMeaning.{program_outputs}
use Rattle.vd_split.specs.Block.{block_of}
use Rattle.vd_execution.specs.Plans.{Plan}
use Rattle.vd_split.specs.Joint.{Hosts, joint, Goes}
use Rattle.vd_split.specs.Suite.{Suite}
use Rattle.vd_split.specs.Emission.{block_emission, emitting_at_start}
use Rattle.vd_split.specs.Validity.{Placed}

module _ (m : Hosts) where
  -- nothing is printed, and these inputs are still to be taken
  pub record Starts (inputs : List (List ℕ)) (w : m.World) : Type 0 where
    pub sound : m.Sound w
    pub printed : (h : ℕ) → m.printed w h ≡ []
    pub waiting : (h : ℕ) → m.waiting w h ≡ slice_index_or inputs h []
    pub words : (h i : ℕ) → slice_index (slice_index_or inputs h []) i < 2 ^ 32

  -- what the first hosts have printed
  abbrev pub printed_by : ℕ → m.World → List (List ℕ)
  printed_by hosts w = map (m.printed w) (range_with_len 0 hosts)

  module _ (s : Suite m) (proto : ℕ → Proto) where
    -- the acts of a program, as a tree
    abbrev pub plan_of : NormalForm → Plan m.Act
    plan_of program = ((block_emission s.calls proto program.body).emit (emitting_at_start s.calls proto)).tree

    -- each slot stands where it can, and each use joins
    abbrev pub ValidAt : NormalForm → Type 0
    ValidAt program = Placed m s proto (block_of program.body)

    -- the joint run tells each host what the program tells it; along it no comparison fails, and hosts go the same way at each branch
    pub record TellsTheSame (program : NormalForm) (inputs : List (List ℕ)) (w : m.World) : Type 0 where
      pub goes : Goes m (plan_of program) w
      pub outputs : printed_by s.calls.hosts (joint m (plan_of program) w) ≡ program_outputs program inputs
