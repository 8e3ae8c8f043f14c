-- A worked program in its joint run: what comes to whom.
use Rattle.std.specs.Prelude.{◌≡◌, ℕ, List, [], ◌∷◌}
use Rattle.vd_base.specs.declared.ids.HostId.{HostId}
use Rattle.vd_base.specs.declared.protocols.Proto.{Proto}
use Rattle.vd_base.specs.Holders.{proto_in}
use Rattle.vd_execution.specs.Joint.{fresh}
use Rattle.vd_split.specs.Block.{Block, block_of}
use Rattle.vd_split.specs.Emission.{emitting_at_start}
use Rattle.vd_backend_laws.specs.Given.{zero_deal}
use Rattle.vd_backend_laws.specs.Machine.{machine}
use Rattle.vd_backend_laws.specs.Parts.{suite_calls}
use Rattle.vd_backend_laws.specs.Whole.{inputs_of}
use Rattle.vd_noninter_protocols.specs.Example.{bob, guarded, copied}
use Rattle.vd_noninter_protocols.specs.Telling.{told}

-- the words that come to a host in the joint run of a program with these protocols, where alice and bob have these inputs
abbrev pub told_of : Block → List Proto → HostId → ℕ → ℕ → List ℕ
told_of block protocols h a b =
    let inputs = inputs_of ((a ∷ []) ∷ (b ∷ []) ∷ []) in
    told (machine (zero_deal inputs) inputs) (suite_calls 2) protocols h block (emitting_at_start (suite_calls 2) (proto_in protocols)) fresh

-- bob's registers hold the guard where he is told it, and the word of the variable where it is output to him
pub record WorkedRegisters : Type 0 where
  pub set : told_of (block_of guarded) copied bob 2 0 ≡ 1 ∷ 1 ∷ []
  pub kept : told_of (block_of guarded) copied bob 5 0 ≡ 0 ∷ 0 ∷ []
