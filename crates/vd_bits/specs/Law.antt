-- What is proved of hosts that share words by exclusive or.
use Rattle.std.specs.Prelude.{◌≡◌, ◌≢◌, ℕ, Bool, IsTrue, List, length}
use Rattle.vd_base.specs.declared.ids.HostId.{HostId}
use Rattle.vd_base.specs.declared.operations.Op.{Op}
use Rattle.vd_base.specs.Arity.{arity}
use Rattle.vd_base.specs.Operations.{result_of}
use Rattle.vd_execution.specs.World.{Tape}
use Rattle.vd_execution.specs.Joint.{Hosts}
use Rattle.vd_duet.specs.Acting.{ActsWhereItSays}
use Rattle.vd_duet.specs.Calls.{Places}
use Rattle.vd_duet.specs.Laws.{IsInOne, GivesWord, Operands, IsReady, BackendLaws}
use Rattle.vd_backend_sharing.specs.Computing.{HasCircuit}
use Rattle.vd_bits.specs.BitCalls.{computed, bit_calls}

-- of two hosts that differ
abbrev pub SharedBitsAreABackend : Type 0
SharedBitsAreABackend = (a b : HostId) → a.0 ≢ b.0 → BackendLaws (bit_calls a b) × ActsWhereItSays (bit_calls a b)

-- the gates of each operation that can stand at two such hosts give its result
abbrev pub CircuitsGiveResults : Type 0
CircuitsGiveResults =
    (a b : HostId) → a.0 ≢ b.0 → (t : Tape) (next : List ℕ) (w : Hosts) → IsReady (bit_calls a b) t next w
    → (o : Op) → HasCircuit o → (xs : List Places) (vs : List ℕ) → length xs ≡ arity o → Operands (bit_calls a b) next w xs vs
    → GivesWord (bit_calls a b) t next (IsInOne xs) (computed a b o xs next) w (result_of o vs)
