-- The number of a turn, at two hosts that share words.
use Rattle.std.specs.Prelude.{ℕ, nat_eq, if◌then◌else◌, List}
use Rattle.vd_base.specs.declared.ids.HostId.{HostId}
use Rattle.vd_execution.specs.declared.instructions.Action.TheVariants as action
use Rattle.vd_execution.specs.declared.instructions.Reg.{Reg}
use Rattle.vd_duet.specs.Builder.{next_at}
use Rattle.vd_duet.specs.Calls.{Made}
use Rattle.vd_clear.specs.Copies.{written_by}

-- the first host has a copy of its loop's register, and the other 0
abbrev pub shared_turn : HostId → List ℕ → HostId → List ℕ → Made Reg
shared_turn first loop h next = if nat_eq h.0 first.0 then written_by h (λ r. action.Copy r (next_at loop h)) next else written_by h (λ r. action.Const r 0) next
