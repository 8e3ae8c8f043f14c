-- Joint code that is being made: its lines so far, and the next free register of each host.
use Rattle.std.specs.Prelude.{◌≡◌, ℕ, ◌+◌, ◌<◌, ◌≤◌, List, [], ◌∷◌, ◌++◌, length, slice_index, slice_set}
use Rattle.vd_base.specs.declared.ids.HostId.{HostId}
use Rattle.vd_execution.specs.declared.instructions.Act.{Act}
use Rattle.vd_execution.specs.declared.instructions.Reg.{Reg}
use Rattle.vd_execution.specs.declared.instructions.Line.{Line}
use Rattle.vd_execution.specs.declared.instructions.Line.TheVariants as line
use Rattle.vd_execution.specs.Text.{register}

pub record Builder : Type 0 where
  pub lines : List Line
  pub next : List ℕ

-- a line at the end
abbrev pub marked : Line → Builder → Builder
marked l b = record { lines = b.lines ++ l ∷ []; next = b.next }

-- an act at the end
abbrev pub added : Act → Builder → Builder
added act b = marked (line.Act act) b

-- the next free register of a host
abbrev pub next_at : List ℕ → HostId → Reg
next_at next h = register (slice_index next h.0)

-- the next free registers, after a host took so many
abbrev pub taken : HostId → ℕ → List ℕ → List ℕ
taken h count next = slice_set next h.0 (slice_index next h.0 + count)

abbrev pub reserved : HostId → ℕ → Builder → Reg × Builder
reserved h count b = (next_at b.next h, record { lines = b.lines; next = taken h count b.next })

-- ---- room for registers

-- a bound on the numbers of registers below which every call can be made
abbrev pub register_bound : ℕ
register_bound = 3000000000

-- the registers that a call takes of one host, at most
abbrev pub most_taken : ℕ
most_taken = 2048

-- every host has so many registers left below the bound
abbrev pub HasRoom : ℕ → List ℕ → Type 0
HasRoom count next = (h : ℕ) → slice_index next h + count < register_bound

-- the number of hosts is kept, and each has at most so many registers less
abbrev pub TakesAtMost : ℕ → List ℕ → List ℕ → Type 0
TakesAtMost count next next' = (length next' ≡ length next) × ((h : ℕ) → slice_index next' h ≤ slice_index next h + count)

abbrev pub TakesFew : List ℕ → List ℕ → Type 0
TakesFew next next' = TakesAtMost most_taken next next'
