-- How many packets and words a host tells another, counted along its code.
use Rattle.std.specs.Prelude.{◌≡◌, ◌≤◌, ℕ, ◌+◌, ◌-◌, ◌*◌, ◌^◌, ◌<◌, nat_eq, if◌then◌else◌, List, Some, Result, IfOk, min, max, map, length, reverse}
use Rattle.vd_base.specs.Limits.{most_packet_words}
use Rattle.vd_execution.specs.declared.instructions.Instr.{Instr}
use Rattle.vd_execution.specs.declared.instructions.Reg.{Reg}
use Rattle.vd_execution.specs.Code.{Code, Finished, Then, Send, Recv, Choose, Repeat, weight}
use Rattle.vd_execution.specs.Text.{Open, AfterEnd, AfterElse, Reading, IsCodeOf, with_instr}
use Rattle.vd_rounds.specs.declared.tallies.Bound.{Bound}
use Rattle.vd_rounds.specs.declared.tallies.Bound.TheVariants.{Least, Most}
use Rattle.vd_rounds.specs.declared.tallies.Measure.{Measure}
use Rattle.vd_rounds.specs.declared.tallies.Measure.TheVariants.{Packets, Words}
use Rattle.vd_rounds.specs.declared.tallies.Tally.{Tally}
use Rattle.vd_rounds.specs.declared.tallies.ToldBehind.{ToldBehind}
use Rattle.vd_rounds.specs.declared.tallies.ToldBehind.TheVariants as behind

-- of the two blocks of a branch the one that tells less, or the one that tells more
abbrev pub chosen : Bound → ℕ → ℕ → ℕ
chosen Least a b = min a b
chosen Most a b = max a b

-- what a packet of these registers adds
abbrev pub size_by : Measure → List Reg → ℕ
size_by Packets registers = 1
size_by Words registers = length registers

abbrev pub size_to : Tally → (peer : ℕ) → List Reg → ℕ
size_to t peer registers = if nat_eq t.peer.0 peer then size_by t.measure registers else 0

-- how much a code tells a host: of a branch what one of its blocks tells, of a loop its body's once a turn
abbrev pub told : Tally → Code → ℕ
told t Finished = 0
told t (Then a c) = told t c
told t (Send p rs c) = size_to t p rs + told t c
told t (Recv p rs c) = told t c
told t (Choose g first other c) = chosen t.bound (told t first) (told t other) + told t c
told t (Repeat q turn n body c) = (n - turn) * told t body + told t c

-- ---- from the end of a text to its front

-- no further than one more than any code within the ranges tells
abbrev pub capped : ℕ → ℕ
capped n = min n 1099511627776

-- what is told behind an open block
abbrev pub behind_of : Tally → Open → ToldBehind
behind_of t (AfterEnd rest) = behind.End (capped (told t rest))
behind_of t (AfterElse other rest) = behind.Else (capped (told t other)) (capped (told t rest))

-- this is told by what was read of this block, and of the blocks around it, the innermost last
pub record Counts (t : Tally) (count : ℕ) (blocks : List ToldBehind) (so_far : Reading) : Type 0 where
  pub told_is : count ≡ capped (told t so_far.code)
  pub blocks_are : blocks ≡ reverse (map (behind_of t) so_far.blocks)

-- where this is told by what was read, so it is with one instruction more, unless memory runs out
abbrev pub CountsOn : {E : Type 0} → Tally → Instr → ℕ → List ToldBehind → List ToldBehind → Result ℕ E → Type 0
CountsOn t i count old new result =
    (x y : Reading) → Counts t count old x → with_instr i x.code x.blocks ≡ Some y → IfOk result (λ n. Counts t n new y)

-- ---- whole codes

-- no packet is too long
abbrev pub PacketsAreShort : Code → Type 0
PacketsAreShort Finished = Unit {0}
PacketsAreShort (Then a c) = PacketsAreShort c
PacketsAreShort (Send p rs c) = (length rs ≤ most_packet_words) × PacketsAreShort c
PacketsAreShort (Recv p rs c) = PacketsAreShort c
PacketsAreShort (Choose g first other c) = PacketsAreShort first × (PacketsAreShort other × PacketsAreShort c)
PacketsAreShort (Repeat q turn n body c) = PacketsAreShort body × PacketsAreShort c

-- a code that is well nested, has no more static steps than are allowed, and tells no packet that is too long
pub record IsTold (code : List Instr) : Type 0 where
  pub nested : Code
  pub is_code : IsCodeOf code nested
  pub few : weight nested < 2 ^ 32
  pub short : PacketsAreShort nested
