-- Items that are counted from the end of a text to its front, none further than one more than any code within the ranges takes.
use Rattle.std.specs.Prelude.{◌≡◌, ℕ, ◌^◌, ◌<◌, List, Option, Some, None, Result, IfOk, min, map, reverse}
use Rattle.vd_execution.specs.declared.instructions.Instr.{Instr}
use Rattle.vd_execution.specs.Code.{Code, Finished, weight}
use Rattle.vd_execution.specs.Step.{Source}
use Rattle.vd_execution.specs.Text.{Open, AfterEnd, AfterElse, Reading, IsCodeOf, with_instr, read}
use Rattle.vd_deal_needs.specs.DealNeedsLawsNeeds.{counts}
use Rattle.vd_deal_needs.specs.declared.blocks.TakenBehind.{TakenBehind}
use Rattle.vd_deal_needs.specs.declared.blocks.TakenBehind.TheVariants as behind

abbrev pub capped : ℕ → ℕ
capped n = min n 4294967296

-- what is taken behind an open block
abbrev pub behind_of : Source → Open → TakenBehind
behind_of r (AfterEnd rest) = behind.End (capped (counts rest r))
behind_of r (AfterElse other rest) = behind.Else (capped (counts other r)) (capped (counts rest r))

-- this is taken by what was read of this block, and of the blocks around it, the innermost last
pub record Counts (r : Source) (taken : ℕ) (blocks : List TakenBehind) (so_far : Reading) : Type 0 where
  pub taken_is : taken ≡ capped (counts so_far.code r)
  pub blocks_are : blocks ≡ reverse (map (behind_of r) so_far.blocks)

-- where this is taken by what was read, so it is with one instruction more, unless memory runs out
abbrev pub CountsOn : {E : Type 0} → Source → Instr → ℕ → List TakenBehind → List TakenBehind → Result ℕ E → Type 0
CountsOn r i taken old new result = (x y : Reading) → Counts r taken old x → with_instr i x.code x.blocks ≡ Some y → IfOk result (λ count. Counts r count new y)

-- ---- whole codes

abbrev pub code_read : Option Reading → Code
code_read None = Finished
code_read (Some reading) = reading.code

-- the code that a list of instructions is, where it is well nested
abbrev pub code_in : List Instr → Code
code_in code = code_read (read code)

-- a code that is well nested and has no more static steps than are allowed
pub record IsCountable (code : List Instr) : Type 0 where
  pub nested : IsCodeOf code (code_in code)
  pub few : weight (code_in code) < 2 ^ 32
