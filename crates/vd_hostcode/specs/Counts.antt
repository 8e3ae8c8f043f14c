-- Steps that are counted from the end of a text to its front, none further than one more than the most.
use Rattle.std.specs.Prelude.{◌≡◌, ℕ, ◌+◌, List, Some, Result, IfOk, min, map, reverse}
use Rattle.vd_execution.specs.declared.instructions.Instr.{Instr}
use Rattle.vd_execution.specs.Text.{Open, AfterEnd, AfterElse, Reading, with_instr}
use Rattle.vd_hostcode.specs.declared.blocks.Behind.{Behind}
use Rattle.vd_hostcode.specs.declared.blocks.Behind.TheVariants as behind
use Rattle.vd_hostcode.specs.Ranges.{static_steps}

abbrev pub capped : ℕ → ℕ
capped n = min n 4294967296

-- what stands behind an open block
abbrev pub behind_of : Open → Behind
behind_of (AfterEnd rest) = behind.End (capped (static_steps rest))
behind_of (AfterElse other rest) = behind.Else (capped (static_steps other + static_steps rest))

-- these are the steps of what was read of this block, and of the blocks around it, the innermost last
pub record Counts (steps : ℕ) (blocks : List Behind) (r : Reading) : Type 0 where
  pub steps_are : steps ≡ capped (static_steps r.code)
  pub blocks_are : blocks ≡ reverse (map behind_of r.blocks)

-- where these are the steps of what was read, so they are with one instruction more, unless memory runs out
abbrev pub CountsOn : {E : Type 0} → Instr → ℕ → List Behind → List Behind → Result ℕ E → Type 0
CountsOn i steps old new result = (r q : Reading) → Counts steps old r → with_instr i r.code r.blocks ≡ Some q → IfOk result (λ count. Counts count new q)
