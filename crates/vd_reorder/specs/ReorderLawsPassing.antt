-- The pass: from the end to the front, each instruction goes behind those that may stand before it, and so does each block. What is sent
-- does not go back.
use Rattle.std.specs.Prelude.{◌≡◌, ℕ, zero, suc, Bool, true, false, ◌&&◌, if◌then◌else◌}
use Rattle.vd_execution.specs.declared.instructions.Action.TheVariants as action
use Rattle.vd_execution.specs.Text.{register}
use Rattle.vd_execution.specs.Code.{Code, Finished, Then, Send, Recv, Choose, Repeat}
use Rattle.vd_reorder.specs.Hastening.{Piece, Acts, Sends, Awaits, MayPass, Stretch, One, Branch, Loop, stretch_before, IsHastened}

-- a test that says yes only where neighbours may be exchanged
abbrev pub IsSoundTest : (Piece → Piece → Bool) → Type 0
IsSoundTest test = (x y : Piece) → test x y ≡ true → MayPass x y

-- Whether a piece may go before each turn of a loop with this counter,
abbrev pub passes_turns : (Piece → Piece → Bool) → Piece → ℕ → ℕ → Bool
passes_turns test y r zero = test (Acts (action.Const (register r) zero)) y
passes_turns test y r (suc k) = test (Acts (action.Const (register r) (suc k))) y && passes_turns test y r k

-- before all of a code that has no messages, before a guard as before a word that is printed, and before a turn of a loop as before the
-- action that counts it,
abbrev pub passes_all : (Piece → Piece → Bool) → Piece → Code → Bool
passes_all test y Finished = true
passes_all test y (Then a c) = test (Acts a) y && passes_all test y c
passes_all test y (Send p rs c) = false
passes_all test y (Recv p rs c) = false
passes_all test y (Choose g first other c) = (test (Acts (action.Print (register g))) y && (passes_all test y first && passes_all test y other)) && passes_all test y c
passes_all test y (Repeat r t n body c) = (passes_turns test y r n && passes_all test y body) && passes_all test y c

-- before an instruction, or before a whole block.
abbrev pub passes_stretch : (Piece → Piece → Bool) → Stretch → Piece → Bool
passes_stretch test (One x) y = test x y
passes_stretch test (Branch g first other) y = test (Acts (action.Print (register g))) y && (passes_all test y first && passes_all test y other)
passes_stretch test (Loop r t n body) y = passes_turns test y r n && passes_all test y body

-- an instruction, or a block, behind as much of the code as the test lets it, and behind at most so many sends
abbrev pub sunk : (Piece → Piece → Bool) → ℕ → Stretch → Code → Code
sunk test n x Finished = stretch_before x Finished
sunk test n x (Then a c) = if passes_stretch test x (Acts a) then Then a (sunk test n x c) else stretch_before x (Then a c)
sunk test zero x (Send p rs c) = stretch_before x (Send p rs c)
sunk test (suc n) x (Send p rs c) = if passes_stretch test x (Sends p rs) then Send p rs (sunk test n x c) else stretch_before x (Send p rs c)
sunk test n x (Recv p rs c) = stretch_before x (Recv p rs c)
sunk test n x (Choose g first other c) = stretch_before x (Choose g first other c)
sunk test n x (Repeat r t k body c) = stretch_before x (Repeat r t k body c)

abbrev pub hastened : (Piece → Piece → Bool) → ℕ → Code → Code
hastened test n Finished = Finished
hastened test n (Then a c) = sunk test n (One (Acts a)) (hastened test n c)
hastened test n (Send p rs c) = Send p rs (hastened test n c)
hastened test n (Recv p rs c) = sunk test n (One (Awaits p rs)) (hastened test n c)
hastened test n (Choose g first other c) = sunk test n (Branch g (hastened test n first) (hastened test n other)) (hastened test n c)
hastened test n (Repeat r t k body c) = sunk test n (Loop r t k (hastened test n body)) (hastened test n c)

-- Exchanges lead to what the pass gives, whatever sound test and whatever window it goes by.
abbrev pub PassesExchange : Type 0
PassesExchange = (test : Piece → Piece → Bool) (n : ℕ) (c : Code) → IsSoundTest test → IsHastened c (hastened test n c)
