-- The pass that leaves some instructions in their order: what is awaited, compared, printed, told and opened.
use Rattle.std.specs.Prelude.{◌≡◌, ℕ, List, [], ◌∷◌, Bool, true, false, if◌then◌else◌}
use Rattle.vd_execution.specs.declared.instructions.Action.TheVariants as action
use Rattle.vd_execution.specs.Code.{Code, Finished, Then, Send, Recv, Choose, Repeat}
use Rattle.vd_reorder.specs.Hastening.{Piece, Acts, Sends, Awaits, IsHastened}
use Rattle.vd_reorder.specs.ReorderLawsPassing.{hastened}
use Rattle.vd_reorder.specs.ReorderLawsTesting.{row, has, may}
use Rattle.vd_execution.specs.World.{Supply, World, run, IsStuck}
use Rattle.vd_execution.specs.Text.{register}
use Rattle.vd_execution.specs.Joint.{Joint, code_of, fresh, resting, at_end}
use Rattle.vd_execution.specs.Claims.{RunsWell, RunsToItsEnd, IsOnTheWay, IsOf, last_of}

-- two that are to stay in their order are not exchanged
abbrev pub careful : (Piece → Bool) → Piece → Piece → Bool
careful stays x y = if may x y then (if stays x then (if stays y then false else true) else true) else false

-- a branch and a loop, left out where nothing is in them
abbrev pub branch_of : ℕ → Code → Code → Code → Code
branch_of g Finished Finished c = c
branch_of g first other c = Choose g first other c

abbrev pub loop_of : ℕ → ℕ → ℕ → Code → Code → Code
loop_of r t n Finished c = c
loop_of r t n body c = Repeat r t n body c

-- what is left of a code where only those are looked at
abbrev pub spine : (Piece → Bool) → Code → Code
spine stays Finished = Finished
spine stays (Then a c) = if stays (Acts a) then Then a (spine stays c) else spine stays c
spine stays (Send p rs c) = if stays (Sends p rs) then Send p rs (spine stays c) else spine stays c
spine stays (Recv p rs c) = if stays (Awaits p rs) then Recv p rs (spine stays c) else spine stays c
spine stays (Choose g first other c) = branch_of g (spine stays first) (spine stays other) (spine stays c)
spine stays (Repeat r t n body c) = loop_of r t n (spine stays body) (spine stays c)

pub record IsCarefullyHastened (stays : Piece → Bool) (c d : Code) : Type 0 where
  pub hastened : IsHastened c d
  pub order : spine stays d ≡ spine stays c

abbrev pub CarefulPasses : Type 0
CarefulPasses = (stays : Piece → Bool) (n : ℕ) (c : Code) → IsCarefullyHastened stays c (hastened (careful stays) n c)

-- A host commits to a word, awaits an answer, and opens the word.
abbrev pub opened_last : Code
opened_last =
    Then (action.Hash (register 8) (register 0) (register 16))
    (Send 1 (row 8 8)
    (Recv 1 (register 40 ∷ [])
    (Send 1 (register 16 ∷ row 0 8) Finished)))

abbrev pub opened_first : Code
opened_first =
    Then (action.Hash (register 8) (register 0) (register 16))
    (Send 1 (row 8 8)
    (Send 1 (register 16 ∷ row 0 8)
    (Recv 1 (register 40 ∷ []) Finished)))

-- what is awaited, and packets with the word itself
abbrev pub awaits_or_opens : Piece → Bool
awaits_or_opens (Acts a) = false
awaits_or_opens (Sends p rs) = has (register 16) rs
awaits_or_opens (Awaits p rs) = true

-- The opened word stays behind the answer where both are to stay in their order; by registers alone it would go before it.
abbrev pub OpenedWordsStay : Type 0
OpenedWordsStay = (hastened (careful awaits_or_opens) 16 opened_last ≡ opened_last) × (hastened may 16 opened_last ≡ opened_first)

-- all hosts at their start, each with its code hastened by what is to stay at it and by its window
abbrev pub hastened_start : Joint → (ℕ → Piece → Bool) → (ℕ → ℕ) → World
hastened_start j stays window = resting (λ h. hastened (careful (stays h)) (window h) (code_of h j)) fresh

abbrev pub HastenedStartsAreOnTheWay : Type 0
HastenedStartsAreOnTheWay = (s : Supply) (j : Joint) (n : ℕ) (stays : ℕ → Piece → Bool) (window : ℕ → ℕ) (b : List ℕ) → RunsWell s j → IsOf n j
    → IsOnTheWay s (run s b (hastened_start j stays window)) (last_of s j)

abbrev pub HastenedStartsEnd : Type 0
HastenedStartsEnd = (s : Supply) (j : Joint) (n : ℕ) (stays : ℕ → Piece → Bool) (window : ℕ → ℕ) (b : List ℕ) → RunsToItsEnd s j → IsOf n j
    → IsStuck s (run s b (hastened_start j stays window)) → run s b (hastened_start j stays window) ≡ at_end (last_of s j)
