-- The codes of all hosts, and their machines before them.
use Rattle.std.specs.Prelude.{◌≡◌, ℕ, ◌<◌, List, [], ◌∷◌, Some, length, slice_get}
use Rattle.vd_tape.specs.declared.deal_items.deal.Deal.{Deal}
use Rattle.vd_tape.specs.Validity.{AreDeals}
use Rattle.vd_execution.specs.declared.instructions.Instr.{Instr}
use Rattle.vd_execution.specs.Code.{Code}
use Rattle.vd_execution.specs.Joint.{Joint, code_of}
use Rattle.vd_execution.specs.Ranges.{IsInRange}
use Rattle.vd_execution.specs.Text.{IsCodeOf}
use Rattle.vd_execution.specs.Claims.{IsOf}
use Rattle.vd_machine.specs.Kept.{Kept, state_of, at_start}

-- the codes of the hosts of a joint code, in order: each can be loaded, and no further host has code
pub record AreCodesOf (codes : List (List Instr)) (j : Joint) : Type 0 where
  pub each : (h : ℕ) (code : List Instr) → slice_get codes h ≡ Some code → IsCodeOf code (code_of h j)
  pub in_range : (h : ℕ) → h < length codes → IsInRange (length codes) (code_of h j)
  pub all : IsOf (length codes) j

-- some joint code has these codes
abbrev pub AreCodes : List (List Instr) → Type 0
AreCodes codes = (j : Joint) × AreCodesOf codes j

-- the inputs and the deal of each host that has a code
pub record AreForAll (codes : List (List Instr)) (inputs : List (List ℕ)) (deals : List Deal) : Type 0 where
  pub are_codes : AreCodes codes
  pub all_inputs : length inputs ≡ length codes
  pub all_deals : length deals ≡ length codes
  pub are_deals : AreDeals deals

-- a machine before a code, with these lists
pub record Loads (code : List Instr) (words : List ℕ) (deal : Deal) (m : Kept) : Type 0 where
  pub pending : (c : Code) → IsCodeOf code c → state_of m ≡ at_start c
  pub inputs : m.lists.inputs ≡ words
  pub dealt : m.lists.deal ≡ deal

-- each code can be loaded with its deal
abbrev pub CanLoad : List Instr → Deal → Type 0
CanLoad code deal = (c : Code) × IsCodeOf code c × IsInRange deal.hosts c

-- a machine for each code, in order
abbrev pub EachLoads : List (List Instr) → List (List ℕ) → List Deal → List Kept → Type 0
EachLoads [] [] [] [] = Unit {0}
EachLoads (code ∷ codes) (words ∷ inputs) (deal ∷ deals) (m ∷ machines) =
    Loads code words deal m × EachLoads codes inputs deals machines
EachLoads codes inputs deals machines = ⊥
