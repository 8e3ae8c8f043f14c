-- What hosts take items from: the inputs and the deal of each.
use Rattle.std.specs.Prelude.{ℕ, ◌≤◌, List, Option, Some, None, length, slice_get}
use Rattle.vd_base.specs.Words.{InputsAreWords}
use Rattle.vd_tape.specs.declared.deal_items.deal.Deal.{Deal}
use Rattle.vd_tape.specs.Validity.{IsConsistent}
use Rattle.vd_tape.specs.Text.{AreDealsOf}
use Rattle.vd_execution.specs.Step.{Source}
use Rattle.vd_execution.specs.World.{Supply, followed_by_zeros}
use Rattle.vd_execution.specs.Deals.{IsValidDeal}
use Rattle.vd_machine.specs.declared.lists.Lists.{Lists}
use Rattle.vd_machine.specs.Machines.{items_of}
use Rattle.vd_backend_laws.specs.Suite.{AreGiven}
use Rattle.vd_backend_laws.specs.Whole.{inputs_of}

-- the lists of a host: its inputs, and what it was dealt
abbrev pub lists_for : List (List ℕ) → ℕ → Deal → Lists
lists_for inputs h deal = record { inputs = inputs_of inputs h; deal = deal }

-- the item at a place of a list; a host that was dealt nothing has none
abbrev pub items_for : List (List ℕ) → ℕ → Option Deal → Source → ℕ → Option (List ℕ)
items_for inputs h None source i = None
items_for inputs h (Some deal) source i = items_of (lists_for inputs h deal) source i

-- for each host, list and place, the item that stands there in the files
abbrev pub supply_of_files : List (List ℕ) → List Deal → Supply
supply_of_files inputs deals h = items_for inputs h (slice_get deals h)

-- the inputs of at most as many hosts as there are, and a consistent deal of all of them
pub record AreFiles (inputs : List (List ℕ)) (deals : List Deal) : Type 0 where
  pub words : InputsAreWords inputs
  pub few : length inputs ≤ length deals
  pub dealt : AreDealsOf (length deals) deals
  pub consistent : IsConsistent deals

-- followed by zeros they are a valid deal with these inputs
abbrev pub FilesAreValid : Type 0
FilesAreValid = (inputs : List (List ℕ)) (deals : List Deal) → AreFiles inputs deals
    → IsValidDeal (followed_by_zeros (supply_of_files inputs deals)) × AreGiven (inputs_of inputs) (followed_by_zeros (supply_of_files inputs deals))
