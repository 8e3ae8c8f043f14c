-- Deals of given sizes, and what holds of those that have what the hosts of a program take.
use Rattle.std.specs.Prelude.{◌≡◌, ◌≢◌, ◌≤◌, ◌<◌, ℕ, List, length, Some, slice_get}
use Rattle.vd_base.specs.declared.protocols.Proto.{Proto}
use Rattle.vd_core.specs.declared.normal.NormalForm.{NormalForm}
use Rattle.vd_tape.specs.declared.deal_items.deal.Counts.{Counts}
use Rattle.vd_tape.specs.declared.deal_items.deal.Deal.{Deal}
use Rattle.vd_tape.specs.Validity.{shared_with}
use Rattle.vd_tape.specs.Made.{keyed_deals}
use Rattle.vd_execution.specs.Step.{Inputs}
use Rattle.vd_execution.specs.World.{Supply, IsShort, IsStuck}
use Rattle.vd_execution.specs.Joint.{Joint, at_end}
use Rattle.vd_execution.specs.Claims.{Suffices, last_of, reached}
use Rattle.vd_deal_needs.specs.DealNeedsLawsNeeds.{IsEven, takes}
use Rattle.vd_deal_needs.specs.declared.taking.HostNeeds.{HostNeeds}
use Rattle.vd_deal_needs.specs.Needs.{needs_of}
use Rattle.vd_deal_needs.specs.Sizes.{sizes_of}
use Rattle.vd_backend_laws.specs.Whole.{inputs_of}
use Rattle.vd_world.specs.Supplies.{AreFiles, supply_of_files}
use Rattle.vd_projection.specs.Programs.{CanRunAt, host_codes, joint_of}

-- ---- what is taken, and how much to deal

-- what the hosts of a program take at a list of protocols
abbrev pub needs_for : NormalForm → List Proto → List HostNeeds
needs_for program list = needs_of (host_codes program list)

-- and how much to deal for them
abbrev pub sizes_for : NormalForm → List Proto → Counts
sizes_for program list = sizes_of (needs_for program list)

-- ---- deals of given sizes

-- each list of each host has at least so many items
pub record HasSizes (sizes : Counts) (deals : List Deal) : Type 0 where
  pub own : (h : ℕ) (deal : Deal) → slice_get deals h ≡ Some deal → sizes.own ≤ length deal.own
  pub muls : (h p : ℕ) (deal : Deal) → slice_get deals h ≡ Some deal → p < length deals → p ≢ h → sizes.muls ≤ length (shared_with deal.triples h p)
  pub ands : (h p : ℕ) (deal : Deal) → slice_get deals h ≡ Some deal → p < length deals → p ≢ h → sizes.ands ≤ length (shared_with deal.bits h p)
  pub pairs : (h p : ℕ) (deal : Deal) → slice_get deals h ≡ Some deal → p < length deals → p ≢ h → sizes.pairs ≤ length (shared_with deal.pairs h p)

-- and at most so many
pub record IsWithinSizes (sizes : Counts) (deals : List Deal) : Type 0 where
  pub own : (h : ℕ) (deal : Deal) → slice_get deals h ≡ Some deal → length deal.own ≤ sizes.own
  pub muls : (h p : ℕ) (deal : Deal) → slice_get deals h ≡ Some deal → p < length deals → p ≢ h → length (shared_with deal.triples h p) ≤ sizes.muls
  pub ands : (h p : ℕ) (deal : Deal) → slice_get deals h ≡ Some deal → p < length deals → p ≢ h → length (shared_with deal.bits h p) ≤ sizes.ands
  pub pairs : (h p : ℕ) (deal : Deal) → slice_get deals h ≡ Some deal → p < length deals → p ≢ h → length (shared_with deal.pairs h p) ≤ sizes.pairs

-- the one sizes are in no kind above the others
pub record AreBelow (sizes others : Counts) : Type 0 where
  pub own : sizes.own ≤ others.own
  pub muls : sizes.muls ≤ others.muls
  pub ands : sizes.ands ≤ others.ands
  pub pairs : sizes.pairs ≤ others.pairs

-- the deal that is made of some sizes has them, whatever the key is
abbrev pub AreMade : Counts → Type 0
AreMade sizes = (key : List ℕ) → HasSizes sizes (keyed_deals sizes key)

-- ---- what they are enough for

-- each host hands in as many words as it takes at most
abbrev pub HandInEnough : Joint → List (List ℕ) → Type 0
HandInEnough j inputs = (h : ℕ) → takes j h Inputs ≤ length (inputs_of inputs h)

-- Under no schedule is a host ever short, and each that leaves no host able to step leads to the end of all.
pub record SuffersNoWant (s : Supply) (j : Joint) : Type 0 where
  pub suffices : Suffices s (last_of s j)
  pub nobody_short : (turns : List ℕ) (h : ℕ) → IsShort s (reached s j turns) h → ⊥
  pub all_end : (turns : List ℕ) → IsStuck s (reached s j turns) → reached s j turns ≡ at_end (last_of s j)

-- With all inputs that are enough, each consistent deal of all hosts that has these sizes is.
abbrev pub AreEnough : NormalForm → List Proto → Type 0
AreEnough program list =
    (inputs : List (List ℕ)) (deals : List Deal) → AreFiles inputs deals → length deals ≡ length program.hosts
    → HandInEnough (joint_of program list) inputs → HasSizes (sizes_for program list) deals
    → SuffersNoWant (supply_of_files inputs deals) (joint_of program list)

-- Where no branch takes differently, each deal that suffices has these sizes.
abbrev pub AreLeast : NormalForm → List Proto → Type 0
AreLeast program list =
    IsEven (joint_of program list) → (inputs : List (List ℕ)) (deals : List Deal) (others : Counts) → AreFiles inputs deals → length deals ≡ length program.hosts
    → IsWithinSizes others deals → Suffices (supply_of_files inputs deals) (last_of (supply_of_files inputs deals) (joint_of program list))
    → AreBelow (sizes_for program list) others

-- ---- as laws

abbrev pub SizesAreEnough : Type 0
SizesAreEnough = (program : NormalForm) (list : List Proto) → CanRunAt program list → AreEnough program list

abbrev pub SizesAreLeast : Type 0
SizesAreLeast = (program : NormalForm) (list : List Proto) → CanRunAt program list → AreLeast program list

abbrev pub DealsHaveTheirSizes : Type 0
DealsHaveTheirSizes = (sizes : Counts) → AreMade sizes
