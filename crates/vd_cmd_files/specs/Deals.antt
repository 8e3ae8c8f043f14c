-- The steps that read the deals of all hosts.
use Rattle.std.specs.Prelude.{◌≡◌, ℕ, ◌+◌, List, [], ◌∷◌, ◌++◌, length, slice_get, Option, Some, None, Result, Ok, Err, codes}
use Rattle.vd_base.specs.Limits.{most_deal_bytes}
use Rattle.vd_outside.specs.Files.{FilesView, Contents}
use Rattle.vd_base_codec.specs.Reading.{capped}
use Rattle.vd_tape.specs.declared.deal_items.deal.BadItem.{BadItem}
use Rattle.vd_tape.specs.declared.deal_items.deal.Deal.{Deal}
use Rattle.vd_deal_versions.specs.Plain.{IsDealIn}
use Rattle.vd_cmd_plan.specs.Held.{IsHeld}
use Rattle.vd_cmd_plan.specs.Numbered.{file_name}
use Rattle.vd_cmd_plan.specs.Plans.{Plan, ExecutesStep, file_then, check_then}
use Rattle.vd_cmd_plan.specs.declared.status.Status.{Status}
use Rattle.vd_cmd_plan.specs.declared.status.Status.TheVariants.{BadDeal, DealText}
use Rattle.vd_cmd_files.specs.Outcomes.{ReplayOutcomes}

abbrev pub as_deal : List ℕ → (number : ℕ) → Result Deal ℕ → Result Deal Status
as_deal name number (Ok deal) = Ok deal
as_deal name number (Err offset) = Err (DealText name number (capped offset))

-- the deal of the host with this name and number, among so many, or the status of its refusal
abbrev pub deal_of : ReplayOutcomes → (hosts number : ℕ) → List ℕ → List ℕ → Result Deal Status
deal_of outcomes hosts number name bytes = as_deal name number (outcomes.deal hosts number bytes)

-- fetch the deal of a host and go on with it
unfoldable pub deal_then : ReplayOutcomes → (prefix : List ℕ) → (hosts number : ℕ) → (name : List ℕ) → (Deal → Contents → Plan) → Contents → Plan
deal_then outcomes prefix hosts number name rest =
    file_then (file_name prefix number (codes ".deal")) most_deal_bytes (λ bytes. check_then (deal_of outcomes hosts number name bytes) rest)

-- fetch the deals of the hosts that are left, which are numbered from here on, and go on with them behind those before
unfoldable pub deals_from : ReplayOutcomes → (prefix : List ℕ) → (hosts number : ℕ) → (names : List (List ℕ)) → (before : List Deal) → (List Deal → Contents → Plan) → Contents → Plan
deals_from outcomes prefix hosts number [] before rest = rest before
deals_from outcomes prefix hosts number (name ∷ names) before rest =
    deal_then outcomes prefix hosts number name (λ deal. deals_from outcomes prefix hosts (number + 1) names (before ++ deal ∷ []) rest)

-- fetch the deals of all hosts, in order, and go on with them
abbrev pub deals_then : ReplayOutcomes → (prefix : List ℕ) → (names : List (List ℕ)) → (List Deal → Contents → Plan) → Contents → Plan
deals_then outcomes prefix names = deals_from outcomes prefix (length names) 0 names []

-- what the parts of the command do, whatever functions pick outcomes
abbrev pub LoadsDeal : (prefix : List ℕ) → (hosts number : ℕ) → (name : List ℕ) → FilesView → FilesView → Result Deal Status → Type 0
LoadsDeal prefix hosts number name before now result = (outcomes : ReplayOutcomes) → ExecutesStep (deal_then outcomes prefix hosts number name) before now result

abbrev pub LoadsDeals : (prefix : List ℕ) → (names : List (List ℕ)) → FilesView → FilesView → Result (List Deal) Status → Type 0
LoadsDeals prefix names before now result = (outcomes : ReplayOutcomes) → ExecutesStep (deals_then outcomes prefix names) before now result

-- the file of the host with this number, among so many, is the text of this deal
abbrev pub HoldsDeal : (prefix : List ℕ) → (hosts number : ℕ) → Contents → Deal → Type 0
HoldsDeal prefix hosts number contents deal = IsHeld (file_name prefix number (codes ".deal")) most_deal_bytes contents (λ bytes. IsDealIn hosts number bytes deal)

-- the files of the first hosts, in order, are the texts of these deals
abbrev pub HoldDeals : (prefix : List ℕ) → (hosts : ℕ) → Contents → List Deal → Type 0
HoldDeals prefix hosts contents deals = (number : ℕ) (deal : Deal) → slice_get deals number ≡ Some deal → HoldsDeal prefix hosts number contents deal

-- deals go on where no item breaks its identity, and the first that does is the status of their refusal
abbrev pub as_consistent : Option BadItem → Result (Unit {0}) Status
as_consistent None = Ok tt
as_consistent (Some bad) = Err (BadDeal bad)
