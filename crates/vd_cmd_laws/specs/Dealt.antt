-- What the files that `deal` stores hold, read back.
use Rattle.std.specs.Prelude.{◌≡◌, ◌≤◌, ℕ, List, length, Ok}
use Rattle.vd_outside.specs.Files.{Contents}
use Rattle.vd_tape.specs.declared.deal_items.deal.Counts.{Counts}
use Rattle.vd_tape.specs.declared.deal_items.deal.Deal.{Deal}
use Rattle.vd_tape.specs.Validity.{IsConsistent}
use Rattle.vd_tape.specs.Made.{AreCounts}
use Rattle.vd_tape.specs.Text.{IsDealOf, deal_text}
use Rattle.vd_base.specs.Limits.{most_deal_bytes}
use Rattle.vd_cmd_plan.specs.Deliver.{stored}
use Rattle.vd_cmd_plan.specs.Plans.{Plan}
use Rattle.vd_cmd_deal.specs.Dealing.{deal_answer}
use Rattle.vd_cmd_files.specs.Outcomes.{ReplayOutcomes}
use Rattle.vd_cmd_files.specs.Deals.{HoldDeals, deals_then, as_consistent}

-- whatever a command does with the deals of hosts with these names, it does with these deals
abbrev pub AreTaken : (prefix : List ℕ) → (names : List (List ℕ)) → Contents → List Deal → Type 0
AreTaken prefix names contents deals = (outcomes : ReplayOutcomes) (rest : List Deal → Contents → Plan)
    → (deals_then outcomes prefix names rest contents).answer ≡ (rest deals contents).answer

-- The files are the texts of the deals of so many hosts, short enough to be read, and all identities hold; so `replay` refuses none
-- of them, neither where it reads them nor where it compares them, whatever the names of the hosts are.
pub record TellsDeal (counts : Counts) (prefix : List ℕ) (contents : Contents) : Type 0 where
  pub deals : List Deal
  pub all : length deals ≡ counts.hosts
  pub held : HoldDeals prefix counts.hosts contents deals
  pub consistent : IsConsistent deals
  pub taken : (names : List (List ℕ)) → length names ≡ counts.hosts → AreTaken prefix names contents deals
  pub judged : (outcomes : ReplayOutcomes) → as_consistent (outcomes.judge deals) ≡ Ok tt

-- what `deal` stores is so, whatever stood in the files before
abbrev pub DealsTell : Type 0
DealsTell = (counts : Counts) (key : ℕ) (prefix : List ℕ) (contents : Contents) → AreCounts counts
    → TellsDeal counts prefix (stored (deal_answer counts key prefix).stores contents)

-- each deal has a text that is short enough to be read
abbrev pub DealTextsAreShort : Type 0
DealTextsAreShort = (hosts me : ℕ) (deal : Deal) → IsDealOf hosts me deal → length (deal_text deal) ≤ most_deal_bytes
