-- Protocols and deals that can always be had.
use Rattle.std.specs.Prelude.{ℕ, ◌^◌, ◌<◌, ◌≤◌, List, [], ◌∷◌, slice_index}
use Rattle.std.specs.List.{All}
use Rattle.vd_base.specs.Limits.{most_hosts}
use Rattle.vd_base.specs.Protocols.{protocols_of}
use Rattle.vd_execution.specs.Step.{Source, Inputs}
use Rattle.vd_execution.specs.World.{Tape, zeros_of}
use Rattle.vd_execution.specs.Deals.{IsValidDeal}
use Rattle.vd_backend_laws.specs.Suite.{IsOver, AreGiven}

-- each protocol over at most four hosts has its hosts among them
abbrev pub ListedProtocolsAreOver : Type 0
ListedProtocolsAreOver = (hosts : ℕ) → hosts ≤ most_hosts → All (IsOver hosts) (protocols_of hosts)

-- ---- deals of zeros

abbrev pub item_with : (ℕ → List ℕ) → ℕ → Source → ℕ → List ℕ
item_with inputs h Inputs i = slice_index (inputs h) i ∷ []
item_with inputs h source i = zeros_of source

-- these inputs, and zeros for all that is dealt
abbrev pub zero_deal : (ℕ → List ℕ) → Tape
zero_deal inputs h source i = item_with inputs h source i

abbrev pub ZeroDealsAreValid : Type 0
ZeroDealsAreValid = (inputs : ℕ → List ℕ) → ((h i : ℕ) → slice_index (inputs h) i < 2 ^ 32) → IsValidDeal (zero_deal inputs) × AreGiven inputs (zero_deal inputs)
