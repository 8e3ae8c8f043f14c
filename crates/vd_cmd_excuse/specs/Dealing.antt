-- The step that reads the deals of all hosts, with what each host knows of its dealing besides.
use Rattle.std.specs.Prelude.{◌≡◌, ℕ, ◌+◌, List, [], ◌∷◌, ◌++◌, length, slice_get, Some, Result, Ok, Err, codes}
use Rattle.vd_base.specs.Limits.{most_deal_bytes}
use Rattle.vd_outside.specs.Files.{Contents}
use Rattle.vd_base_codec.specs.Reading.{capped}
use Rattle.vd_deal_versions.specs.declared.dealt.Dealt.{Dealt}
use Rattle.vd_deal_versions.specs.Reading.{dealt_read}
use Rattle.vd_deal_versions.specs.Text.{IsDealtFile}
use Rattle.vd_cmd_plan.specs.Held.{IsHeld}
use Rattle.vd_cmd_plan.specs.Numbered.{file_name}
use Rattle.vd_cmd_plan.specs.Plans.{Plan, file_then, check_then}
use Rattle.vd_cmd_plan.specs.declared.status.Status.{Status}
use Rattle.vd_cmd_plan.specs.declared.status.Status.TheVariants.{DealText}
use Rattle.vd_cmd_excuse.specs.declared.dealing.Dealing.{Dealing}

abbrev pub as_dealt : List ℕ → (number : ℕ) → Result Dealt ℕ → Result Dealt Status
as_dealt name number (Ok dealt) = Ok dealt
as_dealt name number (Err offset) = Err (DealText name number (capped offset))

-- what the file of the host with this name and number says, among so many, or the status of its refusal
abbrev pub dealt_of : (hosts number : ℕ) → List ℕ → List ℕ → Result Dealt Status
dealt_of hosts number name bytes = as_dealt name number (dealt_read hosts number bytes)

abbrev pub no_dealing : Dealing
no_dealing = record { deals = []; secrets = [] }

-- one more host behind the others
abbrev pub with_dealt : Dealing → Dealt → Dealing
with_dealt dealing dealt = record { deals = dealing.deals ++ dealt.deal ∷ []; secrets = dealing.secrets ++ dealt.secrets ∷ [] }

-- fetch the file of a host and go on with what it says
unfoldable pub dealt_then : (prefix : List ℕ) → (hosts number : ℕ) → (name : List ℕ) → (Dealt → Contents → Plan) → Contents → Plan
dealt_then prefix hosts number name rest =
    file_then (file_name prefix number (codes ".deal")) most_deal_bytes (λ bytes. check_then (dealt_of hosts number name bytes) rest)

-- fetch the files of the hosts that are left, which are numbered from here on, and go on with what they say behind what is known
unfoldable pub dealing_from : (prefix : List ℕ) → (hosts number : ℕ) → (names : List (List ℕ)) → (before : Dealing) → (Dealing → Contents → Plan)
    → Contents → Plan
dealing_from prefix hosts number [] before rest = rest before
dealing_from prefix hosts number (name ∷ names) before rest =
    dealt_then prefix hosts number name (λ dealt. dealing_from prefix hosts (number + 1) names (with_dealt before dealt) rest)

-- fetch the files of all hosts, in order, and go on with what they say
abbrev pub dealing_then : (prefix : List ℕ) → (names : List (List ℕ)) → (Dealing → Contents → Plan) → Contents → Plan
dealing_then prefix names = dealing_from prefix (length names) 0 names no_dealing

-- the file of the host with this number, among so many, says this
abbrev pub HoldsDealt : (prefix : List ℕ) → (hosts number : ℕ) → Contents → Dealt → Type 0
HoldsDealt prefix hosts number contents dealt =
    IsHeld (file_name prefix number (codes ".deal")) most_deal_bytes contents (λ bytes. IsDealtFile hosts number bytes dealt)

-- the files of the first hosts, in order, say this
abbrev pub HoldDealing : (prefix : List ℕ) → (hosts : ℕ) → Contents → Dealing → Type 0
HoldDealing prefix hosts contents dealing =
    (number : ℕ) (dealt : Dealt) → slice_get dealing.deals number ≡ Some dealt.deal → slice_get dealing.secrets number ≡ Some dealt.secrets
    → HoldsDealt prefix hosts number contents dealt
