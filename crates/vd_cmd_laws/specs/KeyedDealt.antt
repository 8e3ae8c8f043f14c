-- What the files that `deal` stores for a key of 32 bytes hold, read back.
use Rattle.std.specs.Prelude.{◌≡◌, ◌≢◌, ◌<◌, ◌≤◌, ℕ, List, Some, length, codes}
use Rattle.vd_outside.specs.Files.{Contents}
use Rattle.vd_base.specs.Limits.{most_deal_bytes}
use Rattle.vd_tape.specs.declared.deal_items.deal.Counts.{Counts}
use Rattle.vd_channel_crypto.specs.Codes.{derived}
use Rattle.vd_channel_crypto.specs.DealKeysKeys.{id_info, link_info, salt}
use Rattle.vd_channel_crypto.specs.Secrets.{secrets_of}
use Rattle.vd_tape.specs.Made.{AreCounts, keyed_deal}
use Rattle.vd_deal_versions.specs.Plain.{dealt_with}
use Rattle.vd_deal_versions.specs.Text.{IsDealtFile, IsSecretDealOf, secret_text}
use Rattle.vd_deal_versions.specs.declared.dealt.SecretDeal.{SecretDeal}
use Rattle.vd_cmd_plan.specs.Deliver.{stored}
use Rattle.vd_cmd_plan.specs.Held.{IsHeld}
use Rattle.vd_cmd_plan.specs.Numbered.{file_name}
use Rattle.vd_cmd_deal.specs.KeyDealing.{key_answer}
use Rattle.vd_cmd_laws.specs.Dealt.{TellsDeal}

-- A key that is made of that of a dealing as its name and the keys of links are, but for another purpose than any of these, which hosts are
-- told: so it is hashed of other bytes.
pub record IsForNoOther (made key : List ℕ) : Type 0 where
  pub purpose : List ℕ
  pub is : made ≡ derived salt key purpose
  pub no_name : (counts : Counts) → purpose ≢ id_info counts
  pub no_link : (counts : Counts) (a b : ℕ) → purpose ≢ link_info counts a b

-- the file of a host is the text of the deal that the key of the items makes for it, with the name of the dealing and the keys of its links
abbrev pub HoldsKeyed : Counts → (key items prefix : List ℕ) → Contents → (number : ℕ) → Type 0
HoldsKeyed counts key items prefix contents number =
    IsHeld (file_name prefix number (codes ".deal")) most_deal_bytes contents
    (λ bytes. IsDealtFile counts.hosts number bytes (dealt_with (keyed_deal counts items number) (Some (secrets_of counts key number))))

-- The files are those of the deals of so many hosts, of which all holds that does of those that a number makes; and each has besides what
-- its host knows of the dealing. The key that the items are made of is neither the name nor the key of a link.
pub record TellsKeyed (counts : Counts) (key prefix : List ℕ) (contents : Contents) : Type 0 where
  pub deal : TellsDeal counts prefix contents
  pub items : List ℕ
  pub apart : IsForNoOther items key
  pub secrets : (number : ℕ) → number < counts.hosts → HoldsKeyed counts key items prefix contents number

-- what `deal` stores for a key of 32 bytes is so, whatever stood in the files before
abbrev pub KeyedDealsTell : Type 0
KeyedDealsTell = (counts : Counts) (key prefix : List ℕ) (contents : Contents) → AreCounts counts
    → TellsKeyed counts key prefix (stored (key_answer counts key prefix).stores contents)

-- each deal of version 2 has a text that is short enough to be read
abbrev pub SecretTextsAreShort : Type 0
SecretTextsAreShort = (hosts me : ℕ) (deal : SecretDeal) → IsSecretDealOf hosts me deal → length (secret_text deal) ≤ most_deal_bytes
