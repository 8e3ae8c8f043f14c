-- The command `deal` for a key of 32 bytes.
use Rattle.std.specs.Prelude.{ℕ, List, [], map, codes}
use Rattle.vd_outside.specs.declared.stored.Stored.{Stored}
use Rattle.vd_tape.specs.declared.deal_items.deal.Deal.{Deal}
use Rattle.vd_tape.specs.declared.deal_items.deal.Counts.{Counts}
use Rattle.vd_channel_crypto.specs.DealKeysKeys.{items_key}
use Rattle.vd_channel_crypto.specs.Secrets.{secrets_of}
use Rattle.vd_tape.specs.Made.{keyed_deals}
use Rattle.vd_deal_versions.specs.Text.{secret_of, secret_text}
use Rattle.vd_cmd_plan.specs.Numbered.{numbered}
use Rattle.vd_cmd_plan.specs.Plans.{ended}
use Rattle.vd_cmd_plan.specs.declared.answer.Answer.{Answer}

-- the file of a host: its deal, the name of the dealing, and the keys of its links
abbrev pub keyed_deal_text : Counts → List ℕ → Deal → List ℕ
keyed_deal_text counts key deal = secret_text (secret_of deal (secrets_of counts key deal.me.0))

-- a file for each host
abbrev pub secret_files : Counts → (key prefix : List ℕ) → List Deal → List Stored
secret_files counts key prefix deals = numbered prefix (codes ".deal") 0 (map (keyed_deal_text counts key) deals)

-- what it comes to: it prints nothing
abbrev pub key_answer : Counts → (key prefix : List ℕ) → Answer
key_answer counts key prefix = ended (secret_files counts key prefix (keyed_deals counts (items_key counts key))) []
