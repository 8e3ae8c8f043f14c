-- What a key deals is read back.
use Rattle.std.specs.Prelude.{◌≡◌, ℕ, List, Some, Ok, slice_get}
use Rattle.vd_tape.specs.declared.deal_items.deal.Counts.{Counts}
use Rattle.vd_tape.specs.declared.deal_items.deal.Deal.{Deal}
use Rattle.vd_channel_crypto.specs.DealKeysKeys.{items_key}
use Rattle.vd_channel_crypto.specs.Secrets.{secrets_of}
use Rattle.vd_tape.specs.Made.{AreCounts, keyed_deals}
use Rattle.vd_deal_versions.specs.Plain.{dealt_with}
use Rattle.vd_deal_versions.specs.Reading.{dealt_read}
use Rattle.vd_cmd_deal.specs.KeyDealing.{keyed_deal_text}

-- the file of a host is read as its deal, with the name of the dealing and the keys of its links
abbrev pub KeyDealsAreRead : Type 0
KeyDealsAreRead =
    (counts : Counts) (key : List ℕ) (me : ℕ) (deal : Deal) → AreCounts counts → slice_get (keyed_deals counts (items_key counts key)) me ≡ Some deal
    → dealt_read counts.hosts me (keyed_deal_text counts key deal) ≡ Ok (dealt_with deal (Some (secrets_of counts key deal.me.0)))
