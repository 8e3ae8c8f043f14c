-- The deal of a file of either version, without what its host knows of the dealing besides.
use Rattle.std.specs.Prelude.{ℕ, List, Option, Result, Ok, Err}
use Rattle.vd_base_codec.specs.Exact.{StopsAt}
use Rattle.vd_base_codec.specs.Outcome.{FollowsGrammar}
use Rattle.vd_base_codec.specs.Outcome as file
use Rattle.vd_tape.specs.declared.deal_items.deal.Deal.{Deal}
use Rattle.vd_channel_crypto.specs.declared.deal_keys.secrets.Secrets.{Secrets}
use Rattle.vd_base.specs.declared.faults.FileFault.{FileFault}
use Rattle.vd_deal_versions.specs.declared.dealt.Dealt.{Dealt}
use Rattle.vd_deal_versions.specs.Reading.{dealt_read}
use Rattle.vd_deal_versions.specs.Text.{IsDealtFile, IsDealtText}

abbrev pub dealt_with : Deal → Option Secrets → Dealt
dealt_with deal secrets = record { deal = deal; secrets = secrets }

-- The bytes are the text of this deal, of either version.
abbrev pub IsDealIn : (hosts me : ℕ) → List ℕ → Deal → Type 0
IsDealIn hosts me bytes deal = (secrets : Option Secrets) × IsDealtFile hosts me bytes (dealt_with deal secrets)

abbrev pub deal_only : Result Dealt ℕ → Result Deal ℕ
deal_only (Ok dealt) = Ok dealt.deal
deal_only (Err offset) = Err offset

-- what the bytes say of a deal, or the offset of the first byte that cannot stand
abbrev pub plain_read : (hosts me : ℕ) → List ℕ → Result Deal ℕ
plain_read hosts me bytes = deal_only (dealt_read hosts me bytes)

-- The bytes have one outcome, and it is what is read of them.
abbrev pub DealsFollowGrammar : (hosts me : ℕ) → List ℕ → Type 0
DealsFollowGrammar hosts me bytes = FollowsGrammar (plain_read hosts me bytes) (IsDealIn hosts me bytes) (StopsAt (IsDealtText hosts me) bytes)

-- Unless memory runs out, a deal is answered exactly where the bytes are its text, and a fault exactly where they have it.
abbrev pub Accepts : (hosts me : ℕ) → List ℕ → Result Deal FileFault → Type 0
Accepts hosts me bytes result = file.Accepts (IsDealIn hosts me bytes) result

abbrev pub Refuses : (hosts me : ℕ) → List ℕ → Result Deal FileFault → Type 0
Refuses hosts me bytes result = file.Refuses (StopsAt (IsDealtText hosts me) bytes) result
