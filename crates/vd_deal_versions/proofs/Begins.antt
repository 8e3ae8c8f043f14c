-- How files of deals begin.
use Rattle.std.proofs.Common.{◌≡◌, ℕ, List, ◌++◌, Option, Some, None, codes, refl}
use Rattle.vd_tape.specs.declared.deal_items.deal.Deal.{Deal}
use Rattle.vd_channel_crypto.specs.declared.deal_keys.secrets.Secrets.{Secrets}
use Rattle.vd_deal_versions.specs.Text.{DealtTextsBegin, text_by}

begins : (deal : Deal) (secrets : Option Secrets) → (rest : List ℕ) × (text_by deal secrets ≡ codes "viaduct-deal " ++ rest)
begins deal None = (_, refl)
begins deal (Some secrets) = (_, refl)

pub texts_begin : DealtTextsBegin
texts_begin dealt = begins dealt.deal dealt.secrets
