-- The files of deals, of both versions.
use Rattle.std.specs.Prelude.{◌≡◌, ◌-◌, ℕ, ◌+◌, List, [], ◌∷◌, ◌++◌, Option, Some, None, codes, length}
use Rattle.std.specs.List.{AllByRecursion}
use Rattle.sha2.specs.Sha256.{sha256}
use Rattle.vd_base_codec.specs.Reading.{field}
use Rattle.vd_tape.specs.declared.deal_items.items.Triple.{Triple}
use Rattle.vd_tape.specs.declared.deal_items.items.PairItem.{PairItem}
use Rattle.vd_tape.specs.declared.deal_items.deal.Deal.{Deal}
use Rattle.vd_tape.specs.Validity.{peer_at}
use Rattle.vd_base_codec.specs.Digits.{IsKey, key_text}
use Rattle.vd_channel_crypto.specs.declared.deal_keys.secrets.LinkKey.{LinkKey}
use Rattle.vd_channel_crypto.specs.declared.deal_keys.secrets.Secrets.{Secrets}
use Rattle.vd_tape.specs.Text.{list_text, share_text, deal_text, IsDealOf}
use Rattle.vd_deal_versions.specs.declared.dealt.SecretDeal.{SecretDeal}
use Rattle.vd_deal_versions.specs.declared.dealt.Dealt.{Dealt}

-- the line of the key of the link to a peer
abbrev pub link_text : ℕ → LinkKey → List ℕ
link_text peer link = codes "link" ++ (field peer ++ (32 ∷ (key_text link.0 ++ 10 ∷ [])))

-- the lines of the peers from a place on: the key of the link, and then the items
unfoldable pub linked_text : ℕ → ℕ → List LinkKey → List (List Triple) → List (List Triple) → List (List PairItem) → List ℕ
linked_text me place (link ∷ links) (ts ∷ triples) (bs ∷ bits) (ps ∷ pairs) =
    link_text (peer_at me place) link ++ (share_text (peer_at me place) ts bs ps ++ linked_text me (place + 1) links triples bits pairs)
linked_text me place [] triples bits pairs = []
linked_text me place (link ∷ links) [] bits pairs = []
linked_text me place (link ∷ links) (ts ∷ triples) [] pairs = []
linked_text me place (link ∷ links) (ts ∷ triples) (bs ∷ bits) [] = []

-- what stands before the lines of peers, behind the version
abbrev pub front_text : Deal → Secrets → List ℕ
front_text deal secrets =
    field deal.hosts ++ (field deal.me.0 ++ (codes "\nid " ++ (key_text secrets.id ++ (codes "\nown" ++ list_text field deal.own))))

-- a file of version 2 up to its last line
abbrev pub body_text : SecretDeal → List ℕ
body_text x =
    codes "viaduct-deal 2" ++ (front_text x.deal x.secrets
    ++ linked_text x.deal.me.0 0 x.secrets.links x.deal.triples x.deal.bits x.deal.pairs)

-- the last line: the SHA-256 of all that stands before it
abbrev pub sum_line : (body : List ℕ) → List ℕ
sum_line body = codes "sum " ++ (key_text (sha256 body) ++ codes "\n")

-- the whole file of version 2
abbrev pub secret_text : SecretDeal → List ℕ
secret_text x = body_text x ++ sum_line (body_text x)

-- 32 bytes for the name of the dealing and for each link
pub record AreSecretsOf (hosts : ℕ) (secrets : Secrets) : Type 0 where
  pub id : IsKey secrets.id
  pub each_peer : length secrets.links ≡ hosts - 1
  pub keys : AllByRecursion (λ (link : LinkKey). IsKey link.0) secrets.links

abbrev pub IsSecretDealOf : (hosts me : ℕ) → SecretDeal → Type 0
IsSecretDealOf hosts me x = IsDealOf hosts me x.deal × AreSecretsOf hosts x.secrets

-- the same for a file of either version
abbrev pub secret_of : Deal → Secrets → SecretDeal
secret_of deal secrets = record { deal = deal; secrets = secrets }

abbrev pub text_by : Deal → Option Secrets → List ℕ
text_by deal None = deal_text deal
text_by deal (Some secrets) = secret_text (secret_of deal secrets)

abbrev pub dealt_text : Dealt → List ℕ
dealt_text dealt = text_by dealt.deal dealt.secrets

-- A file of a deal, of whichever version, begins so.
abbrev pub DealtTextsBegin : Type 0
DealtTextsBegin = (dealt : Dealt) → (rest : List ℕ) × (dealt_text dealt ≡ codes "viaduct-deal " ++ rest)

abbrev pub Fit_by : (hosts me : ℕ) → Deal → Option Secrets → Type 0
Fit_by hosts me deal None = IsDealOf hosts me deal
Fit_by hosts me deal (Some secrets) = IsSecretDealOf hosts me (secret_of deal secrets)

abbrev pub IsDealtOf : (hosts me : ℕ) → Dealt → Type 0
IsDealtOf hosts me dealt = Fit_by hosts me dealt.deal dealt.secrets

-- The bytes are the text of this deal, of either version; and of some deal.
abbrev pub IsDealtFile : (hosts me : ℕ) → List ℕ → Dealt → Type 0
IsDealtFile hosts me bytes dealt = IsDealtOf hosts me dealt × (dealt_text dealt ≡ bytes)

abbrev pub IsDealtText : (hosts me : ℕ) → List ℕ → Type 0
IsDealtText hosts me bytes = (dealt : Dealt) × IsDealtFile hosts me bytes dealt
