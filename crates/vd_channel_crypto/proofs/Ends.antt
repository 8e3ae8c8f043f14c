-- The key of the link to a peer.
use Rattle.std.proofs.Common.{◌≡◌, ◌∙◌, ℕ, List, ap, min, max}
use Rattle.vd_tape.specs.declared.deal_items.deal.Counts.{Counts}
use Rattle.vd_tape.specs.Validity.{peer_at}
use Rattle.vd_channel_crypto.specs.declared.deal_keys.secrets.LinkKey.{LinkKey}
use Rattle.vd_channel_crypto.specs.DealKeysKeys.{link_key, link_between}

pub link_of : (counts : Counts) (key : List ℕ) (me place peer least most : ℕ) (result : List ℕ) → peer ≡ peer_at me place → least ≡ min me peer
    → most ≡ max me peer → result ≡ link_key counts key least most
    → (let link : LinkKey = record { 0 = result } in link) ≡ link_between counts key me (peer_at me place)
link_of counts key me place peer least most result is low high made =
    ap (λ (k : List ℕ). let link : LinkKey = record { 0 = k } in link)
    (made ∙ ap (λ (l : ℕ). link_key counts key l most) low ∙ ap (λ (h : ℕ). link_key counts key (min me peer) h) high)
    ∙ ap (λ (p : ℕ). link_between counts key me p) is
