-- The key of one more link.
use Rattle.std.proofs.Common.{◌≡◌, ◌∙◌, ℕ, ◌+◌, List, [], ◌∷◌, ◌++◌, ap, sym, arith}
use Rattle.std.proofs.lemmas.List.FromFn.{map-range_with_len_more}
use Rattle.vd_tape.specs.declared.deal_items.deal.Counts.{Counts}
use Rattle.vd_tape.specs.Validity.{peer_at}
use Rattle.vd_channel_crypto.specs.declared.deal_keys.secrets.LinkKey.{LinkKey}
use Rattle.vd_channel_crypto.specs.DealKeysKeys.{link_between}
use Rattle.vd_channel_crypto.specs.Secrets.{link_keys}

pub one_more : (counts : Counts) (key : List ℕ) (me place : ℕ) (old new : List LinkKey) (link : LinkKey) → old ≡ link_keys counts key me place
    → new ≡ old ++ link ∷ [] → link ≡ link_between counts key me (peer_at me place) → new ≡ link_keys counts key me (place + 1)
one_more counts key me place old new link so_far more is =
    more
    ∙ ap (λ (xs : List LinkKey). xs ++ link ∷ []) so_far
    ∙ ap (λ (x : LinkKey). link_keys counts key me place ++ x ∷ []) is
    ∙ sym (map-range_with_len_more (λ k. link_between counts key me (peer_at me k)) 0 place place (omega arith))
