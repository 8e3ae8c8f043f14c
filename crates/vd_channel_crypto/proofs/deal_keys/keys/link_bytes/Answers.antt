use Rattle.std.proofs.Common.{◌≡◌, ◌∷◌, [], ℕ, List, ap, slice_index}
use Rattle.vd_channel_crypto.proofs.deal_keys.keys.link_bytes.Goals as goal

pub returns : goal.returns
returns c =
    ap
    (λ (b : List ℕ).
    slice_index b 0 ∷ slice_index b 1 ∷ slice_index b 2 ∷ slice_index b 3 ∷ slice_index b 4 ∷ slice_index b 5 ∷ slice_index b 6 ∷ slice_index b 7 ∷ slice_index b 8
    ∷ slice_index b 9 ∷ slice_index b 10 ∷ slice_index b 11 ∷ slice_index b 12 ∷ slice_index b 13 ∷ slice_index b 14 ∷ slice_index b 15 ∷ slice_index b 16
    ∷ c.args.lower ∷ c.args.higher ∷ [])
    c.counts_bytes.ensures
