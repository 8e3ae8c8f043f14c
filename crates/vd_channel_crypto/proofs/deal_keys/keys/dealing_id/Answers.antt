use Rattle.std.proofs.Common.{◌∙◌, ◌++◌, ℕ, List, ap, codes}
use Rattle.vd_channel_crypto.specs.Codes.{derived}
use Rattle.vd_channel_crypto.specs.DealKeysKeys.{salt}
use Rattle.vd_channel_crypto.proofs.deal_keys.keys.dealing_id.Goals as goal

pub returns : goal.returns
returns c = c.derive.ensures ∙ ap (λ (l : List ℕ). derived salt c.args.key.now (codes "id" ++ l)) c.counts_bytes.ensures
