use Rattle.std.proofs.Common.{◌≡◌, ◌∙◌, ◌++◌, [], ℕ, List, ap}
use Rattle.sha2.specs.Sha256.{sha256}
use Rattle.vd_channel_crypto.specs.Codes.{padded}
use Rattle.vd_channel_crypto.proofs.Pieces.{three_behind, under_pad}
use Rattle.vd_channel_crypto.proofs.codes.hmac.Goals as goal

pub returns : goal.returns
returns c =
    let key = c.args.key.now in
    let inner = c.finalize-digest.ensures _ (c.update-4.ensures _ (c.update-3.ensures _ (c.update-2.ensures _ (c.update.ensures [] c.new-inner.ensures)))) in
    let outer = c.finalize.ensures _ (c.update-6.ensures _ (c.update-5.ensures [] c.new-outer.ensures)) in
    let digest = inner ∙ ap sha256 (three_behind _ _ c.args.first.now c.args.second.now c.args.third.now (under_pad 0x36 key _ _ c.padded.ensures c.filled-block.ensures)) in
    outer
    ∙ ap (λ (m : List ℕ). sha256 (m ++ c.finalize-digest.result)) (under_pad 0x5c key _ _ c.padded-2.ensures c.filled-block.ensures)
    ∙ ap (λ (d : List ℕ). sha256 (padded 0x5c key ++ d)) digest
