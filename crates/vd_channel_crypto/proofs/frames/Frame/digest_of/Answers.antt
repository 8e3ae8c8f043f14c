use Rattle.std.proofs.Common.{◌≡◌, ◌∙◌, ◌++◌, ℕ, List, ap}
use Rattle.sha2.specs.Sha256.{sha256}
use Rattle.vd_channel_crypto.specs.Hellos.{hello_bytes}
use Rattle.vd_channel_crypto.proofs.Pieces.{both_behind}
use Rattle.vd_channel_crypto.proofs.frames.Frame.digest_of.Goals as goal

pub returns : goal.returns
returns c =
    c.finalize.ensures _ (c.update-2.ensures _ (c.update.ensures _ c.new-hasher.ensures))
    ∙ ap sha256 (both_behind _ _ _ _ (c.as_slice.ensures ∙ c.set_hello.ensures) (c.as_slice-2.ensures ∙ c.set_hello-2.ensures))
