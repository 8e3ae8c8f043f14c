use Rattle.std.proofs.Common.{◌≡◌, take}
use Rattle.vd_channel_crypto.proofs.deal_keys.secrets.Secrets.copy.Given as goal

abbrev pub invariant-loop-link : goal.invariant-loop-link
invariant-loop-link l = l.links ≡ take l.link-index l.self.links
