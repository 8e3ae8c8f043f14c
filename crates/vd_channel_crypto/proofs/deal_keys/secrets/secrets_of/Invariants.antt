use Rattle.std.proofs.Common.{◌≡◌}
use Rattle.vd_channel_crypto.specs.Secrets.{link_keys}
use Rattle.vd_channel_crypto.proofs.deal_keys.secrets.secrets_of.Given as goal

abbrev pub invariant-loop-place : goal.invariant-loop-place
invariant-loop-place l = l.links ≡ link_keys l.counts l.key l.me.0 l.place
