use Rattle.vd_channel_crypto.proofs.OneMore.{one_more}
use Rattle.vd_channel_crypto.proofs.deal_keys.secrets.secrets_of.Goals as goal

pub loop-place-preserved : goal.loop-place-preserved
loop-place-preserved c =
    one_more c.args.counts c.args.key.now c.args.me.0 c.loop-place.place c.loop-place.links c.push.new.self c.link_to.result c.loop-place.invariant c.in_ok-push.ensures.ok c.link_to.ensures
