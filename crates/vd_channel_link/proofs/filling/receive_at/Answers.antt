use Rattle.std.proofs.Common.{rules, arith, take}
use Rattle.vd_channel_link.proofs.Filled.{front_of, within_front}
use Rattle.vd_channel_link.proofs.filling.receive_at.Goals as goal

pub returns-in-Ok-clause-receives : goal.returns-in-Ok-clause-receives
returns-in-Ok-clause-receives g c =
    let r = c.in-Ok.ensures {u = tt} in
    record {
      later = r.later;
      ends = tt;
      failed = search rules;
      ended = search rules;
      still_told = r.still_told;
      sent = r.sent;
      more = let some = c.in-Ok.count-test.1 in omega arith;
      within = within_front c.args.filled c.in-Ok.count c.args.into.now c.receive.new.into _ (omega (arith, c.requires)) r.within;
      fills = λ told. record {
        piece = take c.in-Ok.count c.receive.new.into;
        behind = front_of c.args.filled c.in-Ok.count c.args.into.now c.receive.new.into _ (omega (arith, c.requires)) r.within;
        came = r.coming told;
      };
    }
