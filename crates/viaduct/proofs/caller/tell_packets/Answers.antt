use Rattle.viaduct.proofs.Told.{packets_told}
use Rattle.viaduct.proofs.caller.tell_packets.Goals as goal

pub returns : goal.returns
returns g c =
    packets_told c.args.ending.now.packets g.K.Known.is_host g.K.Known.is_passed c.host-host.result c.passed.result (g.E.Sink.view c.args.err.now) (g.E.Sink.view c.tell_success.new.err) c.tell_success.result
    c.host-host.ensures c.passed.ensures c.tell_success.ensures
