use Rattle.viaduct.proofs.Told.{reasons_told}
use Rattle.viaduct.proofs.caller.tell_reasons.Goals as goal

pub returns : goal.returns
returns g c =
    reasons_told c.args.ending.now.status g.K.Known.is_host g.K.Known.is_reasons c.host-host.result c.in_ok-reasons.reasons (g.E.Sink.view c.args.err.now) (g.E.Sink.view c.tell_fault.new.err) c.tell_fault.result
    c.host-host.ensures c.in_ok-reasons.ensures c.tell_fault.ensures
