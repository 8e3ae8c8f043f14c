use Rattle.vd_projection.proofs.Lines.{codes_are}
use Rattle.vd_projection.proofs.codes.split.Goals as goal

pub returns : goal.returns
returns c =
    codes_are c.args.program.now c.args.protocols.now c.requires c.host_count-hosts.result c.in_ok-lines.lines c.as_slice.result.now c.in_ok-codes.codes
    c.host_count-hosts.ensures (c.in_ok-lines.ensures {u = tt}) c.as_slice.ensures (c.in_ok-codes.ensures {u = tt})
