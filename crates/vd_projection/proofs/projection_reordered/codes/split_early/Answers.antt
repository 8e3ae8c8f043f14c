use Rattle.vd_projection.proofs.Early.{codes_come_early}
use Rattle.vd_projection.proofs.projection_reordered.codes.split_early.Goals as goal

pub returns : goal.returns
returns c =
    codes_come_early c.args.program.now c.args.protocols.now c.requires c.host_count-hosts.result c.host_count-hosts.ensures c.in_ok-lines.lines
    (c.in_ok-lines.ensures {u = tt}) c.early_codes.result c.early_codes.ensures
