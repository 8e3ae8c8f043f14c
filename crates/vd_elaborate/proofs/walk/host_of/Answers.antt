use Rattle.std.proofs.Common.{ap, arith}
use Rattle.vd_base.specs.Names.{place_of}
use Rattle.vd_semantics.specs.SourceMeaning.{host_names}
use Rattle.vd_elaborate.proofs.Growth.{place_within, hosts_length}
use Rattle.vd_elaborate.proofs.walk.host_of.Goals as goal

pub overflow_cast-result : goal.overflow_cast-result
overflow_cast-result c =
    let within = place_within (host_names c.args.hosts.now) c.args.host.now.name in
    let name = ap (place_of (host_names c.args.hosts.now)) c.as_slice.ensures in
    let same = hosts_length c.args.hosts.now in
    omega arith
