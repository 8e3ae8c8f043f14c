use Rattle.std.proofs.Common.{slice_index_or, ◌∙◌}
use Rattle.vd_base.specs.HostSets.{host}
use Rattle.vd_base.specs.Limits.{most_hosts}
use Rattle.vd_base.specs.Holders.{is_holder, proto_in}
use Rattle.vd_split.specs.Suite.{holders_among}
use Rattle.vd_split.specs.Emission.{delivered, and_on}
use Rattle.vd_split.proofs.Onto.{called_on}
use Rattle.vd_split.proofs.Picked.{hosts_below, hosts_few}
use Rattle.vd_split.proofs.rights.element.Goals as goal

pub deliver-requires-clause-hosts : goal.deliver-requires-clause-hosts
deliver-requires-clause-hosts g c =
    let o = g.P.Protocols.offer c.args.protocols.now in
    hosts_below (λ h. is_holder c.proto_of-proto.result (host h)) o.calls.hosts c.as_slice.result.now (c.as_slice.ensures ∙ c.in_ok-hosts.ensures {u = tt})

pub deliver-requires-clause-few : goal.deliver-requires-clause-few
deliver-requires-clause-few g c =
    let o = g.P.Protocols.offer c.args.protocols.now in
    hosts_few (λ h. is_holder c.proto_of-proto.result (host h)) o.calls.hosts most_hosts c.as_slice.result.now (c.as_slice.ensures ∙ c.in_ok-hosts.ensures {u = tt}) c.requires.ready.served.few

pub returns-clause-exact : goal.returns-clause-exact
returns-clause-exact g c =
    let s = (g.P.Protocols.offer c.args.protocols.now).calls in
    let pr = proto_in c.args.protos.now in
    let p = pr c.args.array.0 in
    let told = delivered s pr (pr c.args.index.0) (slice_index_or c.args.held.now c.args.index.0 s.nowhere) (holders_among s p) c.args.to.now.next in
    called_on s pr (and_on s pr told (s.get p (slice_index_or c.args.held.now c.args.array.0 s.nowhere))) (s.move p c.args.at) c.args.to.now
    (c.in_ok-cell.cell, c.get.new.to) (c.in_ok-parts.parts, c.bring.new.to)
    (called_on s pr told (s.get p (slice_index_or c.args.held.now c.args.array.0 s.nowhere)) c.args.to.now (c.in_ok-index.index, c.deliver.new.to) (c.in_ok-cell.cell, c.get.new.to)
    (rw (c.as_slice.ensures, c.in_ok-hosts.ensures {u = tt}, c.proto_of-proto.ensures) at (c.in_ok-index.ensures {u = tt}).exact)
    (rw (c.proto_of-proto.ensures, c.parts_of.ensures, c.as_slice-2.ensures) at (c.in_ok-cell.ensures {u = tt}).exact))
    (rw c.proto_of-proto.ensures at (c.in_ok-parts.ensures {u = tt}).exact)
