use Rattle.std.proofs.Common.{◌∙◌}
use Rattle.vd_base.specs.HostSets.{host}
use Rattle.vd_base.specs.Limits.{most_hosts}
use Rattle.vd_base.specs.Holders.{is_holder}
use Rattle.vd_split.proofs.Picked.{hosts_below, hosts_few}
use Rattle.vd_split.proofs.EachStatement.{put_is}
use Rattle.vd_split.proofs.statements.write.Goals as goal

pub deliver-requires-clause-hosts : goal.deliver-requires-clause-hosts
deliver-requires-clause-hosts g c =
    let o = g.P.Protocols.offer c.args.protocols.now in
    hosts_below (λ h. is_holder c.proto_of-proto.result (host h)) o.calls.hosts c.as_slice.result.now (c.as_slice.ensures ∙ c.in_ok-hosts.ensures {u = tt})

pub deliver-requires-clause-few : goal.deliver-requires-clause-few
deliver-requires-clause-few g c =
    let o = g.P.Protocols.offer c.args.protocols.now in
    hosts_few (λ h. is_holder c.proto_of-proto.result (host h)) o.calls.hosts most_hosts c.as_slice.result.now (c.as_slice.ensures ∙ c.in_ok-hosts.ensures {u = tt}) c.requires.ready.served.few

pub returns-clause-exact : goal.returns-clause-exact
returns-clause-exact g c =
    put_is (g.P.Protocols.offer c.args.protocols.now).calls c.args.protos.now c.args.array c.args.index c.args.slot c.args.held.now c.args.to.now c.in_ok-at.at c.deliver.new.to c.in_ok-moved.moved c.move_slot.new.to c.put.new.to
    (rw (c.as_slice.ensures, c.in_ok-hosts.ensures {u = tt}, c.proto_of-proto.ensures) at (c.in_ok-at.ensures {u = tt}).exact)
    (rw c.proto_of-proto.ensures at (c.in_ok-moved.ensures {u = tt}).exact) (rw (c.proto_of-proto.ensures, c.parts_of-kept.ensures, c.as_slice-2.ensures) at (c.in_ok-put.ensures {u = tt}))
