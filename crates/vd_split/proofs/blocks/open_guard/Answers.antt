use Rattle.std.proofs.Common.{◌∙◌}
use Rattle.vd_base.specs.Limits.{most_hosts}
use Rattle.vd_split.specs.Places.{takers}
use Rattle.vd_split.proofs.Picked.{hosts_below, hosts_few}
use Rattle.vd_split.proofs.Variants.{guard_is}
use Rattle.vd_split.proofs.blocks.open_guard.Goals as goal

pub deliver-requires-clause-hosts : goal.deliver-requires-clause-hosts
deliver-requires-clause-hosts g c =
    let o = g.P.Protocols.offer c.args.protocols.now in
    hosts_below (takers o.calls c.args.protos.now c.args.first.now c.args.other.now) o.calls.hosts c.as_slice.result.now (c.as_slice.ensures ∙ c.in_ok-hosts.ensures {u = tt})

pub deliver-requires-clause-few : goal.deliver-requires-clause-few
deliver-requires-clause-few g c =
    let o = g.P.Protocols.offer c.args.protocols.now in
    hosts_few (takers o.calls c.args.protos.now c.args.first.now c.args.other.now) o.calls.hosts most_hosts c.as_slice.result.now (c.as_slice.ensures ∙ c.in_ok-hosts.ensures {u = tt}) c.requires.ready.served.few

pub returns-clause-exact : goal.returns-clause-exact
returns-clause-exact g c =
    guard_is (g.P.Protocols.offer c.args.protocols.now).calls c.args.protos.now c.args.guard c.args.first.now c.args.other.now c.args.held.now c.args.to.now c.in_ok-parts.parts c.deliver.new.to c.open_branch.new.to
    (rw (c.as_slice.ensures, c.in_ok-hosts.ensures {u = tt}) at (c.in_ok-parts.ensures {u = tt}).exact) (rw c.as_slice-2.ensures at (c.in_ok-open_branch.ensures {u = tt}))
