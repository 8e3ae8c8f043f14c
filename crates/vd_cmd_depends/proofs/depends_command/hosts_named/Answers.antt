use Rattle.std.proofs.Common.{List, ◌+◌, ◌∙◌, sym, subst, arith}
use Rattle.std.proofs.lemmas.Result.{err_from_is_err_and}
use Rattle.vd_base.specs.declared.ids.HostId.{HostId}
use Rattle.vd_cmd_depends.proofs.Group.{Begun, all_named, begun, one_more, one_refused}
use Rattle.vd_cmd_depends.proofs.depends_command.hosts_named.Goals as goal

pub loop-name-init : goal.loop-name-init
loop-name-init c = subst (λ (group : List HostId). Begun c.args.hosts.now c.args.names.now 0 group) (sym c.new-group.ensures) (begun c.args.hosts.now c.args.names.now)

pub returns-in_err-host : goal.returns-in_err-host
returns-in_err-host c =
    let p = err_from_is_err_and c.from_residual.result c.from_residual.ensures.1 in
    rw (p.1, p.2) (one_refused c.args.hosts.now c.args.names.now c.loop-name.name-index c.as_str.result.now c.name-item.result (c.as_str.ensures ∙ c.name-item.is) c.loop-name-test.true c.loop-name.group c.in_err-host.field-0.0 c.loop-name.invariant (c.in_err-host.ensures {u = tt}))

pub loop-name-preserved : goal.loop-name-preserved
loop-name-preserved c =
    subst (λ (group : List HostId). Begun c.args.hosts.now c.args.names.now (c.loop-name.name-index + 1) group) (sym (c.in_ok-push.ensures {u = tt}).ok)
    (one_more c.args.hosts.now c.args.names.now c.loop-name.name-index c.as_str.result.now c.name-item.result (c.as_str.ensures ∙ c.name-item.is) c.loop-name-test.true c.loop-name.group c.in_ok-host.host c.loop-name.invariant (c.in_ok-host.ensures {u = tt}))

pub returns : goal.returns
returns c = all_named c.args.hosts.now c.args.names.now c.loop-name.name-index c.loop-name.group (omega (arith, c.loop-name-test.false)) c.loop-name.invariant
