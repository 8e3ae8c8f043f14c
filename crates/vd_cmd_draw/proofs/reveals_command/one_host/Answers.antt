use Rattle.std.proofs.Common.{List, [], ◌∷◌, ◌++◌, ◌∙◌, ap}
use Rattle.vd_base.specs.declared.ids.HostId.{HostId}
use Rattle.std.proofs.lemmas.Result.{err_from_is_err_and}
use Rattle.vd_cmd_draw.proofs.Asked.{one_asked, one_refused}
use Rattle.vd_cmd_depends.specs.Depending.{as_host}
use Rattle.vd_cmd_draw.proofs.reveals_command.one_host.Goals as goal

pub returns-in_err-host : goal.returns-in_err-host
returns-in_err-host c =
    let p = err_from_is_err_and c.from_residual.result c.from_residual.ensures.1 in
    rw (p.1, p.2) (one_refused (as_host c.args.names.now c.args.name.now) c.in_err-host.field-0.0 (c.in_err-host.ensures {u = tt}))

pub returns : goal.returns
returns c =
    one_asked (as_host c.args.names.now c.args.name.now) c.in_ok-host.host _ (c.in_ok-host.ensures {u = tt})
    ((c.in_ok-push.ensures {u = tt}).ok ∙ ap (λ (hs : List HostId). hs ++ c.in_ok-host.host ∷ []) c.new-list.ensures)
