use Rattle.std.proofs.Common.{refl, ◌∙◌}
use Rattle.std.proofs.lemmas.Result.{err_from_is_err_and}
use Rattle.vd_cmd_host.specs.Hosts.{NotReady}
use Rattle.vd_cmd_host.proofs.Running.{named, ran_well, ran_wrong}
use Rattle.vd_cmd_host.proofs.playing.run_loaded.Goals as goal

pub returns-in_err-names : goal.returns-in_err-names
returns-in_err-names g c =
    let p = err_from_is_err_and c.from_residual.result c.from_residual.ensures.1 in
    rw (p.1, p.2) (NotReady refl refl)

pub returns-in_err-addresses : goal.returns-in_err-addresses
returns-in_err-addresses g c =
    let p = err_from_is_err_and c.from_residual-in_err-addresses.result c.from_residual-in_err-addresses.ensures.1 in
    rw (p.1, p.2) (NotReady refl refl)

pub returns-in_err-task : goal.returns-in_err-task
returns-in_err-task g c =
    let p = err_from_is_err_and c.from_residual-in_err-task.result c.from_residual-in_err-task.ensures.1 in
    rw (p.1, p.2) (NotReady refl refl)

pub status_of-requires : goal.status_of-requires
status_of-requires g c =
    let made = c.in_ok-task.ensures {u = tt} in
    named c.args.words.now c.args.loaded c.in_ok-addresses.addresses c.in_ok-task.field-0 (g.N.Net.view c.args.net.now) _ _ _ (c.in_ok-addresses.ensures {u = tt} ∙ c.as_slice.ensures) made.starts made.ready _ c.wait_at_most.ensures
    c.in_ok-names.names c.in-Err.fault c.requires.loaded (c.in_ok-names.ensures {u = tt}) (c.in-Err.ensures {u = tt})

pub returns-in-Ok : goal.returns-in-Ok
returns-in-Ok g c =
    let made = c.in_ok-task.ensures {u = tt} in
    ran_well c.args.words.now c.args.loaded c.in_ok-addresses.addresses c.in_ok-task.field-0 (g.N.Net.view c.args.net.now) _ _ _ (c.in_ok-addresses.ensures {u = tt} ∙ c.as_slice.ensures) made.starts made.ready _ c.wait_at_most.ensures
    c.in-Ok.field-0 (c.in-Ok.ensures {u = tt})

pub returns : goal.returns
returns g c =
    let made = c.in_ok-task.ensures {u = tt} in
    rw c.status_of.ensures
    (ran_wrong c.args.words.now c.args.loaded c.in_ok-addresses.addresses c.in_ok-task.field-0 (g.N.Net.view c.args.net.now) _ _ _ (c.in_ok-addresses.ensures {u = tt} ∙ c.as_slice.ensures) made.starts made.ready _ c.wait_at_most.ensures
    c.in_ok-names.names c.in-Err.fault (c.in_ok-names.ensures {u = tt}) (c.in-Err.ensures {u = tt}))
