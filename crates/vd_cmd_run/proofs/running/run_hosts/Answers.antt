use Rattle.std.proofs.Common.{ℕ, List, refl, ap, ◌∙◌}
use Rattle.std.proofs.lemmas.Result.{err_from_is_err_and}
use Rattle.vd_cmd_run.specs.EndedLines.{ended_lines}
use Rattle.vd_cmd_run.specs.RunsHosts.{NoReport, NotRun, NotStored}
use Rattle.vd_cmd_run.proofs.Ways.{not_written, reported}
use Rattle.vd_cmd_run.proofs.running.run_hosts.Goals as goal

pub returns : goal.returns
returns g c =
    reported c.args.stores.now c.args.names.now c.args.program.now c.args.lines.now _ _ c.in_ok-printed.printed _ (c.in_ok-store_all.ensures {u = tt}) (c.in_ok-printed.ensures {u = tt}).runs
    (c.as_slice-2.ensures ∙ c.in_ok-text.ensures {u = tt} ∙ ap (λ (l : List (List ℕ)). ended_lines c.args.names.now l) c.as_slice.ensures) (c.in_ok-write_all.ensures {u = tt})

pub returns-in_err-store_all : goal.returns-in_err-store_all
returns-in_err-store_all g c =
    let p = err_from_is_err_and c.from_residual.result c.from_residual.ensures.1 in
    rw (p.1, p.2) (NotStored _ (c.in_err-store_all.ensures {u = tt}) refl refl)

pub returns-in_err-printed : goal.returns-in_err-printed
returns-in_err-printed g c =
    let p = err_from_is_err_and c.from_residual-in_err-printed.result c.from_residual-in_err-printed.ensures.1 in
    rw (p.1, p.2) (NotRun _ (c.in_ok-store_all.ensures {u = tt}) (c.in_err-printed.ensures {u = tt}).runs refl)

pub returns-in_err-text : goal.returns-in_err-text
returns-in_err-text g c =
    let p = err_from_is_err_and c.from_residual-in_err-text.result c.from_residual-in_err-text.ensures.1 in
    rw (p.1, p.2) (NoReport _ (c.in_ok-store_all.ensures {u = tt}) (c.in_ok-printed.ensures {u = tt}).runs refl)

pub returns-in_err-write_all : goal.returns-in_err-write_all
returns-in_err-write_all g c =
    let p = err_from_is_err_and c.from_residual-in_err-write_all.result c.from_residual-in_err-write_all.ensures.1 in
    rw (p.1, p.2)
    (not_written c.args.stores.now c.args.names.now c.args.program.now c.args.lines.now _ _ c.in_ok-printed.printed _ _ (c.in_ok-store_all.ensures {u = tt}) (c.in_ok-printed.ensures {u = tt}).runs
    (c.as_slice-2.ensures ∙ c.in_ok-text.ensures {u = tt} ∙ ap (λ (l : List (List ℕ)). ended_lines c.args.names.now l) c.as_slice.ensures) (c.in_err-write_all.ensures {u = tt}))
