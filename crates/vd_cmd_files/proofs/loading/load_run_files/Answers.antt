use Rattle.std.proofs.lemmas.Result.{err_from_is_err_and}
use Rattle.vd_cmd_files.proofs.AskedSteps.{all_held, all_read, are_asked, deals_refused, inputs_refused, schedule_refused}
use Rattle.vd_cmd_files.proofs.loading.load_run_files.Goals as goal

pub returns-in_err-inputs-clause-loads : goal.returns-in_err-inputs-clause-loads
returns-in_err-inputs-clause-loads g c = λ texts outcomes.
    let p = err_from_is_err_and c.from_residual.result c.from_residual.ensures.1 in
    let first = rw c.as_str.ensures at ((c.in_err-inputs.ensures {u = tt}).loads texts) in
    rw (p.1, p.2) (inputs_refused texts outcomes c.args.words.now c.args.names.now _ _ c.in_err-inputs.field-0.0 first)

pub returns-in_err-deals-clause-loads : goal.returns-in_err-deals-clause-loads
returns-in_err-deals-clause-loads g c = λ texts outcomes.
    let p = err_from_is_err_and c.from_residual-in_err-deals.result c.from_residual-in_err-deals.ensures.1 in
    let first = rw c.as_str.ensures at ((c.in_ok-inputs.ensures {u = tt}).loads texts) in
    let second = rw (c.as_str-2.ensures, c.as_slice.ensures) at ((c.in_err-deals.ensures {u = tt}).loads outcomes) in
    rw (p.1, p.2) (deals_refused texts outcomes c.args.words.now c.args.names.now _ _ c.in_ok-inputs.inputs first _ c.in_err-deals.field-0.0 second)

pub returns-in_err-schedule-clause-loads : goal.returns-in_err-schedule-clause-loads
returns-in_err-schedule-clause-loads g c = λ texts outcomes.
    let p = err_from_is_err_and c.from_residual-in_err-schedule.result c.from_residual-in_err-schedule.ensures.1 in
    let first = rw c.as_str.ensures at ((c.in_ok-inputs.ensures {u = tt}).loads texts) in
    let second = rw (c.as_str-2.ensures, c.as_slice.ensures) at ((c.in_ok-deals.ensures {u = tt}).loads outcomes) in
    let third = rw c.as_str-3.ensures at ((c.in_err-schedule.ensures {u = tt}).loads outcomes) in
    rw (p.1, p.2) (schedule_refused texts outcomes c.args.words.now c.args.names.now _ _ c.in_ok-inputs.inputs first _ c.in_ok-deals.deals second _ c.in_err-schedule.field-0.0 third)

pub returns-clause-loads : goal.returns-clause-loads
returns-clause-loads g c = λ texts outcomes.
    let first = rw c.as_str.ensures at ((c.in_ok-inputs.ensures {u = tt}).loads texts) in
    let second = rw (c.as_str-2.ensures, c.as_slice.ensures) at ((c.in_ok-deals.ensures {u = tt}).loads outcomes) in
    let third = rw c.as_str-3.ensures at ((c.in_ok-schedule.ensures {u = tt}).loads outcomes) in
    all_read texts outcomes c.args.words.now c.args.names.now _ _ c.in_ok-inputs.inputs first _ c.in_ok-deals.deals second _ c.in_ok-schedule.schedule third

pub returns-clause-asked : goal.returns-clause-asked
returns-clause-asked g c =
    are_asked c.args.names.now c.as_slice.result.now _ c.requires c.as_slice.ensures (c.in_ok-inputs.ensures {u = tt}).all c.inputs_fit.ensures (c.in_ok-deals.ensures {u = tt}).all (c.in_ok-deals.ensures {u = tt}).deals

pub returns-clause-given : goal.returns-clause-given
returns-clause-given g c =
    let first = rw c.as_str.ensures at (c.in_ok-inputs.ensures {u = tt}).loads in
    let second = rw (c.as_str-2.ensures, c.as_slice.ensures) at (c.in_ok-deals.ensures {u = tt}).loads in
    let found_inputs = rw c.as_str.ensures at (c.in_ok-inputs.ensures {u = tt}).given in
    let found_deals = rw (c.as_str-2.ensures, c.as_slice.ensures) at (c.in_ok-deals.ensures {u = tt}).given in
    let all = rw c.as_slice.ensures at (c.in_ok-deals.ensures {u = tt}).all in
    let found_schedule = rw c.as_str-3.ensures at (c.in_ok-schedule.ensures {u = tt}).given in
    all_held c.args.words.now c.args.names.now (g.F.Files.view c.args.files.now) (g.F.Files.view c.load_inputs.new.files) (g.F.Files.view c.load_deals.new.files) c.in_ok-inputs.inputs c.in_ok-deals.deals c.in_ok-schedule.schedule first second found_inputs found_deals all found_schedule
