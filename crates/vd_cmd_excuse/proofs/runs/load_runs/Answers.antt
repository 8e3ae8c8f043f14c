use Rattle.std.proofs.lemmas.Result.{err_from_is_err_and}
use Rattle.vd_cmd_excuse.proofs.Reading.{all_held, all_read, are_read, deals_refused, first_refused, second_refused}
use Rattle.vd_cmd_excuse.proofs.runs.load_runs.Goals as goal

pub returns-in_err-first-clause-loads : goal.returns-in_err-first-clause-loads
returns-in_err-first-clause-loads g c = λ texts.
    let p = err_from_is_err_and c.from_residual.result c.from_residual.ensures.1 in
    let one = rw c.as_str.ensures at ((c.in_err-first.ensures {u = tt}).loads texts) in
    rw (p.1, p.2) (first_refused texts c.args.words.now c.args.names.now _ _ c.in_err-first.field-0.0 one)

pub returns-in_err-second-clause-loads : goal.returns-in_err-second-clause-loads
returns-in_err-second-clause-loads g c = λ texts.
    let p = err_from_is_err_and c.from_residual-in_err-second.result c.from_residual-in_err-second.ensures.1 in
    let one = rw c.as_str.ensures at ((c.in_ok-first.ensures {u = tt}).loads texts) in
    let two = rw c.as_str-2.ensures at ((c.in_err-second.ensures {u = tt}).loads texts) in
    rw (p.1, p.2) (second_refused texts c.args.words.now c.args.names.now _ _ c.in_ok-first.first one _ c.in_err-second.field-0.0 two)

pub returns-in_err-dealing-clause-loads : goal.returns-in_err-dealing-clause-loads
returns-in_err-dealing-clause-loads g c = λ texts.
    let p = err_from_is_err_and c.from_residual-in_err-dealing.result c.from_residual-in_err-dealing.ensures.1 in
    let one = rw c.as_str.ensures at ((c.in_ok-first.ensures {u = tt}).loads texts) in
    let two = rw c.as_str-2.ensures at ((c.in_ok-second.ensures {u = tt}).loads texts) in
    let three = rw (c.as_str-3.ensures, c.as_slice.ensures) at (c.in_err-dealing.ensures {u = tt}).loads in
    rw (p.1, p.2) (deals_refused texts c.args.words.now c.args.names.now _ _ c.in_ok-first.first one _ c.in_ok-second.second two _ c.in_err-dealing.field-0.0 three)

pub returns-clause-loads : goal.returns-clause-loads
returns-clause-loads g c = λ texts.
    let one = rw c.as_str.ensures at ((c.in_ok-first.ensures {u = tt}).loads texts) in
    let two = rw c.as_str-2.ensures at ((c.in_ok-second.ensures {u = tt}).loads texts) in
    let three = rw (c.as_str-3.ensures, c.as_slice.ensures) at (c.in_ok-dealing.ensures {u = tt}).loads in
    all_read texts c.args.words.now c.args.names.now _ _ c.in_ok-first.first one _ c.in_ok-second.second two _ c.in_ok-dealing.dealing three

pub returns-clause-read : goal.returns-clause-read
returns-clause-read g c =
    are_read c.args.names.now c.as_slice.result.now _ c.requires c.as_slice.ensures (c.in_ok-first.ensures {u = tt}).all c.inputs_fit.ensures (c.in_ok-second.ensures {u = tt}).all c.inputs_fit-2.ensures
    (c.in_ok-dealing.ensures {u = tt}).all (c.in_ok-dealing.ensures {u = tt}).deals

pub returns-clause-given : goal.returns-clause-given
returns-clause-given g c =
    let one = rw c.as_str.ensures at (c.in_ok-first.ensures {u = tt}).loads in
    let two = rw c.as_str-2.ensures at (c.in_ok-second.ensures {u = tt}).loads in
    let found_first = rw c.as_str.ensures at (c.in_ok-first.ensures {u = tt}).given in
    let found_second = rw c.as_str-2.ensures at (c.in_ok-second.ensures {u = tt}).given in
    let found_dealing = rw (c.as_str-3.ensures, c.as_slice.ensures) at (c.in_ok-dealing.ensures {u = tt}).given in
    let all = rw c.as_slice.ensures at (c.in_ok-dealing.ensures {u = tt}).all in
    let known = rw c.as_slice.ensures at (c.in_ok-dealing.ensures {u = tt}).known in
    all_held c.args.words.now c.args.names.now (g.F.Files.view c.args.files.now) (g.F.Files.view c.load_inputs.new.files) (g.F.Files.view c.load_inputs-2.new.files) c.in_ok-first.first c.in_ok-second.second
    c.in_ok-dealing.dealing one two found_first found_second found_dealing all known
