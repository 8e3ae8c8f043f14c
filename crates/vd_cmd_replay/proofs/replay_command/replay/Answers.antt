use Rattle.std.proofs.Common.{length, refl, subst, sym, ◌∙◌}
use Rattle.std.proofs.lemmas.Result.{err_from_is_err_and}
use Rattle.vd_core.specs.declared.normal.NormalForm.{NormalForm}
use Rattle.vd_cmd_files.specs.Asking.{AreAsked}
use Rattle.vd_cmd_replay.proofs.Counting.{replay_counted}
use Rattle.vd_cmd_replay.proofs.Held.{headline_told}
use Rattle.vd_cmd_replay.proofs.Playable.{few_names}
use Rattle.vd_cmd_replay.proofs.Replayed.{files_refused, search_refused, source_refused, with_choice}
use Rattle.vd_cmd_replay.proofs.replay_command.replay.Goals as goal

pub load_run_files-requires : goal.load_run_files-requires
load_run_files-requires g c = few_names c.in_ok-program.program c.form.result.now c.form.ensures.well_made c.form.ensures.same

pub replay_choice-requires-clause-found : goal.replay_choice-requires-clause-found
replay_choice-requires-clause-found g c =
    let is = (c.in_ok-choice.ensures {u = tt}).found in record { same = refl; least = is.least; selected = is.selected; valid = is.valid }

pub replay_choice-requires-clause-asked : goal.replay_choice-requires-clause-asked
replay_choice-requires-clause-asked g c =
    subst (λ (p : NormalForm). AreAsked (length p.hosts) c.in_ok-asked.asked) (c.form.ensures.same ∙ sym (c.in_ok-choice.ensures {u = tt}).found.same) (c.in_ok-asked.ensures {u = tt}).asked

pub returns-in_err-program-clause-executes : goal.returns-in_err-program-clause-executes
returns-in_err-program-clause-executes g c =
    let p = err_from_is_err_and c.from_residual.result c.from_residual.ensures.1 in
    let loads = rw c.as_str.ensures at (c.in_err-program.ensures {u = tt}).loads in
    rw (p.1, p.2) (source_refused c.args.words.now _ _ c.in_err-program.field-0.0 loads)

pub returns-in_err-asked-clause-executes : goal.returns-in_err-asked-clause-executes
returns-in_err-asked-clause-executes g c =
    let p = err_from_is_err_and c.from_residual-in_err-asked.result c.from_residual-in_err-asked.ensures.1 in
    let loads = rw c.as_str.ensures at (c.in_ok-program.ensures {u = tt}).loads in
    let asks = rw c.form.ensures.same at (c.in_err-asked.ensures {u = tt}).loads in
    rw (p.1, p.2) (files_refused c.args.words.now _ _ _ c.in_ok-program.program loads c.in_err-asked.field-0.0 asks)

pub returns-in_err-choice-clause-executes : goal.returns-in_err-choice-clause-executes
returns-in_err-choice-clause-executes g c =
    let p = err_from_is_err_and c.from_residual-in_err-choice.result c.from_residual-in_err-choice.ensures.1 in
    let loads = rw c.as_str.ensures at (c.in_ok-program.ensures {u = tt}).loads in
    let asks = rw c.form.ensures.same at (c.in_ok-asked.ensures {u = tt}).loads in
    rw (p.1, p.2)
    (search_refused c.args.words.now _ _ _ c.in_ok-program.program loads c.in_ok-asked.asked asks c.in_err-choice.field-0.0 (c.in_err-choice.ensures {u = tt}).chooses)

pub returns-clause-executes : goal.returns-clause-executes
returns-clause-executes g c =
    let loads = rw c.as_str.ensures at (c.in_ok-program.ensures {u = tt}).loads in
    let asks = rw c.form.ensures.same at (c.in_ok-asked.ensures {u = tt}).loads in
    with_choice c.args.words.now _ _ _ c.in_ok-program.program loads c.in_ok-asked.asked asks c.in_ok-choice.choice c.replay_choice.result (c.in_ok-choice.ensures {u = tt}).chooses c.replay_choice.ensures.executes

pub returns-clause-tells : goal.returns-clause-tells
returns-clause-tells g c =
    let loads = rw c.as_str.ensures at (c.in_ok-program.ensures {u = tt}).loads in
    let given = rw c.as_str.ensures at (c.in_ok-program.ensures {u = tt}).given in
    headline_told c.args.words.now (g.F.Files.view c.args.files.now) (g.F.Files.view c.load_program.new.files) c.in_ok-program.program c.form.result.now c.in_ok-choice.choice.program c.in_ok-asked.asked c.replay_choice.result loads given
    c.form.ensures.same (c.in_ok-asked.ensures {u = tt}).given (c.in_ok-asked.ensures {u = tt}).asked.words (c.in_ok-choice.ensures {u = tt}).found.same c.replay_choice.ensures.tells

pub returns-clause-counts : goal.returns-clause-counts
returns-clause-counts g c =
    let loads = rw c.as_str.ensures at (c.in_ok-program.ensures {u = tt}).loads in
    let given = rw c.as_str.ensures at (c.in_ok-program.ensures {u = tt}).given in
    replay_counted c.args.words.now (g.F.Files.view c.args.files.now) (g.F.Files.view c.load_program.new.files) c.replay_choice.new.packets c.in_ok-program.program c.form.result.now c.in_ok-choice.choice.program c.in_ok-asked.asked
    c.replay_choice.result loads given c.form.ensures.same (c.in_ok-asked.ensures {u = tt}).given (c.in_ok-choice.ensures {u = tt}).found.same c.replay_choice.ensures.counts
