use Rattle.std.proofs.Common.{ℕ, ◌≤◌, length, refl, ap, sym, subst, ◌∙◌}
use Rattle.std.proofs.lemmas.Result.{err_from_is_err_and}
use Rattle.vd_base.specs.Limits.{most_hosts}
use Rattle.vd_core.specs.declared.normal.NormalForm.{NormalForm}
use Rattle.vd_cmd_choice.specs.Searching.{GaveUp, searched_by}
use Rattle.vd_cmd_depends.proofs.Front.{named}
use Rattle.vd_cmd_excuse.specs.Runs.{AreRead}
use Rattle.vd_cmd_excuse.specs.Telling.{TellsAt}
use Rattle.vd_cmd_excuse.proofs.Answered.{search_refused, with_choice}
use Rattle.vd_cmd_excuse.proofs.Naming.{is_low, not_two, unnamed}
use Rattle.vd_cmd_excuse.proofs.excuse_command.excuse_runs.Goals as goal

pub host_named-requires : goal.host_named-requires
host_named-requires c = subst (λ (form : NormalForm). length form.hosts ≤ most_hosts) (sym c.form.ensures.same) c.form.ensures.well_made.limits.hosts

pub excuse_choice-requires-clause-host : goal.excuse_choice-requires-clause-host
excuse_choice-requires-clause-host c = record {
  two = ap (λ (f : NormalForm). length f.hosts) ((c.in_ok-choice.ensures {u = tt}).found.same ∙ sym c.form.ensures.same) ∙ (c.in_ok-expect_two.ensures {u = tt}).two;
  one = is_low c.form.result.now.hosts c.as_str.result.now c.in_ok-host.host (c.in_ok-host.ensures {u = tt}).ok (c.in_ok-expect_two.ensures {u = tt}).two;
}

pub excuse_choice-requires-clause-found : goal.excuse_choice-requires-clause-found
excuse_choice-requires-clause-found c = let is = (c.in_ok-choice.ensures {u = tt}).found in record { same = refl; least = is.least; selected = is.selected; valid = is.valid }

pub excuse_choice-requires-clause-read : goal.excuse_choice-requires-clause-read
excuse_choice-requires-clause-read c =
    subst (λ (n : ℕ). AreRead n c.args.runs) (sym (ap (λ (f : NormalForm). length f.hosts) c.form.ensures.same) ∙ (c.in_ok-expect_two.ensures {u = tt}).two) c.requires.read

pub returns-in_err-host-clause-executes : goal.returns-in_err-host-clause-executes
returns-in_err-host-clause-executes c = (
  GaveUp,
  λ certificates choices outcomes least files.
      let p = err_from_is_err_and c.from_residual.result c.from_residual.ensures.1 in
      let checks = rw (c.form.ensures.same, c.as_str.ensures) at (c.in_err-host.ensures {u = tt}) in
      rw (p.1, p.2) (unnamed outcomes least choices (searched_by certificates choices GaveUp) c.args.words.now c.args.program c.args.runs files c.in_err-host.field-0.0 checks),
)

pub returns-in_err-expect_two-clause-executes : goal.returns-in_err-expect_two-clause-executes
returns-in_err-expect_two-clause-executes c = (
  GaveUp,
  λ certificates choices outcomes least files.
      let p = err_from_is_err_and c.from_residual-in_err-expect_two.result c.from_residual-in_err-expect_two.ensures.1 in
      let checks = rw (c.form.ensures.same, c.as_str.ensures) at (c.in_ok-host.ensures {u = tt}) in
      let two = rw c.form.ensures.same at (c.in_err-expect_two.ensures {u = tt}).checks in
      rw (p.1, p.2) (not_two outcomes least choices (searched_by certificates choices GaveUp) c.args.words.now c.args.program c.args.runs files c.in_ok-host.host checks c.in_err-expect_two.field-0.0 two),
)

pub returns-in_err-choice-clause-executes : goal.returns-in_err-choice-clause-executes
returns-in_err-choice-clause-executes c =
    let p = err_from_is_err_and c.from_residual-in_err-choice.result c.from_residual-in_err-choice.ensures.1 in
    let checks = rw (c.form.ensures.same, c.as_str.ensures) at (c.in_ok-host.ensures {u = tt}) in
    let two = rw c.form.ensures.same at (c.in_ok-expect_two.ensures {u = tt}).checks in
    rw (p.1, p.2) (search_refused c.args.words.now c.args.program c.in_ok-host.host c.args.runs checks two c.in_err-choice.field-0.0 (c.in_err-choice.ensures {u = tt}).chooses)

pub returns-clause-executes : goal.returns-clause-executes
returns-clause-executes c =
    let checks = rw (c.form.ensures.same, c.as_str.ensures) at (c.in_ok-host.ensures {u = tt}) in
    let two = rw c.form.ensures.same at (c.in_ok-expect_two.ensures {u = tt}).checks in
    let executes = rw c.as_str-2.ensures at c.excuse_choice.ensures.executes in
    with_choice c.args.words.now c.args.program c.in_ok-host.host c.args.runs checks two c.in_ok-choice.choice c.excuse_choice.result (c.in_ok-choice.ensures {u = tt}).chooses executes

pub returns-clause-tells : goal.returns-clause-tells
returns-clause-tells c =
    let checks = rw (c.form.ensures.same, c.as_str.ensures) at (c.in_ok-host.ensures {u = tt}) in
    let tells = rw c.as_str-2.ensures at c.excuse_choice.ensures.tells in
    subst (λ (q : NormalForm). TellsAt c.in_ok-host.host q c.args.words.now.out c.args.runs c.excuse_choice.result) (c.in_ok-choice.ensures {u = tt}).found.same tells
    c.args.words.now.host (named c.args.program.hosts c.args.words.now.host c.in_ok-host.host checks.ok)
