use Rattle.std.proofs.Common.{List, ap, ◌∙◌}
use Rattle.vd_base.specs.declared.protocols.Proto.{Proto}
use Rattle.vd_projection.specs.Programs.{host_codes}
use Rattle.vd_cmd_compile.proofs.Compiled.{answered}
use Rattle.vd_cmd_compile.proofs.Runnable.{can_run, few_codes}
use Rattle.vd_cmd_compile.proofs.Telling.{programs_stored}
use Rattle.vd_cmd_compile.proofs.compile_command.compile_at.Goals as goal

pub split-requires : goal.split-requires
split-requires c = can_run c.args.program.now c.args.assignment.now c.form.ensures.well_made c.form.ensures.fit c.requires c.as_slice-protocols.result.now c.as_slice-protocols.ensures

pub files_of-requires : goal.files_of-requires
files_of-requires c = few_codes c.args.program.now c.as_slice-protocols.result.now c.in_ok-codes.codes c.form.ensures.well_made (c.in_ok-codes.ensures {u = tt})

pub returns-clause-computes : goal.returns-clause-computes
returns-clause-computes c =
    answered c.args.program.now c.args.assignment.now c.args.text.now c.args.prefix.now c.in_ok-printed.printed c.as_slice.result.now c.in_ok-codes.codes c.plan_of-plan.result c.form.result.now c.in_ok-stores.stores
    (c.in_ok-printed.ensures {u = tt}) c.as_slice.ensures c.plan_of-plan.ensures c.form.ensures.same
    (c.in_ok-codes.ensures {u = tt} ∙ ap (λ (l : List Proto). host_codes c.args.program.now l) c.as_slice-protocols.ensures) (c.in_ok-stores.ensures {u = tt})

pub returns-clause-tells : goal.returns-clause-tells
returns-clause-tells c =
    programs_stored c.args.program.now c.args.text.now c.args.prefix.now c.args.assignment.now c.in_ok-printed.printed c.as_slice.result.now c.in_ok-codes.codes c.plan_of-plan.result c.form.result.now
    c.in_ok-stores.stores c.requires c.form.ensures.well_made c.form.ensures.fit c.as_slice.ensures c.plan_of-plan.ensures c.form.ensures.same
    (c.in_ok-codes.ensures {u = tt} ∙ ap (λ (l : List Proto). host_codes c.args.program.now l) c.as_slice-protocols.ensures) (c.in_ok-stores.ensures {u = tt})
