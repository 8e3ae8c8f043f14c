use Rattle.std.proofs.Common.{List, rules, subst}
use Rattle.vd_base.specs.declared.protocols.Proto.{Proto}
use Rattle.vd_execution.specs.Joint.{Done}
use Rattle.vd_cmd_compile.proofs.Front.{can_run}
use Rattle.vd_projection.specs.Early.{AreEarlyCodes}
use Rattle.vd_cmd_compile_early.proofs.Compiled.{answered, few_codes}
use Rattle.vd_cmd_compile_early.proofs.Telling.{programs_stored}
use Rattle.vd_cmd_compile_early.proofs.early_command.compile_at.Goals as goal

pub split_early-requires : goal.split_early-requires
split_early-requires c = can_run c.args.program.now c.args.assignment.now c.form.ensures.well_made c.form.ensures.fit c.requires c.as_slice-protocols.result.now c.as_slice-protocols.ensures

pub files_of-requires : goal.files_of-requires
files_of-requires c = few_codes c.args.program.now c.as_slice-protocols.result.now c.in_ok-codes.codes c.form.ensures.well_made (c.in_ok-codes.ensures {u = tt})

pub returns-clause-computes : goal.returns-clause-computes
returns-clause-computes c =
    let early = subst (λ (l : List Proto). AreEarlyCodes c.args.program.now l c.in_ok-codes.codes) c.as_slice-protocols.ensures (c.in_ok-codes.ensures {u = tt}) in (
      early.joint,
      answered c.args.program.now early.joint c.args.assignment.now c.args.text.now c.args.prefix.now c.in_ok-printed.printed c.as_slice.result.now c.in_ok-told.told c.as_slice-2.result.now
          c.in_ok-codes.codes c.plan_of-plan.result c.form.result.now c.in_ok-stores.stores (c.in_ok-printed.ensures {u = tt}) c.as_slice.ensures (c.in_ok-told.ensures {u = tt}) c.as_slice-2.ensures
          c.plan_of-plan.ensures c.form.ensures.same early.codes_are (c.in_ok-stores.ensures {u = tt}),
    )

pub returns-clause-tells : goal.returns-clause-tells
returns-clause-tells c =
    programs_stored c.args.program.now c.args.text.now c.args.prefix.now c.args.assignment.now c.in_ok-printed.printed c.as_slice.result.now c.in_ok-told.told c.as_slice-2.result.now c.in_ok-codes.codes
    c.plan_of-plan.result c.form.result.now c.in_ok-stores.stores c.requires c.form.ensures.well_made c.form.ensures.fit c.as_slice.ensures
    (c.in_ok-told.ensures {u = tt}) c.as_slice-2.ensures c.plan_of-plan.ensures c.form.ensures.same
    (subst (λ (l : List Proto). AreEarlyCodes c.args.program.now l c.in_ok-codes.codes) c.as_slice-protocols.ensures (c.in_ok-codes.ensures {u = tt})) (c.in_ok-stores.ensures {u = tt})

pub returns-in_err-codes-clause-computes : goal.returns-in_err-codes-clause-computes
returns-in_err-codes-clause-computes c = (Done, search rules)
