use Rattle.vd_excuse.specs.declared.fault.ViewFault.TheVariants as view_fault
use Rattle.vd_cmd_excuse.proofs.Looked.{excused_is, refused_is}
use Rattle.vd_cmd_excuse.proofs.checks.excused.Goals as goal

pub returns-in-Ok-clause-checks : goal.returns-in-Ok-clause-checks
returns-in-Ok-clause-checks c = λ l two. record {
  ok = excused_is c.args.program.now l c.args.protocols.now c.args.host c.args.runs.now c.in-Ok.deals (c.in-Ok.ensures.ok l two);
  err = tt;
}

pub returns-in-Ok-clause-excused : goal.returns-in-Ok-clause-excused
returns-in-Ok-clause-excused c = λ l two. c.in-Ok.ensures.ok l two

pub returns-in-Err-Short-clause-checks : goal.returns-in-Err-Short-clause-checks
returns-in-Err-Short-clause-checks c = λ l two. record {
  ok = tt;
  err = refused_is c.args.program.now l c.args.protocols.now c.args.host c.args.runs.now (view_fault.Short c.in-Err-Short.kind) ((rw c.in-Err-Short.field-0-is at (c.in-Err-Short.ensures.err l two)) (λ e. cc e));
}

pub returns-in-Err-Differ-clause-checks : goal.returns-in-Err-Differ-clause-checks
returns-in-Err-Differ-clause-checks c = λ l two. record {
  ok = tt;
  err = refused_is c.args.program.now l c.args.protocols.now c.args.host c.args.runs.now (view_fault.Differ c.in-Err-Differ.place) ((rw c.in-Err-Differ.field-0-is at (c.in-Err-Differ.ensures.err l two)) (λ e. cc e));
}
