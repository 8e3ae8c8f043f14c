use Rattle.std.proofs.Common.{refl, ◌∙◌}
use Rattle.std.proofs.lemmas.Result.{err_from_is_err_and}
use Rattle.vd_host_children.specs.Reading.{NotRead}
use Rattle.vd_host_children.proofs.Outputs.{line_falls, line_refused, not_finished, nothing_printed, printed_more, read_short, read_whole}
use Rattle.vd_host_children.proofs.reading.read.Goals as goal

pub lines-init : goal.lines-init
lines-init g c = record { given = refl; printed = nothing_printed c.args.child _ c.new-output.result c.new-output.ensures.words c.new-output.ensures.over }

pub lines-preserved : goal.lines-preserved
lines-preserved g c = record {
  given = (c.in-Ok.ensures {u = tt}).given ∙ c.lines.invariant.given;
  printed = printed_more c.args.child c.args.host _ _ _ _ c.in-Some.line c.as_slice.result.now _ _ c.lines.invariant.printed (c.in-Ok.ensures {u = tt}) c.in-Some.is c.as_slice.ensures.same c.in_ok-take_line-in-Some.ensures;
}

pub lines-smaller : goal.lines-smaller
lines-smaller g c = line_falls c.args.host c.as_slice.result.now _ _ c.in_ok-take_line-in-Some.ensures

pub returns-in_err-take_line-in-Some-clause-reads : goal.returns-in_err-take_line-in-Some-clause-reads
returns-in_err-take_line-in-Some-clause-reads g c =
    let p = err_from_is_err_and c.from_residual.result c.from_residual.ensures.1 in
    rw (p.1, p.2)
    (line_refused c.args.child c.args.host _ _ _ _ c.in-Some.line c.as_slice.result.now c.lines.output c.lines.output _ c.lines.invariant.printed (c.in-Ok.ensures {u = tt}) c.in-Some.is c.as_slice.ensures.same c.in_err-take_line-in-Some.ensures)

pub returns-in_err-finish-in-None-clause-reads : goal.returns-in_err-finish-in-None-clause-reads
returns-in_err-finish-in-None-clause-reads g c =
    let p = err_from_is_err_and c.from_residual-in_err-finish-in-None.result c.from_residual-in_err-finish-in-None.ensures.1 in
    rw (p.1, p.2) (not_finished c.args.child c.args.host _ _ _ _ _ _ _ c.lines.invariant.printed (c.in-Ok.ensures {u = tt}) c.in-None.is (c.in_err-finish-in-None.ensures {u = tt}))

pub returns-then-output-clause-reads : goal.returns-then-output-clause-reads
returns-then-output-clause-reads g c =
    read_whole c.args.child c.args.host _ _ _ _ _ c.lines.output c.lines.invariant.printed (c.in-Ok.ensures {u = tt}) c.in-None.is (c.in_ok-finish-in-None.ensures {u = tt}) c.if-output.true

pub returns-in-None-clause-reads : goal.returns-in-None-clause-reads
returns-in-None-clause-reads g c =
    read_short c.args.child c.args.host _ _ _ _ _ c.lines.output c.lines.invariant.printed (c.in-Ok.ensures {u = tt}) c.in-None.is (c.in_ok-finish-in-None.ensures {u = tt}) c.if-output.false

pub returns-in-Err-clause-reads : goal.returns-in-Err-clause-reads
returns-in-Err-clause-reads g c = rw c.fault_of.ensures (NotRead _ _ _ c.in-Err.fault c.lines.invariant.printed (c.in-Err.ensures {u = tt}))
