use Rattle.std.proofs.Common.{◌≤◌, length, List, sym, subst}
use Rattle.std.specs.Prelude.{All}
use Rattle.vd_base.specs.Limits.{most_principals}
use Rattle.vd_core.specs.declared.normal.NormalForm.{NormalForm}
use Rattle.vd_formula.specs.declared.label.Label.{Label}
use Rattle.vd_constraints.specs.Systems.{IsLabelOver}
use Rattle.vd_noninter.specs.Hosts.{members}
use Rattle.vd_noninter.specs.Reached.{reach_of}
use Rattle.vd_noninter.proofs.Answered.{labels_over, all_answers}
use Rattle.vd_noninter.proofs.dependence.depends.Goals as goal

pub new-requires : goal.new-requires
new-requires c =
    let read = c.form-form.ensures in
    let over = labels_over c.args.program.now c.args.labels.now c.args.host read.well_made c.requires in
    record {
      few = subst (λ (form : NormalForm). length form.principals ≤ most_principals) (sym read.same) read.well_made.limits.principals;
      over = subst (λ (form : NormalForm). All (IsLabelOver (length form.principals)) c.as_slice.result.now) (sym read.same)
          (subst (λ (labels : List Label). All (IsLabelOver (length c.args.program.now.principals)) labels) (sym c.as_slice.ensures) over);
    }

pub returns : goal.returns
returns c =
    let read = c.form-form.ensures in
    let all = all_answers c.args.program.now c.args.labels.now c.args.host read.well_made c.requires c.form-form.result.now c.as_slice.result.now c.in_ok-reader.reader c.in_ok-edges.edges (reach_of c.in_ok-reached.reached) (members c.hosts.result)
    read.same c.as_slice.ensures c.in_ok-reader.ensures.host c.in_ok-reader.ensures.slots c.in_ok-edges.ensures c.in_ok-reached.ensures c.hosts.ensures in
    record { reached = all.0; readable = all.1.0; enough = all.1.1 }
