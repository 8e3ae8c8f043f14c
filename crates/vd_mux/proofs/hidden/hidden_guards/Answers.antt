use Rattle.std.proofs.Common.{◌≤◌, length, List, sym, ap, ◌∙◌, subst, arith}
use Rattle.std.specs.Prelude.{All}
use Rattle.vd_base.specs.Limits.{most_hosts, most_principals}
use Rattle.vd_base.specs.declared.ids.HostId.{HostId}
use Rattle.vd_core.specs.declared.normal.NormalForm.{NormalForm}
use Rattle.vd_formula.specs.declared.label.Label.{Label}
use Rattle.vd_constraints.specs.Systems.{IsLabelOver}
use Rattle.vd_noninter.proofs.Front.{labels_over}
use Rattle.vd_mux.specs.Hidden.{host, hidden_from}
use Rattle.vd_mux.proofs.hidden.hidden_guards.Goals as goal

pub all_hidden-requires : goal.all_hidden-requires
all_hidden-requires c =
    let read = c.form.ensures in
    let over = labels_over c.args.program.now c.args.labels.now (host 0) read.well_made c.requires in
    record {
      few = subst (λ (form : NormalForm). length form.principals ≤ most_principals) (sym read.same) read.well_made.limits.principals;
      hosts = subst (λ (form : NormalForm). length form.hosts ≤ most_hosts) (sym read.same) read.well_made.limits.hosts;
      over = subst (λ (form : NormalForm). All (IsLabelOver (length form.principals)) c.as_slice.result.now) (sym read.same)
          (subst (λ (labels : List Label). All (IsLabelOver (length c.args.program.now.principals)) labels) (sym c.as_slice.ensures) over);
    }
