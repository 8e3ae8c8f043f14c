use Rattle.std.proofs.Common.{◌≡◌, ◌<◌, true, false, length, sym, ap, ◌∙◌, arith}
use Rattle.vd_core.specs.declared.normal.NormalForm.{NormalForm}
use Rattle.vd_formula.specs.TruthTable.{TruthTable, acts}
use Rattle.vd_mux.proofs.Reading.{one_more, found}
use Rattle.vd_mux.proofs.hidden.is_read.Goals as goal

pub returns-then-acts_for : goal.returns-then-acts_for
returns-then-acts_for c =
    let p = c.args.form.now in
    let label = c.args.label.now in
    let lt : c.loop-number.number < length p.hosts = rw (← c.as_slice-number-end.ensures) c.loop-number-test.true in
    sym (found p label (length p.hosts) c.loop-number.number lt (ap (λ (f : TruthTable). acts f label.conf) (sym c.conf_of-conf.ensures.same) ∙ sym c.acts_for.ensures ∙ c.if-acts_for.true))

pub loop-number-preserved : goal.loop-number-preserved
loop-number-preserved c =
    let p = c.args.form.now in
    let label = c.args.label.now in
    one_more p label c.loop-number.number c.loop-number.invariant (ap (λ (f : TruthTable). acts f label.conf) (sym c.conf_of-conf.ensures.same) ∙ sym c.acts_for.ensures ∙ c.if-acts_for.false)
