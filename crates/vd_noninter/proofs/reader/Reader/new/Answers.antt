use Rattle.std.proofs.Common.{refl, sym, ◌∙◌, length}
use Rattle.vd_constraints.specs.Systems.{IsLabelOver}
use Rattle.vd_constraints.proofs.Front.{has_it}
use Rattle.vd_noninter.proofs.reader.Reader.new.Goals as goal

pub acts_for-requires : goal.acts_for-requires
acts_for-requires c =
    let over = has_it c.args.labels.now c.args.labels.now refl c.loop-label.label-index c.label-item.result c.loop-label-test.true c.label-item.is (IsLabelOver (length c.args.form.now.principals)) c.requires.over in
    c.conf_of-conf.ensures.over ∙ sym over.conf.over
