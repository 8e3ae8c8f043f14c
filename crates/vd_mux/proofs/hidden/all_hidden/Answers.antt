use Rattle.std.proofs.Common.{length, refl}
use Rattle.vd_constraints.specs.Systems.{IsLabelOver}
use Rattle.vd_constraints.proofs.Front.{has_it}
use Rattle.vd_mux.proofs.hidden.all_hidden.Goals as goal

pub is_read-read-requires : goal.is_read-read-requires
is_read-read-requires c =
    record {
      few = c.requires.few;
      hosts = c.requires.hosts;
      over = has_it c.args.labels.now c.args.labels.now refl c.loop-label.label-index c.label-item.result c.loop-label-test.true c.label-item.is (IsLabelOver (length c.args.form.now.principals)) c.requires.over;
    }
