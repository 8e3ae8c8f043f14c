use Rattle.vd_tape.proofs.MadeValid.{valid_if_keyed, consistent_if_keyed}
use Rattle.vd_tape.proofs.making.make_by_key.Goals as goal

pub returns-clause-valid : goal.returns-clause-valid
returns-clause-valid c = valid_if_keyed c.args.counts c.args.key.now c.make_all.result c.requires c.make_all.ensures

pub returns-clause-consistent : goal.returns-clause-consistent
returns-clause-consistent c = consistent_if_keyed c.args.counts c.args.key.now c.make_all.result c.make_all.ensures
