use Rattle.vd_excuse_walk.proofs.Words.{triple_made}
use Rattle.vd_excuse_walk.proofs.items.sum_item.Goals as goal

pub returns : goal.returns
returns c = triple_made c.raised-a.result _ c.raised-b.result _ c.args.theirs.a c.args.theirs.b c.args.theirs.c c.raised-a.ensures c.raised-b.ensures
