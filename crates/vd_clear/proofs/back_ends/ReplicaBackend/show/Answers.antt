use Rattle.vd_clear.proofs.Members.{few_parts}
use Rattle.vd_clear.proofs.back_ends.ReplicaBackend.show.Goals as goal

pub show-requires-clause-few : goal.show-requires-clause-few
show-requires-clause-few c = few_parts c.args.x.now c.args.self.now.0 c.requires.placed
