use Rattle.vd_edge_marks.proofs.Copies.{no_copy_twice}
use Rattle.vd_edge_marks.proofs.laws.no_copy_serves_twice.Goals as goal

pub returns : goal.returns
returns c = no_copy_twice
