use Rattle.vd_choreography_reorder.proofs.Worked.{ahead, drawn, stays}
use Rattle.vd_choreography_reorder.proofs.laws.worked_lines.Goals as goal

pub returns-clause-stays : goal.returns-clause-stays
returns-clause-stays c = stays

pub returns-clause-ahead : goal.returns-clause-ahead
returns-clause-ahead c = ahead

pub returns-clause-drawn : goal.returns-clause-drawn
returns-clause-drawn c = drawn
