use Rattle.vd_cmd_draw.proofs.Heading.{heading_tells}
use Rattle.vd_cmd_draw.proofs.draw_laws.laws.heading_tells_the_cost.Goals as goal

pub returns : goal.returns
returns c = heading_tells
