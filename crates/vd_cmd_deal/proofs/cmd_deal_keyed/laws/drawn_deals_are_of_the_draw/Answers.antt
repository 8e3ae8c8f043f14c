use Rattle.vd_cmd_deal.proofs.OfTheDraw.{of_the_draw}
use Rattle.vd_cmd_deal.proofs.cmd_deal_keyed.laws.drawn_deals_are_of_the_draw.Goals as goal

pub returns : goal.returns
returns c = of_the_draw
