use Rattle.vd_draw_layout.proofs.Escaped.{no_tags}
use Rattle.vd_draw_layout.proofs.draw_svg.laws.escaped_texts_have_no_tags.Goals as goal

pub returns : goal.returns
returns c = no_tags
