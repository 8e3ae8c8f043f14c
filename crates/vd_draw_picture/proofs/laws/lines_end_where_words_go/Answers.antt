use Rattle.vd_draw_picture.proofs.Drawn.{lines_end}
use Rattle.vd_draw_picture.proofs.laws.lines_end_where_words_go.Goals as goal

pub returns : goal.returns
returns c = lines_end
