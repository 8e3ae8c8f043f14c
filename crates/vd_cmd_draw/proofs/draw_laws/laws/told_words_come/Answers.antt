use Rattle.vd_cmd_draw.proofs.Coming.{words_come}
use Rattle.vd_cmd_draw.proofs.draw_laws.laws.told_words_come.Goals as goal

pub returns : goal.returns
returns c = words_come
