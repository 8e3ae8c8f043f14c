use Rattle.vd_reorder.proofs.Masked.{blind_hides}
use Rattle.vd_reorder.proofs.reorder_secrecy.blind_words_hide.Goals as goal

pub returns : goal.returns
returns c = blind_hides
