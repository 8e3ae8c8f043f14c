use Rattle.std.proofs.Common.{refl}
use Rattle.vd_search_tree.proofs.search_certificate.files.texts_are_read_back.Goals as goal

pub returns : goal.returns
returns c = λ certificate is. record { is = is; text = refl }
