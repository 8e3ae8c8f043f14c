use Rattle.vd_projection.proofs.Early.{careful_texts}
use Rattle.vd_projection.proofs.projection_reordered.laws.early_texts_are_careful.Goals as goal

pub returns : goal.returns
returns c = careful_texts
