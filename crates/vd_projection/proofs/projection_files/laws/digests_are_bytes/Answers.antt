use Rattle.vd_projection.proofs.Digests.{is_digest}
use Rattle.vd_projection.proofs.projection_files.laws.digests_are_bytes.Goals as goal

pub returns : goal.returns
returns c = λ bytes. is_digest bytes
