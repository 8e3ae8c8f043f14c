use Rattle.vd_integrity_runs.proofs.Digests.{digests_tell}
use Rattle.vd_integrity_runs.proofs.integrity_backends.laws.digests_tell_their_words.Goals as goal

pub returns : goal.returns
returns c = digests_tell
