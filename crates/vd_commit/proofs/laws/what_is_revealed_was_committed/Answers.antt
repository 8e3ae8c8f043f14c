use Rattle.vd_commit.proofs.Binds.{binds}
use Rattle.vd_commit.proofs.Reveals.{reveals}
use Rattle.vd_commit.proofs.CommitActs.{commitments_act}
use Rattle.vd_commit.proofs.laws.what_is_revealed_was_committed.Goals as goal

pub returns-clause-commit : goal.returns-clause-commit
returns-clause-commit c = λ p v t next w ready x low. binds p v t next w ready x low

pub returns-clause-reveal : goal.returns-clause-reveal
returns-clause-reveal c = λ p v t next w ready held seen x is. reveals p v t next w ready held seen x is

pub returns-clause-acts : goal.returns-clause-acts
returns-clause-acts c = commitments_act
