use Rattle.vd_views.proofs.Blocks.{told_the_same, tells_first, acts_alike}
use Rattle.vd_views.proofs.what_a_host_sees.Goals as goal

pub returns-clause-blocks : goal.returns-clause-blocks
returns-clause-blocks c = λ h t u j tidy w v start a b tells. told_the_same h t u start.part j tidy w v a b start.looks tells

pub returns-clause-acts : goal.returns-clause-acts
returns-clause-acts c = λ h t u acts tidy w v start tells. acts_alike h t u start.part acts tidy w v start.looks tells

pub returns-clause-acts_first : goal.returns-clause-acts_first
returns-clause-acts_first c = λ h t u acts j w v a b. tells_first h t u acts j w v a b
