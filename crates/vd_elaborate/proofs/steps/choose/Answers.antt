use Rattle.vd_elaborate.proofs.steps.choose.Goals as goal

pub returns : goal.returns
returns c = let h = c.operation.ensures in rw c.kind-kind.ensures at h
