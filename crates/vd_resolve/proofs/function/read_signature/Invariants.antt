use Rattle.std.proofs.Common.{◌≡◌, take, map}
use Rattle.vd_base.specs.declared.operations.Kind.{Kind}
use Rattle.vd_core.specs.declared.source.Parameter.{Parameter}
use Rattle.vd_resolve.proofs.function.read_signature.Given as goal

abbrev pub invariant-loop-parameter : goal.invariant-loop-parameter
invariant-loop-parameter l = l.parameters ≡ map {B = Kind} (λ (p : Parameter). p.kind) (take l.parameter-index l.parameter-items)
