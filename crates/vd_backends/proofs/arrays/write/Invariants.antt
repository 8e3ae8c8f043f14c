use Rattle.std.proofs.Common.{◌≡◌, drop, map}
use Rattle.vd_execution.specs.Gadgets.{Alone}
use Rattle.vd_execution.specs.declared.instructions.Action.TheVariants as action
use Rattle.vd_duet.specs.Calls.{appended, register_of}
use Rattle.vd_backend_laws.specs.Parts.{index_of}
use Rattle.vd_backends.proofs.arrays.write.Given as goal

abbrev pub invariant-loop-host : goal.invariant-loop-host
invariant-loop-host l =
    appended (map (λ h. Alone h (action.Put (register_of l.kept.at h.0) l.kept.size (index_of l.index h.0) (register_of l.x.at h.0))) (drop l.host-index l.hosts)) l.to
    ≡ appended (map (λ h. Alone h (action.Put (register_of l.kept.at h.0) l.kept.size (index_of l.index h.0) (register_of l.x.at h.0))) l.hosts) l.initial.to
