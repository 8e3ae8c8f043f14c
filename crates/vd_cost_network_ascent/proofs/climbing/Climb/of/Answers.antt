use Rattle.std.proofs.Common.{◌∙◌, length, ap}
use Rattle.vd_base.specs.Protocols.{protocols_of}
use Rattle.vd_space.proofs.Front.{are_protocols}
use Rattle.vd_cost_network_ascent.proofs.climbing.Climb.of.Goals as goal

pub candidates-requires : goal.candidates-requires
candidates-requires c = are_protocols c.args.problem.now c.requires c.as_slice-2.result.now (c.as_slice-2.ensures ∙ c.in_ok-list.ensures ∙ ap (λ hosts. protocols_of (length hosts)) c.as_slice.ensures)
