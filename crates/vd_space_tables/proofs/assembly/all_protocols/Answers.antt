use Rattle.std.proofs.Common.{◌≡◌, ◌∙◌, length, ap}
use Rattle.std.proofs.lemmas.Result.{IfOk-weaker}
use Rattle.vd_base.specs.Protocols.{protocols_of}
use Rattle.vd_space.specs.WellFormed.{AreProtocols}
use Rattle.vd_space.proofs.Front.{are_protocols}
use Rattle.vd_space_tables.proofs.assembly.all_protocols.Goals as goal

pub returns : goal.returns
returns c =
    let problem = c.args.problem.now in
    let hosts = length c.as_slice.result.now in
    IfOk-weaker c.protocols.result (λ list. list ≡ protocols_of hosts) (AreProtocols problem) (λ list is. are_protocols problem c.requires list (is ∙ ap (λ hosts. protocols_of (length hosts)) c.as_slice.ensures)) c.protocols.ensures
