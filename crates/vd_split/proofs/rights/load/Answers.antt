use Rattle.std.proofs.Common.{slice_index_or}
use Rattle.vd_base.specs.Holders.{proto_in}
use Rattle.vd_split.proofs.Onto.{called_on}
use Rattle.vd_split.proofs.rights.load.Goals as goal

pub returns-clause-exact : goal.returns-clause-exact
returns-clause-exact g c =
    let s = (g.P.Protocols.offer c.args.protocols.now).calls in
    let pr = proto_in c.args.protos.now in
    called_on s pr (s.keep (pr c.args.variable.0) (slice_index_or c.args.held.now c.args.variable.0 s.nowhere) c.args.to.now.next) (s.move (pr c.args.variable.0) c.args.at) c.args.to.now
    (c.in_ok-kept.kept, c.keep.new.to) (c.in_ok-parts.parts, c.bring.new.to) (rw (c.proto_of-proto.ensures, c.parts_of.ensures) at (c.in_ok-kept.ensures {u = tt}).exact) (rw c.proto_of-proto.ensures at (c.in_ok-parts.ensures {u = tt}).exact)
