use Rattle.std.proofs.Common.{[]}
use Rattle.vd_split.specs.Emission.{all_moved}
use Rattle.vd_base.specs.Holders.{proto_in}
use Rattle.vd_split.specs.Places.{state}
use Rattle.vd_split.proofs.Onto.{called_on}
use Rattle.vd_split.proofs.rights.apply.Goals as goal

pub returns-clause-exact : goal.returns-clause-exact
returns-clause-exact g c =
    let s = (g.P.Protocols.offer c.args.protocols.now).calls in
    let pr = proto_in c.args.protos.now in
    called_on s pr (all_moved s pr c.args.at (state s c.args.protos.now c.args.to.now c.args.held.now []) c.args.slots.now c.args.to.now.next) (s.apply c.args.op c.args.at) c.args.to.now
    (c.in_ok-operands.operands, c.move_all.new.to) (c.in_ok-parts.parts, c.apply.new.to) (rw c.as_slice.ensures at (c.in_ok-operands.ensures {u = tt}).exact) (c.in_ok-parts.ensures {u = tt}).exact
