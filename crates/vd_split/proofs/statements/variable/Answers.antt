use Rattle.vd_split.proofs.EachStatement.{variable_is}
use Rattle.vd_split.proofs.statements.variable.Goals as goal

pub returns-clause-exact : goal.returns-clause-exact
returns-clause-exact g c =
    variable_is (g.P.Protocols.offer c.args.protocols.now).calls c.args.protos.now c.args.variable c.args.slot c.args.held.now c.args.to.now c.in_ok-moved.moved c.move_slot.new.to c.in_ok-kept.kept c.keep.new.to c.push.new.self
    (rw c.proto_of-proto.ensures at (c.in_ok-moved.ensures {u = tt}).exact) (rw c.proto_of-proto.ensures at (c.in_ok-kept.ensures {u = tt}).exact) (c.in_ok-push.ensures {u = tt}).ok
