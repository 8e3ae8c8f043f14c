use Rattle.vd_split.proofs.EachStatement.{store_is}
use Rattle.vd_split.proofs.statements.store.Goals as goal

pub returns-clause-exact : goal.returns-clause-exact
returns-clause-exact g c =
    store_is (g.P.Protocols.offer c.args.protocols.now).calls c.args.protos.now c.args.variable c.args.slot c.args.held.now c.args.to.now c.in_ok-moved.moved c.move_slot.new.to c.renew.new.to
    (rw c.proto_of-proto.ensures at (c.in_ok-moved.ensures {u = tt}).exact) (rw (c.proto_of-proto.ensures, c.parts_of.ensures) at (c.in_ok-renew.ensures {u = tt}))
