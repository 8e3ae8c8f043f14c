use Rattle.vd_split.proofs.EachStatement.{output_is}
use Rattle.vd_split.proofs.statements.tell.Goals as goal

pub returns-clause-exact : goal.returns-clause-exact
returns-clause-exact g c =
    output_is (g.P.Protocols.offer c.args.protocols.now).calls c.args.protos.now c.args.slot c.args.host c.args.held.now c.args.to.now c.in_ok-moved.moved c.move_slot.new.to c.output.new.to
    (c.in_ok-moved.ensures {u = tt}).exact (c.in_ok-output.ensures {u = tt})
