use Rattle.vd_split.proofs.EachStatement.{array_is}
use Rattle.vd_split.proofs.statements.array.Goals as goal

pub returns-clause-exact : goal.returns-clause-exact
returns-clause-exact g c =
    array_is (g.P.Protocols.offer c.args.protocols.now).calls c.args.protos.now c.args.array c.args.size c.args.held.now c.args.to.now c.in_ok-made.made c.cells.new.to c.push.new.self
    (rw c.proto_of.ensures at (c.in_ok-made.ensures {u = tt}).exact) (c.in_ok-push.ensures {u = tt}).ok
