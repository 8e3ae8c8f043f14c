use Rattle.vd_split.proofs.EachStatement.{let_is}
use Rattle.vd_split.proofs.statements.binding.Goals as goal

pub returns-clause-exact : goal.returns-clause-exact
returns-clause-exact g c =
    let_is (g.P.Protocols.offer c.args.protocols.now).calls c.args.protos.now c.args.slot c.args.right.now c.args.held.now c.args.turns.now c.args.to.now c.in_ok-made.made c.right_side.new.to c.push.new.self
    (rw c.proto_of.ensures at (c.in_ok-made.ensures {u = tt}).exact) (c.in_ok-push.ensures {u = tt}).ok
