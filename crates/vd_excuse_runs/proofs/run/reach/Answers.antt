use Rattle.std.proofs.Common.{◌∷◌, [], ◌++◌, ap, ◌∙◌, arith}
use Rattle.vd_excuse_runs.specs.Sides.{empty_side}
use Rattle.vd_excuse_runs.proofs.Puts.{put_more, read_more}
use Rattle.vd_excuse_runs.proofs.run.reach.Goals as goal

pub loop-alloc-preserved : goal.loop-alloc-preserved
loop-alloc-preserved c =
    let grown = c.in_ok-push.ensures.items ∙ ap (λ z. c.loop-alloc.sides.items ++ z ∷ []) c.nothing.ensures in
    record {
      same = λ side. put_more empty_side c.loop-alloc.sides.items c.push.new.self.items c.args.at side _ (omega (arith, c.len.ensures)) grown (c.loop-alloc.invariant.same side);
      side = read_more empty_side c.loop-alloc.sides.items c.push.new.self.items c.args.at _ (omega (arith, c.len.ensures)) grown c.loop-alloc.invariant.side;
    }
