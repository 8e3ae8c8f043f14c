use Rattle.std.proofs.Common.{ap, sym, subst, ◌∙◌, arith, length, length-append, List, [], ◌∷◌}
use Rattle.vd_noninter.specs.declared.edge.Edge.{Edge}
use Rattle.vd_noninter.specs.Reached.{reach_of}
use Rattle.vd_noninter.proofs.Following.{SoFar, starts, one_followed, ends_so}
use Rattle.vd_noninter.proofs.reached.Reached.follow.Goals as goal

pub edges-init : goal.edges-init
edges-init c = subst (SoFar (reach_of c.args.self.now) (reach_of c.args.self.now) c.args.edges c.args.edges) (sym c.new-left.ensures) (starts (reach_of c.args.self.now) c.args.edges)

pub edges-preserved : goal.edges-preserved
edges-preserved c =
    one_followed (reach_of c.args.self.now) (reach_of c.edges.self) (reach_of c.follow_one.new.self) c.args.edges c.edges.waiting c.pop.new.self c.edges.left c.follow_one.new.left c.in-Some.edge
    c.in-Some.ensures c.edges.invariant c.in_ok-follow_one.ensures

pub edges-smaller : goal.edges-smaller
edges-smaller c =
    let longer = ap length c.in-Some.ensures ∙ length-append c.pop.new.self (c.in-Some.edge ∷ []) in
    omega (arith, longer)

pub returns : goal.returns
returns c =
    let none : SoFar (reach_of c.args.self.now) (reach_of c.edges.self) c.args.edges [] c.edges.left =
    subst (λ (w : List Edge). SoFar (reach_of c.args.self.now) (reach_of c.edges.self) c.args.edges w c.edges.left) c.in_default.ensures.0 c.edges.invariant in
    let all = ends_so (reach_of c.args.self.now) (reach_of c.edges.self) c.args.edges c.edges.left none in
    record { follows = all; fewer = all.fewer }
