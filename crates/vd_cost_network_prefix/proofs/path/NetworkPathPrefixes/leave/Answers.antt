use Rattle.std.proofs.Common.{◌-◌, ◌<◌, ◌≤◌, length, take, cond, get_or, refl, sym, ap, ◌∙◌, subst, arith}
use Rattle.std.specs.Prelude.{nat_lt}
use Rattle.std.proofs.lemmas.Bool.{ltb-true}
use Rattle.std.proofs.lemmas.List.{length-take-le}
use Rattle.vd_space_prefix.proofs.Front.{front_of, size_by_place}
use Rattle.vd_space.specs.Points.{decided}
use Rattle.vd_cost_network_prefix.specs.Reach.{AreDecidedBeside}
use Rattle.vd_cost_network_prefix.specs.States.{count_of_points, states_of}
use Rattle.vd_cost_network_prefix.proofs.Steps.{last_of, left, leaving}
use Rattle.vd_cost_network_prefix.proofs.path.NetworkPathPrefixes.leave.Goals as goal

pub decide_if-requires-clause-tables : goal.decide_if-requires-clause-tables
decide_if-requires-clause-tables c =
    let p = c.args.self.now in
    record { all = c.as_slice.ensures ∙ p.tabled.list; switches = p.joinable.switches; small = p.small; points = p.joinable.points.size; reached = p.reached }

pub decide_if-requires-clause-parts : goal.decide_if-requires-clause-parts
decide_if-requires-clause-parts c =
    let p = c.args.self.now in
    record {
      size = p.joinable.points.size ∙ sym (ap length p.kept.states ∙ size_by_place (count_of_points p.problem.now) (decided p.problem.now (take p.known.told p.room)));
      sum = p.summed;
    }

pub decide_if-requires-clause-beside : goal.decide_if-requires-clause-beside
decide_if-requires-clause-beside c =
    let p = c.args.self.now in
    let problem = p.problem.now in
    let size = p.kept.room in
    let deep = p.kept.depth in
    let within : p.depth ≤ length p.room = omega (arith, size, deep) in
    let taken = length-take-le p.depth p.room within in
    let some : 0 < p.depth = omega (arith, taken, c.requires) in
    λ wanted.
    subst (λ room. AreDecidedBeside problem p.by_arcs.now.switches (take (p.depth - 1) room) (p.depth - 1) p.known.states) (sym c.as_slice-2.ensures)
    (leaving problem p.by_arcs.now.switches p.room p.known.states p.depth p.known.told p.joinable.switches p.kept some (ltb-true (p.depth - 1) p.known.told wanted))

pub invariant_of-self : goal.invariant_of-self
invariant_of-self c =
    let p = c.args.self.now in
    let problem = p.problem.now in
    let size = p.kept.room in
    let deep = p.kept.depth in
    let within : p.depth ≤ length p.room = omega (arith, size, deep) in
    let taken = length-take-le p.depth p.room within in
    let some : 0 < p.depth = omega (arith, taken, c.requires) in
    let slice = c.as_slice-2.ensures in
    record {
      holds = p.holds;
      tabled = p.tabled;
      joinable = p.joinable;
      plain = p.plain;
      same_tree = c.leave.ensures.tree ∙ p.same_tree;
      same_prefix = c.leave.ensures.path (take (p.depth - 1) p.room) (get_or p.room (p.depth - 1) 0) (p.same_prefix ∙ last_of p.room p.depth some within);
      small = p.small;
      reached = p.reached;
      summed = c.decide_if.ensures.parts;
      kept = left problem p.room p.known.states c.decide_if.new.known.states p.depth p.known.told c.decide_if.new.known.told (nat_lt (p.depth - 1) p.known.told) p.kept refl
          (c.decide_if.ensures.states ∙ ap (λ room. cond (nat_lt (p.depth - 1) p.known.told) (states_of problem (take (p.depth - 1) room)) p.known.states) slice)
          (c.decide_if.ensures.told ∙ ap (λ room. cond (nat_lt (p.depth - 1) p.known.told) (length (take (p.depth - 1) room)) p.known.told) slice ∙ ap (λ n. cond (nat_lt (p.depth - 1) p.known.told) n p.known.told) (length-take-le (p.depth - 1) p.room (omega (arith, within))));
    }

pub returns-clause-path : goal.returns-clause-path
returns-clause-path c = λ front last is.
    let p = c.args.self.now in
    let size = p.kept.room in
    let deep = p.kept.depth in
    let within : p.depth ≤ length p.room = omega (arith, size, deep) in
    let taken = length-take-le p.depth p.room within in
    let some : 0 < p.depth = omega (arith, taken, c.requires) in
    front_of p.room front last p.depth some within is
