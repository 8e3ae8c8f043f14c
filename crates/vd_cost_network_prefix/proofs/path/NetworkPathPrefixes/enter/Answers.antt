use Rattle.std.proofs.Common.{◌≡◌, ◌+◌, ◌-◌, ◌<◌, ◌≤◌, [], ◌∷◌, ◌++◌, length, length-set, take, cond, sym, ap, ◌∙◌, subst, arith}
use Rattle.std.proofs.lemmas.List.{length-take-le}
use Rattle.vd_search_tree.specs.Trees.{Tree}
use Rattle.vd_space.specs.Validity.{is_valid}
use Rattle.vd_space_prefix.proofs.Front.{size_by_place}
use Rattle.vd_space.specs.Points.{decided}
use Rattle.vd_cost_network_prefix.specs.Reach.{AreDecidedBeside}
use Rattle.vd_cost_network_prefix.specs.States.{count_of_points, states_of}
use Rattle.vd_cost_network_prefix.proofs.Steps.{with_more, entered, entering}
use Rattle.vd_cost_network_prefix.proofs.path.NetworkPathPrefixes.enter.Goals as goal

pub decide_if-requires-clause-tables : goal.decide_if-requires-clause-tables
decide_if-requires-clause-tables c =
    let p = c.args.self.now in
    record { all = c.as_slice.ensures ∙ p.tabled.list; switches = p.joinable.switches; small = p.small; points = p.joinable.points.size; reached = p.reached }

pub decide_if-requires-clause-parts : goal.decide_if-requires-clause-parts
decide_if-requires-clause-parts c =
    let p = c.args.self.now in
    record {
      size = p.joinable.points.size ∙ sym (ap length p.kept.states ∙ size_by_place (count_of_points p.problem.now) (decided p.problem.now (take p.known.told p.room)));
      sum = p.summed;
    }

pub decide_if-requires-clause-beside : goal.decide_if-requires-clause-beside
decide_if-requires-clause-beside c =
    let p = c.args.self.now in
    let problem = p.problem.now in
    let size = p.kept.room in
    let deep = p.kept.depth in
    let within : p.depth ≤ length p.room = omega (arith, size, deep) in
    let taken = length-take-le p.depth p.room within in
    let low : p.depth < length problem.slots = omega (arith, taken, c.requires.room) in
    let low_room : p.depth < length p.room = omega (arith, size, low) in
    let same_tree = c.enter.ensures.tree ∙ p.same_tree in
    let same_prefix = c.enter.ensures.path ∙ ap (λ front. front ++ c.args.choice ∷ []) p.same_prefix ∙ sym (ap (take (p.depth + 1)) c.set.ensures ∙ with_more p.room p.depth c.args.choice low_room) in
    let valid = c.is_valid.ensures.valid ∙ ap (λ (tree : Tree). tree.valid (take c.enter.new.self.depth c.enter.new.self.room)) same_tree ∙ ap (is_valid problem) same_prefix in
    let back : p.depth ≡ p.depth + 1 - 1 = omega arith in
    λ wanted.
    subst (λ slot. AreDecidedBeside problem p.by_arcs.now.switches (take (p.depth + 1) c.as_slice-2.result.now) slot p.known.states) back
    (subst (λ room. AreDecidedBeside problem p.by_arcs.now.switches (take (p.depth + 1) room) p.depth p.known.states) (sym c.as_slice-2.ensures)
    (entering problem p.by_arcs.now.switches p.room c.set.new.self p.known.states p.depth p.known.told c.args.choice p.joinable.switches p.kept low c.set.ensures (sym valid ∙ wanted)))

pub invariant_of-self : goal.invariant_of-self
invariant_of-self c =
    let p = c.args.self.now in
    let problem = p.problem.now in
    let size = p.kept.room in
    let deep = p.kept.depth in
    let within : p.depth ≤ length p.room = omega (arith, size, deep) in
    let taken = length-take-le p.depth p.room within in
    let low : p.depth < length problem.slots = omega (arith, taken, c.requires.room) in
    let low_room : p.depth < length p.room = omega (arith, size, low) in
    let same_tree = c.enter.ensures.tree ∙ p.same_tree in
    let same_prefix = c.enter.ensures.path ∙ ap (λ front. front ++ c.args.choice ∷ []) p.same_prefix ∙ sym (ap (take (p.depth + 1)) c.set.ensures ∙ with_more p.room p.depth c.args.choice low_room) in
    let valid = c.is_valid.ensures.valid ∙ ap (λ (tree : Tree). tree.valid (take c.enter.new.self.depth c.enter.new.self.room)) same_tree ∙ ap (is_valid problem) same_prefix in
    let slice = c.as_slice-2.ensures in
    record {
      holds = p.holds;
      tabled = p.tabled;
      joinable = p.joinable;
      plain = p.plain;
      same_tree = same_tree;
      same_prefix = same_prefix;
      small = p.small;
      reached = p.reached;
      summed = c.decide_if.ensures.parts;
      kept = entered problem p.room c.set.new.self p.known.states c.decide_if.new.known.states p.depth p.known.told c.decide_if.new.known.told c.args.choice c.is_valid.result p.kept low c.requires.choice c.set.ensures valid
          (c.decide_if.ensures.states ∙ ap (λ room. cond c.is_valid.result (states_of problem (take (p.depth + 1) room)) p.known.states) slice)
          (c.decide_if.ensures.told ∙ ap (λ room. cond c.is_valid.result (length (take (p.depth + 1) room)) p.known.told) slice ∙ ap (λ n. cond c.is_valid.result n p.known.told) (length-take-le (p.depth + 1) c.set.new.self (omega (arith, ap length c.set.ensures, length-set p.room p.depth c.args.choice, low_room))));
    }
