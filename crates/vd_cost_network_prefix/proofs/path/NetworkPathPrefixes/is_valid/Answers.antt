use Rattle.std.proofs.Common.{take, ap, ◌∙◌}
use Rattle.vd_search_tree.specs.Trees.{Tree}
use Rattle.vd_space.specs.Validity.{is_valid}
use Rattle.vd_space.proofs.Front.{network_tree_bounded}
use Rattle.vd_cost_network_prefix.proofs.path.NetworkPathPrefixes.is_valid.Goals as goal

pub returns-clause-valid : goal.returns-clause-valid
returns-clause-valid c =
    let p = c.args.self.now in
    c.is_valid.ensures.valid ∙ ap (λ (tree : Tree). tree.valid (take p.path.depth p.path.room)) p.same_tree ∙ ap (is_valid p.problem.now) p.same_prefix

pub returns-clause-bounded : goal.returns-clause-bounded
returns-clause-bounded c = network_tree_bounded c.args.self.now.problem.now c.args.self.now.holds c.args.self.now.by_arcs.now.shifts
