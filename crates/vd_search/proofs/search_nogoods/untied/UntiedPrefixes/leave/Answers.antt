use Rattle.std.proofs.Common.{suc, pos, sym, ap, ◌∙◌, subst}
use Rattle.std.specs.List.{All}
use Rattle.vd_search_tree.specs.Trees.{Tree, AtLeast}
use Rattle.vd_search.proofs.Thresholds.{list_ends}
use Rattle.vd_search.specs.Untied.{untied}
use Rattle.vd_search.proofs.Copies.{Copies, copies_front}
use Rattle.vd_search.proofs.search_nogoods.untied.UntiedPrefixes.leave.Goals as goal

pub invariant_of-self : goal.invariant_of-self
invariant_of-self g c =
    let p = c.args.self.now in
    let ends = list_ends (g.P.Prefixes.path p.inner) c.requires in
    let front = c.leave.ensures.path ends.0 ends.1 ends.2 in
    record {
      sized = p.sized ∙ sym (ap (λ (tree : Tree). tree.slots) c.leave.ensures.tree);
      copied = subst (Copies p.room) (sym front) (copies_front p.room ends.0 ends.1 (subst (Copies p.room) ends.2 p.copied));
      costly = subst (λ tree. All (AtLeast tree (pos (suc p.most))) p.passed) (sym c.leave.ensures.tree) p.costly;
    }

pub returns-clause-tree : goal.returns-clause-tree
returns-clause-tree g c = let p = c.args.self.now in ap (λ tree. untied tree p.most p.passed) c.leave.ensures.tree
