use Rattle.std.proofs.Common.{◌≡◌, suc, pos, ◌∷◌, [], ◌++◌, length, set, sym, ap, ◌∙◌, subst, arith, length-set}
use Rattle.std.specs.List.{All}
use Rattle.vd_search_tree.specs.Trees.{Tree, AtLeast}
use Rattle.vd_search.specs.Untied.{untied}
use Rattle.vd_search.proofs.Copies.{Copies, copies_more}
use Rattle.vd_search.proofs.search_nogoods.untied.UntiedPrefixes.enter.Goals as goal

pub set-requires : goal.set-requires
set-requires g c =
    let depth = c.depth.ensures in
    let size = c.args.self.now.sized in
    let low = c.requires.room in
    omega (arith, depth, size, low)

pub invariant_of-self : goal.invariant_of-self
invariant_of-self g c =
    let p = c.args.self.now in
    let path = g.P.Prefixes.path p.inner in
    let size = p.sized in
    let low = c.requires.room in
    let room : c.set.new.self ≡ set p.room (length path) c.args.choice = c.set.ensures ∙ ap (λ n. set p.room n c.args.choice) c.depth.ensures in
    record {
      sized = ap length room ∙ length-set p.room (length path) c.args.choice ∙ size ∙ sym (ap (λ (tree : Tree). tree.slots) c.enter.ensures.tree);
      copied = subst (λ prefix. Copies c.set.new.self prefix) (sym c.enter.ensures.path) (subst (λ room. Copies room (path ++ c.args.choice ∷ [])) (sym room) (copies_more p.room path c.args.choice (omega (arith, size, low)) p.copied));
      costly = subst (λ tree. All (AtLeast tree (pos (suc p.most))) p.passed) (sym c.enter.ensures.tree) p.costly;
    }

pub returns-clause-tree : goal.returns-clause-tree
returns-clause-tree g c = let p = c.args.self.now in ap (λ tree. untied tree p.most p.passed) c.enter.ensures.tree
