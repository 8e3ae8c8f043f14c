use Rattle.std.proofs.Common.{not, ◌&&◌, sym, ap, ◌∙◌}
use Rattle.std.proofs.lemmas.Bool.{and_from, and_left, and_right, eq-eqb, ne_eqb}
use Rattle.vd_formula.specs.TruthTable.{at, is_subset}
use Rattle.vd_formula.proofs.Antichains.{all_one_more, not_all}
use Rattle.vd_formula.proofs.formula.Formula.is_minimal.Goals as goal
use Rattle.vd_formula.proofs.formula.Formula.is_minimal.Goals.{else-smaller-set-via-then-smaller-set+else-at, else-smaller-set-via-else-smaller-set}

pub returns-then-at : goal.returns-then-at
returns-then-at c =
    sym (and_right (at c.args.self.now c.args.set) _
    (not_all (λ smaller. not (is_subset smaller c.args.set && at c.args.self.now smaller)) c.args.set c.loop-smaller.smaller c.loop-smaller-test.true
    (ap not (and_from _ _ (eq-eqb _ _ c.if-smaller-set.true) (sym c.at-then-smaller-set.ensures ∙ c.if-at.true)))))

pub loop-smaller-preserved : goal.loop-smaller-preserved
loop-smaller-preserved c =
    all_one_more (λ smaller. not (is_subset smaller c.args.set && at c.args.self.now smaller)) c.loop-smaller.smaller c.loop-smaller.invariant
    (elim c.else-smaller-set.branch [
      | else-smaller-set-via-then-smaller-set+else-at w ↦ ap not (and_right (is_subset c.loop-smaller.smaller c.args.set) _ (sym w.at-then-smaller-set.ensures ∙ w.if-at.false))
      | else-smaller-set-via-else-smaller-set w ↦ ap not (and_left _ (at c.args.self.now c.loop-smaller.smaller) (ne_eqb _ _ w.if-smaller-set.false))
    ])
