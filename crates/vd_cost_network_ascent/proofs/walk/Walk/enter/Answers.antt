use Rattle.std.proofs.Common.{◌≡◌, true, false, [], ◌∷◌, ◌++◌, sym, ◌∙◌, arith}
use Rattle.std.proofs.lemmas.Int.{ints}
use Rattle.vd_cost_network_ascent.specs.Walking.{made, tree}
use Rattle.vd_cost_network_ascent.proofs.Entering.{beyond, can, not_valid}
use Rattle.vd_cost_network_ascent.proofs.walk.Walk.enter.Goals as goal
use Rattle.vd_cost_network_ascent.proofs.walk.Walk.enter.Goals.{else-is_valid-via-then-is_valid+else-bound-self, else-is_valid-via-else-is_valid}

pub returns-then-bound-self-clause-can : goal.returns-then-bound-self-clause-can
returns-then-bound-self-clause-can c =
    let w = c.args.self.now in
    let t = tree w.path in
    let longer = made w.path ++ c.args.choice ∷ [] in
    let slot = c.if-depth-slots.false in
    let size = c.depth.ensures in
    let slots = c.slots.ensures.slots in
    let listed = c.if-choice-choices.false in
    let choices = c.choices.ensures in
    let valid : t.valid longer ≡ true = sym (λ i. (c.enter.ensures.tree i).valid (c.enter.ensures.path i)) ∙ sym c.is_valid.ensures.valid ∙ c.if-is_valid.true in
    let same = c.bound.ensures ∙ (λ i. (c.enter.ensures.tree i).bound (c.enter.ensures.path i)) in
    let low = c.if-bound-self.true in
    can t w.most (made w.path) c.args.choice (omega (arith, slot, size, slots)) (omega (arith, listed, choices)) valid (omega (arith, ints, same, low))

pub returns-clause-can : goal.returns-clause-can
returns-clause-can c =
    let w = c.args.self.now in
    let t = tree w.path in
    let longer = made w.path ++ c.args.choice ∷ [] in
    elim c.else-is_valid.branch [
      | else-is_valid-via-then-is_valid+else-bound-self d ↦
          let same = d.bound.ensures ∙ (λ i. (c.enter.ensures.tree i).bound (c.enter.ensures.path i)) in
          let above = d.if-bound-self.false in
          beyond t w.most (made w.path) c.args.choice (omega (arith, ints, same, above))
      | else-is_valid-via-else-is_valid d ↦
          let refused : t.valid longer ≡ false = sym (λ i. (c.enter.ensures.tree i).valid (c.enter.ensures.path i)) ∙ sym c.is_valid.ensures.valid ∙ d.if-is_valid.false in
          not_valid t w.most (made w.path) c.args.choice refused
    ]

pub returns-clause-path : goal.returns-clause-path
returns-clause-path c = c.leave.ensures.path (made c.args.self.now.path) c.args.choice c.enter.ensures.path
