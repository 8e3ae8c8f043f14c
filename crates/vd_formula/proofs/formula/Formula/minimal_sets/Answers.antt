use Rattle.std.proofs.Common.{◌≡◌, ◌^◌, arith, cond, [], ◌∷◌, ◌++◌, sym, ap, ◌∙◌, subst}
use Rattle.std.specs.Prelude.{filter}
use Rattle.std.specs.List.{range_with_len}
use Rattle.vd_formula.specs.MinimalSets.{is_minimal, AreMinimalSets}
use Rattle.vd_formula.proofs.Antichains.{filter_one_more, are_minimal_sets}
use Rattle.std.proofs.lemmas.Nat.{one_shl}
use Rattle.std.proofs.Common.{append-nil}
use Rattle.vd_formula.proofs.formula.Formula.minimal_sets.Goals as goal
use Rattle.vd_formula.proofs.formula.Formula.minimal_sets.Goals.{then-is_minimal+in_ok-push, else-is_minimal}

pub loop-set-preserved : goal.loop-set-preserved
loop-set-preserved c =
    let more = filter_one_more (is_minimal c.args.self.now) c.loop-set.set in
    elim c.if-is_minimal.branch [
      | then-is_minimal+in_ok-push w ↦
          let is = sym c.is_minimal.ensures ∙ w.if-is_minimal.true in
          let chosen = ap (λ b. filter (is_minimal c.args.self.now) (range_with_len 0 c.loop-set.set) ++ cond b (c.loop-set.set ∷ []) []) is in
          cc (w.in_ok-push.ensures.ok, more, chosen, c.loop-set.invariant, w.list-is)
      | else-is_minimal w ↦
          let is = sym c.is_minimal.ensures ∙ w.if-is_minimal.false in
          let chosen = ap (λ b. filter (is_minimal c.args.self.now) (range_with_len 0 c.loop-set.set) ++ cond b (c.loop-set.set ∷ []) []) is in
          cc (more, chosen, append-nil (filter (is_minimal c.args.self.now) (range_with_len 0 c.loop-set.set)), c.loop-set.invariant, w.list-is)
    ]

pub returns-clause-minimal : goal.returns-clause-minimal
returns-clause-minimal c =
    let names = c.names-set-end.ensures.names in
    let few = c.names-set-end.ensures.valid.few_names in
    let power : 2 ^ c.names-set-end.result ≡ 2 ^ c.args.self.now.names = ap (λ n. 2 ^ n) names in
    let end = c.loop-set-test.false in
    let high = c.loop-set.auto.set-end in
    let last : c.loop-set.set ≡ 2 ^ c.args.self.now.names = omega (arith, one_shl c.names-set-end.result 8 (omega arith)) in
    subst (AreMinimalSets c.args.self.now) (sym (c.loop-set.invariant ∙ ap (λ n. filter (is_minimal c.args.self.now) (range_with_len 0 n)) last)) (are_minimal_sets c.args.self.now)
