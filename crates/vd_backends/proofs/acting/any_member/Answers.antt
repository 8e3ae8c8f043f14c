use Rattle.std.proofs.Common.{◌≡◌, ℕ, false, sym, subst, ◌∙◌, arith}
use Rattle.std.specs.Prelude.{filter}
use Rattle.std.specs.List.{list_any}
use Rattle.vd_base.specs.HostSets.{has_host, hosts}
use Rattle.vd_backends.proofs.Anys.{found, failed, passed_over}
use Rattle.vd_backends.proofs.acting.any_member.Goals as goal
use Rattle.vd_backends.proofs.acting.any_member.Goals.{else-has-via-then-has+else-of, else-has-via-else-has}

pub returns-then-of : goal.returns-then-of
returns-then-of g c =
    sym
    (found (has_host c.args.set) (g.T.Test.passes c.args.test.now) c.loop-number.number c.loop-number-test.true (sym c.has.ensures ∙ c.if-has.true) (sym c.of.ensures ∙ c.if-of.true))

pub loop-number-preserved : goal.loop-number-preserved
loop-number-preserved g c =
    elim c.else-has.branch [
      | else-has-via-then-has+else-of w ↦
          failed (has_host c.args.set) (g.T.Test.passes c.args.test.now) c.loop-number.number c.loop-number.invariant (sym w.of.ensures ∙ w.if-of.false)
      | else-has-via-else-has w ↦
          passed_over (has_host c.args.set) (g.T.Test.passes c.args.test.now) c.loop-number.number c.loop-number.invariant (sym c.has.ensures ∙ w.if-has.false)
    ]

pub returns : goal.returns
returns g c =
    let low = c.loop-number.auto.number-end in
    let high = c.loop-number-test.false in
    let end : c.loop-number.number ≡ 8 = omega (arith, low, high) in
    sym (subst (λ (n : ℕ). list_any (g.T.Test.passes c.args.test.now) (filter (has_host c.args.set) (hosts n)) ≡ false) end c.loop-number.invariant)
