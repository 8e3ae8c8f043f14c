-- Each step makes what is pending less.
use Rattle.std.proofs.Common.{◌≡◌, ℕ, zero, suc, ◌+◌, ◌-◌, ◌<◌, ◌≤◌, List, [], sym, ap, ◌∙◌, arith}
use Rattle.vd_execution.specs.Code.{weight}
use Rattle.vd_execution.specs.Step.{State, Ended, need, next}
use Rattle.vd_machine.specs.declared.lists.Lists.{Lists}
use Rattle.vd_machine.specs.declared.want.Want.TheVariants as want
use Rattle.vd_machine.specs.Machines.{words_for}
use Rattle.vd_machine.specs.Wants.{want_of}
use Rattle.vd_machine.specs.Quietly.{IsQuiet, QuietSteps}
use Rattle.vd_execution.proofs.Front.{weight_falls}

-- what is quiet has not ended
pub not_ended : (l : Lists) (s : State) → IsQuiet l s → need s ≡ Ended → ⊥
not_ended l s q e = absurd (let z : want.Ended ≡ want.Nothing = sym (ap (want_of l s.cursors) e) ∙ q.wants in cc)

pub step_falls : (l : Lists) (s : State) (xs : List ℕ) → IsQuiet l s → weight (next s xs).pending < weight s.pending
step_falls l s xs q = weight_falls s.registers s.pending (not_ended l s q)

pub steps_fall : (n : ℕ) (l : Lists) (s t : State) → QuietSteps l n s t → weight t.pending + n ≤ weight s.pending
steps_fall zero l s t e = let w = ap (λ x. weight x.pending) e in omega (arith, w)
steps_fall (suc n) l s t p =
    let u = next s (words_for l s.cursors [] (need s)) in
    let one : weight u.pending < weight s.pending = step_falls l s (words_for l s.cursors [] (need s)) p.0 in
    let more = steps_fall n l u t p.1 in
    omega (arith, one, more)

-- where at least one step was quiet, what is pending is less
pub some_fall : (n : ℕ) (l : Lists) (s t : State) → QuietSteps l (suc n) s t → weight t.pending < weight s.pending
some_fall n l s t p = let h = steps_fall (suc n) l s t p in omega (arith, h)
