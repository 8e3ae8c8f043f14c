-- Turns of a loop in two runs.
use Rattle.std.proofs.Common.{◌≡◌, ℕ, zero, suc, ◌+◌, ◌<◌, List, ap, subst, ◌∙◌, arith}
use mathlib.Core.Path.{fun_ext}
use Rattle.vd_semantics.specs.Turns.{turns}
use Rattle.vd_execution.specs.World.{Tape}
use Rattle.vd_execution.specs.Joint.{Hosts, Part, Apart, turn_begun, joint as run_code, turns as code_turns}
use Rattle.vd_execution.specs.Gadgets.{Gadget}
use Rattle.vd_execution.specs.Plans.{Plan, joint_of, PlanIsTidy}
use Rattle.vd_views.specs.Views.{BothTurns}
use Rattle.vd_views.specs.Plans.{run_turn}
use Rattle.vd_split.specs.Joint.{joint}
use Rattle.vd_backend_laws.specs.Machine.{machine}
use Rattle.vd_backend_laws.proofs.Front.{runs_alike, turns_alike, begun_is}

module _ (P : ℕ → Hosts → Hosts → Type 0) (f g : ℕ → Hosts → Hosts) where
  both_turns_from : (n k : ℕ) (w v : Hosts) → ((i : ℕ) → i < n → P (k + i) (code_turns f i k w) (code_turns g i k v)) → BothTurns P f g n k w v
  both_turns_from zero k w v each = tt
  both_turns_from (suc n) k w v each = (
    subst (λ z. P z w v) (omega arith) (each 0 (omega arith)),
    both_turns_from n (suc k) (f k w) (g k v) (λ i lt. subst (λ z. P z (code_turns f i (suc k) (f k w)) (code_turns g i (suc k) (g k v))) (omega arith) (each (suc i) (omega (arith, lt)))),
  )

  pub both_turns : (n : ℕ) (w v : Hosts) → ((i : ℕ) → i < n → P i (code_turns f i 0 w) (code_turns g i 0 v)) → BothTurns P f g n 0 w v
  both_turns n w v each = both_turns_from n 0 w v (λ i lt. subst (λ z. P z (code_turns f i 0 w) (code_turns g i 0 v)) (omega arith) (each i lt))

  each_turn_from : (n k : ℕ) (w v : Hosts) → BothTurns P f g n k w v → (i : ℕ) → i < n → P (k + i) (code_turns f i k w) (code_turns g i k v)
  each_turn_from zero k w v b i lt = absurd (omega (arith, lt))
  each_turn_from (suc n) k w v b zero lt = subst (λ z. P z w v) (omega arith) b.0
  each_turn_from (suc n) k w v b (suc i) lt =
      subst (λ z. P z (code_turns f i (suc k) (f k w)) (code_turns g i (suc k) (g k v))) (omega arith) (each_turn_from n (suc k) (f k w) (g k v) b.1 i (omega (arith, lt)))

  pub each_turn : (n : ℕ) (w v : Hosts) → BothTurns P f g n 0 w v → (i : ℕ) → i < n → P i (code_turns f i 0 w) (code_turns g i 0 v)
  each_turn n w v b i lt = subst (λ z. P z (code_turns f i 0 w) (code_turns g i 0 v)) (omega arith) (each_turn_from n 0 w v b i lt)

module _ (t : Tape) (inputs : ℕ → List ℕ) (ps : List Part) (apart : Apart ps) (body : Plan Gadget) (tidy : PlanIsTidy body) where
  one_turn : (i : ℕ) (v : Hosts) → joint (machine t inputs) body ((machine t inputs).begun ps i v) ≡ run_turn ps body t i v
  one_turn i v = runs_alike t inputs body ((machine t inputs).begun ps i v) tidy ∙ ap (run_code t (joint_of body)) (begun_is t inputs ps apart i v)

  -- where the loop stands before a turn
  at_turn : (n : ℕ) (w : Hosts) → turns n (λ i v. joint (machine t inputs) body ((machine t inputs).begun ps i v)) w ≡ code_turns (run_turn ps body t) n 0 w
  at_turn n w =
      turns_alike (λ i v. joint (machine t inputs) body ((machine t inputs).begun ps i v)) n w
      ∙ ap (λ (f : ℕ → Hosts → Hosts). code_turns f n 0 w) (fun_ext (λ i. fun_ext (λ v. one_turn i v)))

  -- and where its body begins
  pub begun_at : (n : ℕ) (w : Hosts) → (machine t inputs).begun ps n (turns n (λ i v. joint (machine t inputs) body ((machine t inputs).begun ps i v)) w) ≡ turn_begun ps n (code_turns (run_turn ps body t) n 0 w)
  begun_at n w = begun_is t inputs ps apart n (turns n (λ i v. joint (machine t inputs) body ((machine t inputs).begun ps i v)) w) ∙ ap (turn_begun ps n) (at_turn n w)
