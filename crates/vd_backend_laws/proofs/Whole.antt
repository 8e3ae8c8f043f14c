-- The joint code of a program prints at each host what the program tells it.
use Rattle.std.proofs.Common.{◌≡◌, ◌≢◌, ℕ, zero, suc, ◌+◌, ◌<◌, ◌≤◌, nat_eq, true, ◌||◌, List, [], ◌∷◌, inl, inr, length, map, drop, refl, sym, ap, ◌∙◌, arith}
use Rattle.std.specs.List.{range_with_len}
use Rattle.std.proofs.lemmas.Bool.{eq-eqb}
use native.Mathlib.Decide.{ℕ_discrete}
use Rattle.vd_base.specs.declared.protocols.Proto.{Proto}
use Rattle.vd_core.specs.declared.normal.NormalForm.{NormalForm}
use Rattle.vd_execution.specs.World.{Tape, followed_by_zeros}
use Rattle.vd_execution.specs.Joint.{Part, Hosts, TakesPart, Within, fresh, joint}
use Rattle.vd_execution.specs.Gadgets.{Gadget, acts_of_gadget}
use Rattle.vd_execution.specs.Plans.{Plan, Ends, Then, Branch, Loop, joint_of, PlanIsWithin, PlanIsTidy}
use Rattle.vd_execution.proofs.Front.{within_first, plan_sound, plan_tidy}
use Rattle.vd_execution.proofs.Front.{absent}
use Rattle.vd_split.specs.Joint.{Hosts as AnyHosts, joint as run_plan}
use Rattle.vd_split.specs.Suite.{Suite, Laws}
use Rattle.vd_split.specs.Outcome.{Starts, TellsTheSame}
use Rattle.vd_split.specs.ChoreographyPlaces.{is_part, NeedsItsLoops}
use Rattle.vd_split.proofs.Front.{or_left, or_right, tells_the_same, program_tidy, program_needs_its_loops, program_within}
use Rattle.vd_backend_laws.specs.Machine.{machine}
use Rattle.vd_backend_laws.specs.Suite.{suite}
use Rattle.vd_backend_laws.specs.Whole.{plan_at, code_at, inputs_of, CanRun, RunsAsToldBy, CodeTellsTheSame, CodeRunsWell, LoopsAreNeeded}
use Rattle.vd_backend_laws.proofs.SuiteLaws.{suite_laws}
use Rattle.vd_backend_laws.proofs.SuitePlaces.{suite_places}
use Rattle.vd_backend_laws.proofs.PlanRuns.{runs_alike, goes_smoothly}
use Rattle.vd_backend_laws.proofs.PlanTidy.{within, tidy_alike}

-- the first hosts, each with a register
abbrev first_ones : ℕ → ℕ → List Part
first_ones k zero = []
first_ones k (suc n) = (k, 0) ∷ first_ones (k + 1) n

is_first : (k n h : ℕ) → k ≤ h → h < k + n → is_part (first_ones k n) h ≡ true
is_first k zero h le lt = absurd (omega (arith, le, lt))
is_first k (suc n) h le lt = at (is_first (k + 1) n h) (ℕ_discrete h k)
  where
    higher : h ≢ k → k + 1 ≤ h
    higher d = grind (arith)

    at : (k + 1 ≤ h → h < k + 1 + n → is_part (first_ones (k + 1) n) h ≡ true) → Dec (h ≡ k) → (nat_eq h k || is_part (first_ones (k + 1) n) h) ≡ true
    at ih (yes e) = or_left (nat_eq h k) (is_part (first_ones (k + 1) n) h) (eq-eqb h k e)
    at ih (no d) = or_right (nat_eq h k) (is_part (first_ones (k + 1) n) h) (ih (higher d) (omega (arith, lt)))

first_below : (k n h : ℕ) → TakesPart (first_ones k n) h → h < k + n
first_below k zero h i = absurd i
first_below k (suc n) h (inl e) = omega (arith, e)
first_below k (suc n) h (inr i) = let q = first_below (k + 1) n h i in omega (arith, q)

code_within : (ps : List Part) (plan : Plan Gadget) → PlanIsWithin ps plan → Within ps (joint_of plan)
code_within ps Ends i = tt
code_within ps (Then g rest) i = within_first ps (acts_of_gadget g) (joint_of rest) i.0 (code_within ps rest i.1)
code_within ps (Branch qs first other rest) i = (i.0, code_within ps rest i.1)
code_within ps (Loop qs count body rest) i = (i.0, code_within ps rest i.1)

all_dropped : (xs : List ℕ) → drop 0 xs ≡ xs
all_dropped [] = refl
all_dropped (x ∷ xs) = refl

module _ (program : NormalForm) (proto : ℕ → Proto) (inputs : List (List ℕ)) (t : Tape) (can : CanRun program proto inputs t) where
  abbrev m : AnyHosts
  m = machine t (inputs_of inputs)

  abbrev s : Suite (machine t (inputs_of inputs))
  s = suite t (inputs_of inputs) (length program.hosts)

  starts : Starts (machine t (inputs_of inputs)) inputs fresh
  starts = record {
    sound = record { words = λ g r. omega arith; triples = λ g q. refl; bit_triples = λ g q. refl; pairs = λ g q. refl };
    printed = λ h. refl;
    waiting = λ h. all_dropped (inputs_of inputs h);
    words = can.words;
  }

  laws : Laws (machine t (inputs_of inputs)) (suite t (inputs_of inputs) (length program.hosts))
  laws = suite_laws t can.deal (inputs_of inputs) can.given (length program.hosts)

  tells : TellsTheSame (machine t (inputs_of inputs)) (suite t (inputs_of inputs) (length program.hosts)) proto program inputs fresh
  tells = tells_the_same m s proto laws can.over program inputs fresh can.made can.numbers refl can.valid starts

  few : length program.hosts ≤ 8
  few = let le = can.made.limits.hosts in omega (arith, le)

  plan_is_tidy : PlanIsTidy (plan_at proto program)
  plan_is_tidy = tidy_alike t (inputs_of inputs) (plan_at proto program)
      (program_tidy m s proto laws can.over program inputs fresh can.made can.numbers refl can.valid starts (suite_places t can.deal (inputs_of inputs) (length program.hosts) few))

  needs_its_loops : NeedsItsLoops (machine t (inputs_of inputs)) (plan_at proto program)
  needs_its_loops = program_needs_its_loops m s proto laws can.over program inputs fresh can.made can.numbers refl can.valid starts (suite_places t can.deal (inputs_of inputs) (length program.hosts) few)

  -- only declared hosts act
  all_inside : PlanIsWithin (first_ones 0 (length program.hosts)) (plan_at proto program)
  all_inside =
      within t (inputs_of inputs) (first_ones 0 (length program.hosts)) (plan_at proto program) (λ h i.
      is_first 0 (length program.hosts) h (omega arith)
      (let lt = program_within m s proto laws can.over program inputs fresh can.made can.numbers refl can.valid starts (suite_places t can.deal (inputs_of inputs) (length program.hosts) few) h i in omega (arith, lt)))

  runs : RunsAsToldBy program proto inputs t
  runs =
      let alike : run_plan (machine t (inputs_of inputs)) (plan_at proto program) fresh ≡ joint t (code_at proto program) fresh = runs_alike t (inputs_of inputs) (plan_at proto program) fresh plan_is_tidy in
      record {
        prints = ap (λ (w : Hosts). map (λ h. (w h).printed) (range_with_len 0 (length program.hosts))) (sym alike) ∙ tells.outputs;
        smooth = goes_smoothly t (inputs_of inputs) (plan_at proto program) fresh plan_is_tidy tells.goes;
        tidy = plan_tidy (plan_at proto program) plan_is_tidy;
        plan_tidy = plan_is_tidy;
        hosts = λ h le. absent (first_ones 0 (length program.hosts)) h (code_at proto program) (λ i. past h le (first_below 0 (length program.hosts) h i))
            (code_within (first_ones 0 (length program.hosts)) (plan_at proto program) all_inside);
        sound = plan_sound t can.deal (plan_at proto program) plan_is_tidy fresh starts.sound;
      }
    where
      past : (h : ℕ) → length program.hosts ≤ h → h < 0 + length program.hosts → ⊥
      past h le lt = omega (arith, le, lt)

pub code_tells_the_same : CodeTellsTheSame
code_tells_the_same program proto inputs t can = runs program proto inputs t can

pub loops_are_needed : LoopsAreNeeded
loops_are_needed program proto inputs t can = needs_its_loops program proto inputs t can

pub code_runs_well : CodeRunsWell
code_runs_well program proto inputs s can = let r = runs program proto inputs (followed_by_zeros s) can in record { tidy = r.tidy; smooth = r.smooth }
