-- What each step does, and turns one after another.
use Rattle.std.proofs.Common.{◌≡◌, ℕ, zero, suc, ◌+◌, add-one, Bool, true, false, if◌then◌else◌, List, sym, ap, ◌∙◌, arith, rules}
use Rattle.std.specs.Prelude.{Result, OnOk, Ok, Err, ⊤}
use Rattle.vd_execution.specs.Joint.{Part, turns}
use Rattle.vd_excuse_walk.specs.declared.equivocation_laws.step.Step.{Step, Branch as BranchStep}
use Rattle.vd_excuse_walk.specs.declared.equivocation_laws.step.Step.TheOpen.{Step-F}
use Rattle.vd_excuse_walk.specs.declared.equivocation_laws.step.Step.TheFolds.{the_lemmas}
use Rattle.vd_excuse_runs.specs.declared.side.Side.{Side}
use Rattle.vd_excuse_runs.specs.Runs.{is_other}
use Rattle.vd_excuse_walk.specs.declared.walker.Choice.TheVariants as choice
use Rattle.vd_excuse_walk.specs.Data.{DataWalk, all_alone, either_alone, data_step, data_walk, data_walks}

walk_branch : (ps : List Part) (first other : List Step) → data_walk (BranchStep ps first other) ≡ data_step (Step-F.Branch ps (data_walks first) (data_walks other))
walk_branch ps first other = search (rules, the_lemmas)

pub on_ok : {E : Type 0} {P Q : Type 0} (r : Result ⊤ E) → (P → Q) → OnOk r P → OnOk r Q
on_ok (Ok x) leads holds = leads holds
on_ok (Err e) leads holds = tt

-- ---- one run

alone_is : (step one : Step) (x : DataWalk) (run : List Side) → step ≡ one → data_walk one ≡ x → x.alone run ≡ (data_walk step).alone run
alone_is step one x run is e = sym (ap (λ (s : Step). (data_walk s).alone run) is ∙ ap (λ (z : DataWalk). z.alone run) e)

alone_branch : (step : Step) (ps : List Part) (first other : List Step) (run : List Side) → step ≡ BranchStep ps first other
    → either_alone ps (data_walks first) (data_walks other) run ≡ (data_walk step).alone run
alone_branch step ps first other run is = alone_is step (BranchStep ps first other) (data_step (Step-F.Branch ps (data_walks first) (data_walks other))) run is (walk_branch ps first other)

-- ---- a branch

chosen : (b : Bool) (first other : List DataWalk) (run : List Side) (x : Bool) → b ≡ x → (if x then all_alone other run else all_alone first run) ≡ (if b then all_alone other run else all_alone first run)
chosen b first other run x e = ap (λ (q : Bool). if q then all_alone other run else all_alone first run) (sym e)

-- as the code goes: the branch that is taken alone
pub other_alone : (step : Step) (a : List Part) (b c : List Step) (ps : List Part) (first other : List Step) (run new : List Side) → step ≡ BranchStep a b c → ps ≡ a → first ≡ b → other ≡ c → is_other ps run ≡ true
    → new ≡ all_alone (data_walks other) run → new ≡ (data_walk step).alone run
other_alone step a b c ps first other run new is ps_is first_is other_is test done =
    done ∙ chosen (is_other ps run) (data_walks first) (data_walks other) run true test
    ∙ ap (λ (q : List Part). either_alone q (data_walks first) (data_walks other) run) ps_is
    ∙ ap (λ (q : List Step). either_alone a (data_walks q) (data_walks other) run) first_is
    ∙ ap (λ (q : List Step). either_alone a (data_walks b) (data_walks q) run) other_is
    ∙ alone_branch step a b c run is

pub first_alone : (step : Step) (a : List Part) (b c : List Step) (ps : List Part) (first other : List Step) (run new : List Side) → step ≡ BranchStep a b c → ps ≡ a → first ≡ b → other ≡ c → is_other ps run ≡ false
    → new ≡ all_alone (data_walks first) run → new ≡ (data_walk step).alone run
first_alone step a b c ps first other run new is ps_is first_is other_is test done =
    done ∙ chosen (is_other ps run) (data_walks first) (data_walks other) run false test
    ∙ ap (λ (q : List Part). either_alone q (data_walks first) (data_walks other) run) ps_is
    ∙ ap (λ (q : List Step). either_alone a (data_walks q) (data_walks other) run) first_is
    ∙ ap (λ (q : List Step). either_alone a (data_walks b) (data_walks q) run) other_is
    ∙ alone_branch step a b c run is

-- ---- turns

turns_last : {W : Type 0} (f : ℕ → W → W) (n i : ℕ) (w : W) → turns f (suc n) i w ≡ f (n + i) (turns f n i w)
turns_last f zero i w = let e : i ≡ 0 + i = omega arith in ap (λ k. f k w) e
turns_last f (suc n) i w = let e : n + suc i ≡ suc n + i = omega arith in turns_last f n (suc i) (f i w) ∙ ap (λ k. f k (turns f n (suc i) (f i w))) e

pub one_turn : {W : Type 0} (f : ℕ → W → W) (n : ℕ) (w v x : W) → v ≡ turns f n 0 w → x ≡ f n v → x ≡ turns f (n + 1) 0 w
one_turn f n w v x e g =
    let m : n + 0 ≡ n = omega arith in
    g ∙ ap (f n) e ∙ sym (ap (λ k. turns f k 0 w) (add-one n) ∙ turns_last f n 0 w ∙ ap (λ k. f k (turns f n 0 w)) m)
