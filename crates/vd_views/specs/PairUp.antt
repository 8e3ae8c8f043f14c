-- The deals with two families of inputs that agree for a coalition belong to each other one to one, and it sees the same by both.
use Rattle.std.specs.Prelude.{◌≡◌, ◌≢◌, ℕ, ◌≤◌, List, [], ◌∷◌}
use Rattle.vd_base.specs.declared.protocols.Proto.{Proto}
use Rattle.vd_core.specs.declared.normal.NormalForm.{NormalForm}
use Rattle.vd_constraints.specs.declared.labels.Labels.{Labels}
use Rattle.vd_execution.specs.Step.{Source, Inputs, OwnWords}
use Rattle.vd_execution.specs.World.{Tape}
use Rattle.vd_execution.specs.Deals.{IsValidDeal}
use Rattle.vd_execution.specs.Joint.{fresh, joint}
use Rattle.vd_execution.specs.Gadgets.{Gadget}
use Rattle.vd_execution.specs.Plans.{Plan, joint_of}
use Rattle.vd_views.specs.Views.{Coalition}
use Rattle.vd_views.specs.Contract.{InputWords, HasInputs, Explains, HasExplanation}
use Rattle.vd_views.specs.Sides.{Each}
use Rattle.vd_views.specs.Explained.{IsOpen, IsCoalition, plan_of, input_words, AgreeFor}

-- a valid deal with these inputs
pub record IsDealOf (given : InputWords) (t : Tape) : Type 0 where
  pub deal : IsValidDeal t
  pub inputs : HasInputs t given

-- each deal of the first inputs explains itself by one deal of the second, and by no other; and just so back
pub record PairUp (K : Coalition) (plan : Plan Gadget) (first second : InputWords) : Type 0 where
  pub forth : (t : Tape) → IsDealOf first t → HasExplanation K plan t second
  pub turned : (t y : Tape) → IsDealOf first t → Explains K plan t second y → Explains K plan y first t
  pub only : (t y z : Tape) → IsDealOf first t → Explains K plan t second y → Explains K plan t second z → z ≡ y
  -- the items that the first run does not take stay; own words are only moved
  pub rest : (t y : Tape) → IsDealOf first t → Explains K plan t second y
      → (g : ℕ) (s : Source) (i : ℕ) → s ≢ Inputs → s ≢ OwnWords → (joint t (joint_of plan) fresh g).cursors s ≤ i → y g s i ≡ t g s i

abbrev pub DealsPairUp : Type 0
DealsPairUp =
    (p : NormalForm) (l : Labels) (protocols : List Proto) (K : Coalition) → IsOpen p l protocols K → IsCoalition p K → (first second : List (List ℕ)) → AgreeFor p l protocols K first second → AgreeFor p l protocols K second first
    → PairUp K (plan_of p protocols) (input_words first) (input_words second)

-- ---- so there are equally many

abbrev pub AreDifferent : {X : Type 0} → List X → Type 0
AreDifferent [] = Unit {0}
AreDifferent (t ∷ ts) = Each (λ u. t ≢ u) ts × AreDifferent ts

abbrev pub EachExplains : Coalition → Plan Gadget → InputWords → List Tape → List Tape → Type 0
EachExplains K plan second [] [] = Unit {0}
EachExplains K plan second (t ∷ ts) (y ∷ ys) = Explains K plan t second y × EachExplains K plan second ts ys
EachExplains K plan second [] (y ∷ ys) = ⊥
EachExplains K plan second (t ∷ ts) [] = ⊥

-- of different deals of the first inputs, different deals of the second, by each of which the coalition sees the same
abbrev pub AsMany : Coalition → Plan Gadget → InputWords → InputWords → Type 0
AsMany K plan first second =
    (ts : List Tape) → Each (IsDealOf first) ts → AreDifferent ts → (ys : List Tape) × EachExplains K plan second ts ys × Each (IsDealOf second) ys × AreDifferent ys

abbrev pub ThereAreAsMany : Type 0
ThereAreAsMany =
    (p : NormalForm) (l : Labels) (protocols : List Proto) (K : Coalition) → IsOpen p l protocols K → IsCoalition p K → (first second : List (List ℕ)) → AgreeFor p l protocols K first second → AgreeFor p l protocols K second first
    → AsMany K (plan_of p protocols) (input_words first) (input_words second)
