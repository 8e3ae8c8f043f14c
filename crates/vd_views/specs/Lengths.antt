-- Deals that end, and how many of them show a coalition the same.
use Rattle.std.specs.Prelude.{◌≡◌, ◌≢◌, ◌⊎◌, ℕ, ◌≤◌, List, [], ◌∷◌, length}
use Rattle.vd_base.specs.declared.protocols.Proto.{Proto}
use Rattle.vd_core.specs.declared.normal.NormalForm.{NormalForm}
use Rattle.vd_constraints.specs.declared.labels.Labels.{Labels}
use Rattle.vd_execution.specs.Step.{Source, Inputs, OwnWords, Triples, BitTriples, Pairs}
use Rattle.vd_execution.specs.World.{Tape, zeros_of}
use Rattle.vd_execution.specs.Deals.{IsValidDeal}
use Rattle.vd_execution.specs.Joint.{fresh, joint}
use Rattle.vd_execution.specs.Gadgets.{Gadget}
use Rattle.vd_execution.specs.Plans.{Plan, joint_of}
use Rattle.vd_views.specs.Views.{Coalition, IsIn, SameParts, LookAlike}
use Rattle.vd_views.specs.Contract.{InputWords, Explains}
use Rattle.vd_views.specs.Sides.{Each}
use Rattle.vd_views.specs.Explained.{IsOpen, IsCoalition, plan_of, input_words, AgreeFor}
use Rattle.vd_views.specs.PairUp.{IsDealOf, AreDifferent}

-- how many items each host has of each source
abbrev pub Lengths : Type 0
Lengths = ℕ → Source → ℕ

-- items that count: own words, and those that a host of the coalition shares
abbrev pub IsSeen : Coalition → ℕ → Source → Type 0
IsSeen K g Inputs = ⊥
IsSeen K g OwnWords = Unit {0}
IsSeen K g (Triples p) = IsIn K g ⊎ IsIn K p
IsSeen K g (BitTriples p) = IsIn K g ⊎ IsIn K p
IsSeen K g (Pairs p) = IsIn K g ⊎ IsIn K p

-- a deal of these lengths, followed by zeros, of which the run takes no item past its end
pub record IsLongEnough (K : Coalition) (n : Lengths) (plan : Plan Gadget) (t : Tape) : Type 0 where
  pub ends : (g : ℕ) (s : Source) (i : ℕ) → s ≢ Inputs → n g s ≤ i → t g s i ≡ zeros_of s
  pub takes : (g : ℕ) (s : Source) → IsSeen K g s → (joint t (joint_of plan) fresh g).cursors s ≤ n g s

-- runs on these inputs take no own word past these lengths
abbrev pub OwnFits : Lengths → Plan Gadget → InputWords → Type 0
OwnFits n plan given = (t : Tape) → IsDealOf given t → (g : ℕ) → (joint t (joint_of plan) fresh g).cursors OwnWords ≤ n g OwnWords

-- what explains another run is as long, and the run takes no item past its end, if its own words reach
abbrev pub ExcusesAreAsLong : Type 0
ExcusesAreAsLong =
    (p : NormalForm) (l : Labels) (protocols : List Proto) (K : Coalition) → IsOpen p l protocols K → IsCoalition p K → (second : InputWords) (t y : Tape) → IsValidDeal t → Explains K (plan_of p protocols) t second y
    → (n : Lengths) → IsLongEnough K n (plan_of p protocols) t → ((g : ℕ) → (joint y (joint_of (plan_of p protocols)) fresh g).cursors OwnWords ≤ n g OwnWords) → IsLongEnough K n (plan_of p protocols) y

-- ---- so there are equally many of given lengths that show the coalition the same

-- all that the coalition sees of the run with this deal: its parts of the deal, and the registers, prints and packets of its hosts
pub record SeesTheSame (K : Coalition) (plan : Plan Gadget) (t y : Tape) : Type 0 where
  pub part : SameParts K y t
  pub view : LookAlike K (joint t (joint_of plan) fresh) (joint y (joint_of plan) fresh)

-- a deal of these inputs and lengths by which the coalition sees what it sees by t
pub record Shows (K : Coalition) (plan : Plan Gadget) (n : Lengths) (t : Tape) (given : InputWords) (y : Tape) : Type 0 where
  pub deal : IsDealOf given y
  pub long : IsLongEnough K n plan y
  pub sees : SeesTheSame K plan t y

abbrev pub IsAmong : {X : Type 0} → X → List X → Type 0
IsAmong t [] = ⊥
IsAmong t (u ∷ us) = (u ≡ t) ⊎ IsAmong t us

-- these deals, each once, and no others
pub record AreAll {X : Type 0} (P : X → Type 0) (ts : List X) : Type 0 where
  pub each : Each P ts
  pub different : AreDifferent ts
  pub all : (t : X) → P t → IsAmong t ts

-- where these are all deals of the first inputs that show it what it sees, there are as many of the second. Own words are to reach for
-- the runs on both
abbrev pub ShowEquallyMany : Type 0
ShowEquallyMany =
    (p : NormalForm) (l : Labels) (protocols : List Proto) (K : Coalition) → IsOpen p l protocols K → IsCoalition p K → (first second : List (List ℕ)) → AgreeFor p l protocols K first second → AgreeFor p l protocols K second first
    → (n : Lengths) → OwnFits n (plan_of p protocols) (input_words first) → OwnFits n (plan_of p protocols) (input_words second) → (t : Tape) (ts : List Tape) → AreAll (Shows K (plan_of p protocols) n t (input_words first)) ts
    → (ys : List Tape) × (length ys ≡ length ts) × AreAll (Shows K (plan_of p protocols) n t (input_words second)) ys
