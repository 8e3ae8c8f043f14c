-- Other inputs that agree on the inputs of hosts that look together, and on the clear words that come to them, are explained by another
-- deal.
use Rattle.std.specs.Prelude.{◌≡◌, ℕ, ◌^◌, ◌<◌, true, List, length, slice_index}
use Rattle.vd_base.specs.HostSets.{host}
use Rattle.vd_base.specs.declared.protocols.Proto.{Proto}
use Rattle.vd_base.specs.Holders.{proto_in}
use Rattle.vd_core.specs.declared.normal.NormalForm.{NormalForm}
use Rattle.vd_constraints.specs.declared.labels.Labels.{Labels}
use Rattle.vd_execution.specs.World.{Tape}
use Rattle.vd_execution.specs.Gadgets.{Gadget}
use Rattle.vd_execution.specs.Plans.{Plan}
use Rattle.vd_backend_laws.specs.Parts.{has_back_end}
use Rattle.vd_backend_laws.specs.Whole.{plan_at, inputs_of}
use Rattle.vd_projection.specs.Assignments.{IsValidFor}
use Rattle.vd_views.specs.Views.{Coalition, IsIn, alone}
use Rattle.vd_execution.specs.Step.{OwnWords}
use Rattle.vd_views.specs.Contract.{InputWords, Explains, ChooseBranches, IsExplained, GoesBackTo}
use Rattle.vd_noninter_protocols.specs.Assigned.{heard_words}
use Rattle.vd_noninter_protocols.specs.Told.{IsDealt}
use Rattle.vd_views.specs.Sides.{IsOpenAt, OwnsInSight, OnlyOutside}

-- a program at a valid assignment of protocols, none of them a commitment by a host outside to one of the coalition
pub record IsOpen (p : NormalForm) (l : Labels) (protocols : List Proto) (K : Coalition) : Type 0 where
  pub chosen : IsValidFor p l protocols
  pub opens : (x : ℕ) → IsOpenAt K (proto_in protocols x)

-- and none of them a commitment at all
pub record IsFree (p : NormalForm) (l : Labels) (protocols : List Proto) : Type 0 where
  pub chosen : IsValidFor p l protocols
  pub free : (x : ℕ) → has_back_end (proto_in protocols x) ≡ true

-- and that program has two hosts
pub record IsOfTwo (p : NormalForm) (l : Labels) (protocols : List Proto) : Type 0 where
  pub free : IsFree p l protocols
  pub hosts : length p.hosts ≡ 2

-- the plan that its hosts execute together
abbrev pub plan_of : NormalForm → List Proto → Plan Gadget
plan_of p protocols = plan_at (proto_in protocols) p

-- inputs, each followed by zeros
abbrev pub input_words : List (List ℕ) → InputWords
input_words inputs g i = slice_index (inputs_of inputs g) i

-- hosts of the program that look together
abbrev pub IsCoalition : NormalForm → Coalition → Type 0
IsCoalition p K = (g : ℕ) → IsIn K g → g < length p.hosts

-- whatever is dealt, each run on these inputs takes the same branches
abbrev pub InputsChooseBranches : Type 0
InputsChooseBranches =
    (p : NormalForm) (l : Labels) (protocols : List Proto) → IsValidFor p l protocols → (inputs : List (List ℕ)) → ChooseBranches (plan_of p protocols) (input_words inputs)

-- other inputs of words: each host of the coalition has the same, and the same clear words come to it
pub record AgreeFor (p : NormalForm) (l : Labels) (protocols : List Proto) (K : Coalition) (first second : List (List ℕ)) : Type 0 where
  pub words : (g i : ℕ) → input_words second g i < 2 ^ 32
  pub own : (g : ℕ) → IsIn K g → (i : ℕ) → input_words first g i ≡ input_words second g i
  pub heard : (g : ℕ) → IsIn K g → heard_words p l protocols (host g) first ≡ heard_words p l protocols (host g) second

-- one deal that is computed along both runs is valid, with the same parts for all hosts of the coalition, the same own words, moved to
-- where the second run gives them, and the same items among the others; and by it the coalition sees of the second inputs what it saw
-- of the first
abbrev pub OthersAreExplained : Type 0
OthersAreExplained =
    (p : NormalForm) (l : Labels) (protocols : List Proto) (K : Coalition) → IsOpen p l protocols K → IsCoalition p K → (first second : List (List ℕ)) (t : Tape) → IsDealt first t → AgreeFor p l protocols K first second
    → IsExplained K (plan_of p protocols) t (input_words second)

-- and explained back, the first deal comes again
abbrev pub ExplainedBack : Type 0
ExplainedBack = (p : NormalForm) (l : Labels) (protocols : List Proto) → IsValidFor p l protocols → (K : Coalition) (first : List (List ℕ)) → GoesBackTo K (plan_of p protocols) (input_words first)

-- where own words are taken in sight of the coalition, none moves
abbrev pub OwnWordsStay : Type 0
OwnWordsStay =
    (p : NormalForm) (l : Labels) (protocols : List Proto) → IsValidFor p l protocols → (K : Coalition) → OwnsInSight K (plan_of p protocols) → (second : InputWords) (t y : Tape) → Explains K (plan_of p protocols) t second y
    → (g i : ℕ) → y g OwnWords i ≡ t g OwnWords i

-- where one host alone is outside, own words are taken in sight of the others
abbrev pub AllButOneLook : Type 0
AllButOneLook = (p : NormalForm) (l : Labels) (protocols : List Proto) (K : Coalition) → IsOpen p l protocols K → (k : ℕ) → OnlyOutside K (length p.hosts) k → OwnsInSight K (plan_of p protocols)

-- so it is of two hosts, where one looks alone
abbrev pub OneOfTwoLooks : Type 0
OneOfTwoLooks = (p : NormalForm) (l : Labels) (protocols : List Proto) (h : ℕ) → IsOpen p l protocols (alone h) → length p.hosts ≡ 2 → h < 2
    → IsCoalition p (alone h) × OwnsInSight (alone h) (plan_of p protocols)
