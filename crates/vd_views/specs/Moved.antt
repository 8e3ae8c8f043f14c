-- Own words that hosts outside give to a coalition: at which places of their lists, and how a second deal has them moved.
use Rattle.std.specs.Prelude.{◌≡◌, ℕ, zero, suc, ◌≤◌, nat_eq, ◌&&◌, ◌||◌, Bool, true, false, if◌then◌else◌, List, [], ◌∷◌, ◌++◌}
use Rattle.vd_execution.specs.Step.{OwnWords}
use Rattle.vd_execution.specs.World.{Tape}
use Rattle.vd_execution.specs.Joint.{Part, Hosts, is_other, turn_begun, turns}
use Rattle.vd_execution.specs.Acts.{run_acts}
use Rattle.vd_execution.specs.Gadgets.{Gadget, Alone, Tells, Shares, BothShare, Opens, Masked, Paired, acts_of_gadget}
use Rattle.vd_execution.specs.Plans.{Plan, Ends, Then, Branch, Loop}
use Rattle.vd_views.specs.Views.{Coalition, IsIn, IsOut}
use Rattle.vd_views.specs.Hiding.{next_item, AlongGadgets}
use Rattle.vd_views.specs.Plans.{run_branch, run_turn}

-- ---- at which places

-- some host of the coalition takes part
abbrev pub looks_in : Coalition → List Part → Bool
looks_in K [] = false
looks_in K (p ∷ ps) = K p.0 || looks_in K ps

abbrev pub place_if : Bool → ℕ → List ℕ
place_if true i = i ∷ []
place_if false i = []

-- the place of the own word of host g that a gadget gives to the coalition
abbrev pub given_by : Coalition → ℕ → Gadget → Hosts → List ℕ
given_by K g (Alone h a) w = []
given_by K g (Tells a said b heard) w = []
given_by K g (Shares a r b heard) w = place_if (nat_eq a.0 g && K b.0) ((w g).cursors OwnWords)
given_by K g (BothShare a r heard b q heard_b) w = place_if ((nat_eq a.0 g && K b.0) || (nat_eq b.0 g && K a.0)) ((w g).cursors OwnWords)
given_by K g (Opens sharing a x b y heard) w = []
given_by K g (Masked sharing m n) w = []
given_by K g (Paired p q) w = []

abbrev pub in_turns : (ℕ → Hosts → List ℕ) → (ℕ → Hosts → Hosts) → ℕ → ℕ → Hosts → List ℕ
in_turns f turn zero i w = []
in_turns f turn (suc n) i w = f i w ++ in_turns f turn n (suc i) (turn i w)

-- the places of the own words of host g that a run of the plan gives to the coalition, one after the other
abbrev pub places : Coalition → ℕ → Tape → Plan Gadget → Hosts → List ℕ
places K g t Ends w = []
places K g t (Then x rest) w = given_by K g x w ++ places K g t rest (run_acts t (acts_of_gadget x) w)
places K g t (Branch ps first other rest) w =
    (if looks_in K ps then (if is_other ps w then places K g t other w else places K g t first w) else []) ++ places K g t rest (run_branch ps first other t w)
places K g t (Loop ps count body rest) w =
    (if looks_in K ps then in_turns (λ i x. places K g t body (turn_begun ps i x)) (run_turn ps body t) count 0 w else [])
    ++ places K g t rest (turns (run_turn ps body t) count 0 w)

-- ---- words that are moved

abbrev pub swapped : ℕ → ℕ → ℕ → ℕ
swapped a b i = if nat_eq i a then b else (if nat_eq i b then a else i)

-- which word stands at a place, and at which place a word stands
pub record Moves : Type 0 where
  pub from : ℕ → ℕ
  pub to : ℕ → ℕ

abbrev pub stays : Moves
stays = record { from = λ i. i; to = λ i. i }

-- exchanged once more, so that word i stands at place j
abbrev pub move_one : Moves → ℕ → ℕ → Moves
move_one m i j = record { from = λ x. m.from (swapped j (m.to i) x); to = λ x. swapped j (m.to i) (m.to x) }

-- word by word, those at these places stand at those
abbrev pub moved_by : List ℕ → List ℕ → Moves → Moves
moved_by [] js m = m
moved_by (i ∷ is) [] m = m
moved_by (i ∷ is) (j ∷ js) m = moved_by is js (move_one m i j)

-- the other way
abbrev pub turned : Moves → Moves
turned m = record { from = m.to; to = m.from }

-- a way, and back
pub record IsOneToOne (m : Moves) : Type 0 where
  pub back : (i : ℕ) → m.from (m.to i) ≡ i
  pub forth : (i : ℕ) → m.to (m.from i) ≡ i

-- one place after the other, from lo on and below hi
abbrev pub Rise : ℕ → List ℕ → ℕ → Type 0
Rise lo [] hi = lo ≤ hi
Rise lo (i ∷ is) hi = (lo ≤ i) × Rise (suc i) is hi

-- as far as both lists go, the words at their places are the same
abbrev pub AsFar : {X : Type 0} → (ℕ → X) → (ℕ → X) → List ℕ → List ℕ → Type 0
AsFar f h [] js = Unit {0}
AsFar f h (i ∷ is) [] = Unit {0}
AsFar f h (i ∷ is) (j ∷ js) = (f i ≡ h j) × AsFar f h is js

-- moved so, the words at the second places are those at the first; moved back, each word stands where it stood; where the places are
-- the same nothing moves; and words past all of these places stay
pub record MovesWell : Type 0 where
  pub there : (f : ℕ → List ℕ) (is js : List ℕ) (lo m n hi : ℕ) → Rise lo is m → Rise n js hi → AsFar f (λ j. f ((moved_by is js stays).from j)) is js
  pub back : (is js : List ℕ) → moved_by js is stays ≡ turned (moved_by is js stays)
  pub one_to_one : (is js : List ℕ) → IsOneToOne (moved_by is js stays)
  pub none : (is : List ℕ) → moved_by is is stays ≡ stays
  pub past : (is js : List ℕ) (lo k n : ℕ) → Rise lo is n → Rise k js n → (i : ℕ) → n ≤ i → (moved_by is js stays).from i ≡ i

-- ---- what is given in two runs

-- the own words that hosts outside give to the coalition by a gadget are the same
abbrev pub GadgetOwns : Coalition → Tape → Tape → Gadget → Hosts → Hosts → Type 0
GadgetOwns K t y (Alone h a) w v = Unit {0}
GadgetOwns K t y (Tells a said b heard) w v = Unit {0}
GadgetOwns K t y (Shares a r b heard) w v = IsIn K b.0 → IsOut K a.0 → next_item t w a.0 OwnWords ≡ next_item y v a.0 OwnWords
GadgetOwns K t y (BothShare a r heard b q heard_b) w v =
    (IsIn K b.0 → IsOut K a.0 → next_item t w a.0 OwnWords ≡ next_item y v a.0 OwnWords)
    × (IsIn K a.0 → IsOut K b.0 → next_item t w b.0 OwnWords ≡ next_item y v b.0 OwnWords)
GadgetOwns K t y (Opens sharing a x b p heard) w v = Unit {0}
GadgetOwns K t y (Masked sharing m n) w v = Unit {0}
GadgetOwns K t y (Paired p q) w v = Unit {0}

abbrev pub GadgetsOwn : Coalition → Tape → Tape → List Gadget → Hosts → Hosts → Type 0
GadgetsOwn K t y gadgets w v = AlongGadgets (GadgetOwns K t y) t y gadgets w v

-- word by word, as far as both runs of the plan give some, they are the same
abbrev pub OwnAlike : Coalition → Tape → Tape → Plan Gadget → Hosts → Hosts → Type 0
OwnAlike K t y plan w v = (g : ℕ) → IsOut K g → AsFar (t g OwnWords) (y g OwnWords) (places K g t plan w) (places K g y plan v)
