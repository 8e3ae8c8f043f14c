-- What who is on the way sees of hosts that execute: how long the packets are that each host sends each other one, in order.
use Rattle.std.specs.Prelude.{◌≡◌, ◌⊎◌, ℕ, zero, suc, nat_eq, ◌&&◌, true, false, if◌then◌else◌, List, [], ◌∷◌, ◌++◌, length, map}
use Rattle.vd_base.specs.declared.protocols.Proto.{Proto}
use Rattle.vd_base.specs.Holders.{proto_in}
use Rattle.vd_core.specs.declared.normal.NormalForm.{NormalForm}
use Rattle.vd_constraints.specs.declared.labels.Labels.{Labels}
use Rattle.vd_execution.specs.World.{World, Supply, Tape, IsPrefixOf, AllEnded, followed_by_zeros}
use Rattle.vd_execution.specs.Joint.{Joint, Done, Do, Msg, If, For, Hosts, after_do, after_msg, is_other, turn_begun, turns, joint, IsTidy}
use Rattle.vd_execution.specs.Claims.{RunsWell, reached}
use Rattle.vd_backend_laws.specs.Whole.{code_at}
use Rattle.vd_projection.specs.Assignments.{IsValidFor}
use Rattle.vd_noninter_protocols.specs.Told.{IsDealt}
use Rattle.vd_views.specs.Views.{BothTurns}

-- nobody sends in it
abbrev pub IsSilent : Joint → Type 0
IsSilent Done = Unit {0}
IsSilent (Do h a rest) = IsSilent rest
IsSilent (Msg a said b heard rest) = ⊥
IsSilent (If ps first other rest) = IsSilent first × (IsSilent other × IsSilent rest)
IsSilent (For ps count body rest) = IsSilent body × IsSilent rest

-- nobody sends in a branch
abbrev pub BranchesAreSilent : Joint → Type 0
BranchesAreSilent Done = Unit {0}
BranchesAreSilent (Do h a rest) = BranchesAreSilent rest
BranchesAreSilent (Msg a said b heard rest) = BranchesAreSilent rest
BranchesAreSilent (If ps first other rest) = IsSilent first × (IsSilent other × BranchesAreSilent rest)
BranchesAreSilent (For ps count body rest) = BranchesAreSilent body × BranchesAreSilent rest

-- how long packets are
abbrev pub lengths : List (List ℕ) → List ℕ
lengths packets = map (λ packet. length packet) packets

abbrev pub so_often : ℕ → List ℕ → List ℕ
so_often zero xs = []
so_often (suc n) xs = xs ++ so_often n xs

-- how long the packets are that a sends b, in order, where nobody sends in a branch: the program alone says it
abbrev pub lengths_in : ℕ → ℕ → Joint → List ℕ
lengths_in a b Done = []
lengths_in a b (Do h action rest) = lengths_in a b rest
lengths_in a b (Msg from said to heard rest) =
    (if nat_eq a from && nat_eq b to then length said ∷ [] else []) ++ lengths_in a b rest
lengths_in a b (If ps first other rest) = lengths_in a b rest
lengths_in a b (For ps count body rest) = so_often count (lengths_in a b body) ++ lengths_in a b rest

-- in a world that some schedule reaches, what each host has sent each other one is as long as the first of these, and at the end
-- as all of these
pub record TellsLengths (j : Joint) (w : World) : Type 0 where
  pub first : (a b : ℕ) → IsPrefixOf (lengths ((w a).sent b)) (lengths_in a b j)
  pub all : AllEnded w → (a b : ℕ) → lengths ((w a).sent b) ≡ lengths_in a b j

abbrev pub LengthsFollowCode : Type 0
LengthsFollowCode =
    (s : Supply) (j : Joint) (schedule : List ℕ) → RunsWell s j → BranchesAreSilent j → TellsLengths j (reached s j schedule)

-- so of every program at a valid assignment, whatever its inputs, the deal and the schedule are
abbrev pub LengthsFollowPrograms : Type 0
LengthsFollowPrograms =
    (p : NormalForm) (l : Labels) (protocols : List Proto) → IsValidFor p l protocols → BranchesAreSilent (code_at (proto_in protocols) p)
    → (inputs : List (List ℕ)) (s : Supply) (schedule : List ℕ) → IsDealt inputs (followed_by_zeros s)
    → TellsLengths (code_at (proto_in protocols) p) (reached s (code_at (proto_in protocols) p) schedule)

-- ---- where hosts send in branches

-- along two runs, each branch in which somebody sends goes the same way
abbrev pub GoTheSameWay : Tape → Tape → Joint → Hosts → Hosts → Type 0
GoTheSameWay t u Done w v = Unit {0}
GoTheSameWay t u (Do h a rest) w v = GoTheSameWay t u rest (after_do t h a w) (after_do u h a v)
GoTheSameWay t u (Msg a said b heard rest) w v = GoTheSameWay t u rest (after_msg a said b heard w) (after_msg a said b heard v)
GoTheSameWay t u (If ps first other rest) w v =
    ((IsSilent first × IsSilent other)
    ⊎ ((is_other ps w ≡ is_other ps v)
    × ((is_other ps w ≡ true → GoTheSameWay t u other w v) × (is_other ps w ≡ false → GoTheSameWay t u first w v))))
    × GoTheSameWay t u rest (if is_other ps w then joint t other w else joint t first w)
    (if is_other ps v then joint u other v else joint u first v)
GoTheSameWay t u (For ps count body rest) w v =
    BothTurns (λ i x y. GoTheSameWay t u body (turn_begun ps i x) (turn_begun ps i y))
    (λ i x. joint t body (turn_begun ps i x)) (λ i y. joint u body (turn_begun ps i y)) count 0 w v
    × GoTheSameWay t u rest (turns (λ i x. joint t body (turn_begun ps i x)) count 0 w)
    (turns (λ i y. joint u body (turn_begun ps i y)) count 0 v)

-- each host has sent each other one packets that are as long
abbrev pub AreAsLong : Hosts → Hosts → Type 0
AreAsLong w v = (a b : ℕ) → lengths ((w a).sent b) ≡ lengths ((v a).sent b)

-- two runs that go the same way there, whatever the inputs and the deals are, send packets that are as long
abbrev pub LengthsTellWays : Type 0
LengthsTellWays =
    (t u : Tape) (j : Joint) (w v : Hosts) → IsTidy j → GoTheSameWay t u j w v → AreAsLong w v → AreAsLong (joint t j w) (joint u j v)
