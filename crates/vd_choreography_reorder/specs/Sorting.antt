-- The order of the pass: joint code sorted by rank. What ranks alike stays in its order.
use Rattle.std.specs.Prelude.{◌≡◌, ℕ, ◌≤◌, ◌<◌, nat_eq, nat_lt, true, false, if◌then◌else◌, List, [], ◌∷◌}
use Rattle.std.specs.List.{filter}
use Rattle.vd_execution.specs.declared.instructions.Reg.{Reg}
use Rattle.vd_execution.specs.declared.instructions.Act.{Act}
use Rattle.vd_execution.specs.declared.instructions.Act.TheVariants as act
use Rattle.vd_execution.specs.declared.instructions.Line.{Line}
use Rattle.vd_execution.specs.declared.instructions.Line.TheVariants as line
use Rattle.vd_execution.specs.Joint.{Joint, IsTidy}
use Rattle.vd_execution.specs.Text.{flat}
use Rattle.vd_reorder.specs.ReorderLawsTesting.{meet, reads, writes}
use Rattle.vd_reorder.specs.Turning.{Turn, Does, Tells}
use Rattle.vd_choreography_reorder.specs.declared.ranks.Ranked.{Ranked}
use Rattle.vd_choreography_reorder.specs.Testing.{Opened, may_pass, tells_at}
use Rattle.vd_choreography_reorder.specs.Order.{IsBroughtForward}
use Rattle.vd_choreography_reorder.specs.Passing.{passes, turn_of}
use Rattle.vd_choreography_reorder.specs.Ranks.{nothing_left, next_round, ranked, lines_of}

-- a line behind those that rank lower
abbrev pub placed : Ranked → List Ranked → List Ranked
placed x [] = x ∷ []
placed x (y ∷ ys) = if nat_lt y.rank x.rank then y ∷ placed x ys else x ∷ y ∷ ys

-- a stable sort by rank
abbrev pub in_order : List Ranked → List Ranked
in_order [] = []
in_order (x ∷ xs) = placed x (in_order xs)

-- the lines in an order that waits less
abbrev pub early_order : Opened → List Line → List Line
early_order opened lines = lines_of (in_order (ranked opened nothing_left lines))

-- ---- what holds of it

-- the lines of a rank, in their order
abbrev pub of_rank : ℕ → List Ranked → List Ranked
of_rank n list = filter (λ x. nat_eq x.rank n) list

abbrev pub RankAtLeast : ℕ → List Ranked → Type 0
RankAtLeast n [] = Unit {0}
RankAtLeast n (x ∷ xs) = (n ≤ x.rank) × RankAtLeast n xs

abbrev pub Ascend : List Ranked → Type 0
Ascend [] = Unit {0}
Ascend (x ∷ xs) = RankAtLeast x.rank xs × Ascend xs

-- Ranks ascend, and of each rank there are the lines that there were, in their order.
abbrev pub LinesStandByRank : Type 0
LinesStandByRank = (xs : List Ranked) → Ascend (in_order xs) × ((n : ℕ) → of_rank n (in_order xs) ≡ of_rank n xs)

-- ---- no line asks for an exchange that may not be made

-- What ranks lower than a line and stood behind it may pass it.
abbrev pub LowerOnesPass : Opened → Ranked → List Ranked → Type 0
LowerOnesPass opened x [] = Unit {0}
LowerOnesPass opened x (y ∷ ys) = (nat_lt y.rank x.rank ≡ true → passes (may_pass opened) x.line y.line ≡ true) × LowerOnesPass opened x ys

abbrev pub AreApart : Opened → List Ranked → Type 0
AreApart opened [] = Unit {0}
AreApart opened (x ∷ xs) = LowerOnesPass opened x xs × AreApart opened xs

abbrev pub RanksAreApart : Type 0
RanksAreApart = (opened : Opened) (j : Joint) → IsTidy j → AreApart opened (ranked opened nothing_left (flat j []))

-- ---- a host may send all of a round before it awaits any

-- what is done leaves the registers that a packet fills at a host, and reads none of them
abbrev pub NeedsNothingOf : ℕ → List Reg → Turn → Type 0
NeedsNothingOf h heard (Does g b) = g ≡ h → (meet (reads b) heard ≡ false) × (meet (writes b) heard ≡ false)
NeedsNothingOf h heard (Tells c says d hears) = (c ≡ h → meet says heard ≡ false) × (d ≡ h → meet hears heard ≡ false)

abbrev pub ActNeedsNothing : Act → Line → Type 0
ActNeedsNothing (act.Do h a) l = Unit {0}
ActNeedsNothing (act.Msg a said b heard) (line.Act y) = NeedsNothingOf b.0 heard (turn_of y)
ActNeedsNothing (act.Msg a said b heard) (line.If h g) = Unit {0}
ActNeedsNothing (act.Msg a said b heard) (line.Else h) = Unit {0}
ActNeedsNothing (act.Msg a said b heard) (line.For h r count) = Unit {0}
ActNeedsNothing (act.Msg a said b heard) (line.End h) = Unit {0}

abbrev pub LineNeedsNothing : Line → Line → Type 0
LineNeedsNothing (line.Act x) l = ActNeedsNothing x l
LineNeedsNothing (line.If h g) l = Unit {0}
LineNeedsNothing (line.Else h) l = Unit {0}
LineNeedsNothing (line.For h r count) l = Unit {0}
LineNeedsNothing (line.End h) l = Unit {0}

-- What ranks in the round of a packet that is heard needs nothing of it.
abbrev pub IsOfNoNeed : Ranked → Ranked → Type 0
IsOfNoNeed x y = y.rank < next_round x.rank → LineNeedsNothing x.line y.line

abbrev pub NoneNeeds : Ranked → List Ranked → Type 0
NoneNeeds x [] = Unit {0}
NoneNeeds x (y ∷ ys) = IsOfNoNeed x y × NoneNeeds x ys

abbrev pub NoneNeedTheRound : List Ranked → Type 0
NoneNeedTheRound [] = Unit {0}
NoneNeedTheRound (x ∷ xs) = NoneNeeds x xs × NoneNeedTheRound xs

-- In the order of the pass nothing that stands behind a packet in its round needs it.
abbrev pub RoundsAreApart : Type 0
RoundsAreApart = (opened : Opened) (j : Joint) → IsTidy j → NoneNeedTheRound (in_order (ranked opened nothing_left (flat j [])))

-- ---- and tells nothing in the round of what it awaited before

-- where a host tells by a line of a rank, that is at least another
abbrev pub TellsFrom : Opened → ℕ → ℕ → Ranked → Line → Type 0
TellsFrom opened h least y (line.Act x) = tells_at opened h (turn_of x) ≡ true → least ≤ y.rank
TellsFrom opened h least y (line.If a g) = Unit {0}
TellsFrom opened h least y (line.Else a) = Unit {0}
TellsFrom opened h least y (line.For a r count) = Unit {0}
TellsFrom opened h least y (line.End a) = Unit {0}

abbrev pub ActIsAwaited : Opened → Act → ℕ → Ranked → Type 0
ActIsAwaited opened (act.Do h a) least y = Unit {0}
ActIsAwaited opened (act.Msg a said b heard) least y = TellsFrom opened b.0 least y y.line

abbrev pub LineIsAwaited : Opened → Line → ℕ → Ranked → Type 0
LineIsAwaited opened (line.Act x) least y = ActIsAwaited opened x least y
LineIsAwaited opened (line.If a g) least y = Unit {0}
LineIsAwaited opened (line.Else a) least y = Unit {0}
LineIsAwaited opened (line.For a r count) least y = Unit {0}
LineIsAwaited opened (line.End a) least y = Unit {0}

abbrev pub AllTellLater : Opened → Ranked → List Ranked → Type 0
AllTellLater opened x [] = Unit {0}
AllTellLater opened x (y ∷ ys) = LineIsAwaited opened x.line (next_round x.rank) y × AllTellLater opened x ys

abbrev pub EachTellsLater : Opened → List Ranked → Type 0
EachTellsLater opened [] = Unit {0}
EachTellsLater opened (x ∷ xs) = AllTellLater opened x xs × EachTellsLater opened xs

-- What a host compares, prints and opens is in a later round than what it awaited before in the text.
abbrev pub AnswersComeFirst : Type 0
AnswersComeFirst = (opened : Opened) (lines : List Line) → EachTellsLater opened (ranked opened nothing_left lines)

-- Tidy code in this order tells the same.
abbrev pub SortedCodeIsBroughtForward : Type 0
SortedCodeIsBroughtForward = (opened : Opened) (j : Joint) → IsTidy j → IsBroughtForward opened j (early_order opened (flat j []))
