-- Behind a packet nothing of its round needs it.
use Rattle.std.proofs.Common.{◌≡◌, ℕ, ◌<◌, ◌≤◌, nat_eq, nat_lt, Bool, true, false, ◌&&◌, ◌||◌, not, if◌then◌else◌, List, [], ◌∷◌, refl, sym, subst, arith}
use Rattle.std.proofs.lemmas.Bool.{eq-eqb, eqb-true}
use Rattle.vd_execution.specs.declared.instructions.Reg.{Reg}
use Rattle.vd_execution.specs.declared.instructions.Act.{Act}
use Rattle.vd_execution.specs.declared.instructions.Act.TheVariants as act
use Rattle.vd_execution.specs.declared.instructions.Line.{Line}
use Rattle.vd_execution.specs.declared.instructions.Line.TheVariants as line
use Rattle.vd_execution.specs.Text.{flat}
use Rattle.vd_reorder.specs.ReorderLawsTesting.{is_simple, meet, reads, writes}
use Rattle.vd_reorder.specs.Turning.{Turn, Does, Tells}
use Rattle.vd_choreography_reorder.specs.Testing.{Opened, may_turn, may_pass, stays_behind, tells_at}
use Rattle.vd_choreography_reorder.specs.Passing.{turn_of, passes}
use Rattle.vd_choreography_reorder.specs.declared.ranks.Ranked.{Ranked}
use Rattle.vd_choreography_reorder.specs.Ranks.{Table, nothing_left, telling_place, word_column, room_column, next_round, rank, left, line_rank, line_left, behind_line, ranked}
use Rattle.vd_choreography_reorder.specs.Sorting.{placed, in_order, LowerOnesPass, AreApart, NeedsNothingOf, LineNeedsNothing, IsOfNoNeed, NoneNeeds, NoneNeedTheRound, RoundsAreApart, TellsFrom, LineIsAwaited, AllTellLater, EachTellsLater, AnswersComeFirst}
use Rattle.vd_choreography_reorder.proofs.Sound.{both, is_not, then_not}
use Rattle.vd_choreography_reorder.proofs.Growing.{raised_at, awaited, awaited_grows, Grows, Have, have_grown, noted_have, words_left, filled_left, packet_after, later, sent, words_left_grows, filled_left_grows, line_grows}
use Rattle.vd_choreography_reorder.proofs.Ranking.{still, act_telling, packet_telling, act_reads, act_writes, packet_says, packet_hears, all_between, all_apart}

-- ---- what a packet leaves at its receiver is of the next round

pub record HeardLeaves (b : ℕ) (heard : List Reg) (m : ℕ) (e : Table) : Type 0 where
  pub words : Have (word_column b) heard m e
  pub filled : Have (room_column b) heard m e
  pub telling : m ≤ e (telling_place b)

same_le : (n : ℕ) → n ≤ n
same_le n = omega arith

heard_grown : (b : ℕ) (heard : List Reg) (m : ℕ) (d e : Table) → Grows d e → HeardLeaves b heard m d → HeardLeaves b heard m e
heard_grown b heard m d e g l = record {
  words = have_grown (word_column b) heard m m d e (same_le m) g l.words;
  filled = have_grown (room_column b) heard m m d e (same_le m) g l.filled;
  telling = still m (d (telling_place b)) (e (telling_place b)) l.telling (g (telling_place b));
}

packet_heard : (opens : Bool) (a : ℕ) (said : List Reg) (b : ℕ) (heard : List Reg) (n : ℕ) (d : Table)
    → HeardLeaves b heard (next_round n) (packet_after opens a said b heard n d)
packet_heard opens a said b heard n d =
    let m : ℕ = next_round n in
    let after : Table = packet_after opens a said b heard n d in
    record {
      words = have_grown (word_column b) heard m m (words_left opens a said b heard n d) after (same_le m) (words_left_grows opens a said b heard n d)
          (noted_have (word_column b) heard m (sent opens a said b heard n d));
      filled = have_grown (room_column b) heard m m (filled_left opens a said b heard n d) after (same_le m) (filled_left_grows opens a said b heard n d)
          (noted_have (room_column b) heard m (words_left opens a said b heard n d));
      telling = still m (awaited opens a said b heard n d (telling_place b)) (after (telling_place b))
          (raised_at (telling_place b) m (filled_left opens a said b heard n d)) (awaited_grows opens a said b heard n d (telling_place b));
    }

-- of an act, and of a line
abbrev pub ActHears : Act → ℕ → Table → Type 0
ActHears (act.Do h a) m e = Unit {0}
ActHears (act.Msg a said b heard) m e = HeardLeaves b.0 heard m e

abbrev pub LineHears : Line → ℕ → Table → Type 0
LineHears (line.Act x) m e = ActHears x m e
LineHears (line.If h g) m e = Unit {0}
LineHears (line.Else h) m e = Unit {0}
LineHears (line.For h r count) m e = Unit {0}
LineHears (line.End h) m e = Unit {0}

act_hears : (opened : Opened) (x : Act) (n : ℕ) (d : Table) → ActHears x (next_round n) (left opened (turn_of x) n d)
act_hears opened (act.Do h a) n d = tt
act_hears opened (act.Msg a said b heard) n d = packet_heard (meet said (opened a.0)) a.0 said b.0 heard n d

line_hears : (opened : Opened) (l : Line) (n : ℕ) (d : Table) → LineHears l (next_round n) (line_left opened l n d)
line_hears opened (line.Act x) n d = act_hears opened x n d
line_hears opened (line.If h g) n d = tt
line_hears opened (line.Else h) n d = tt
line_hears opened (line.For h r count) n d = tt
line_hears opened (line.End h) n d = tt

act_grown : (x : Act) (m : ℕ) (d e : Table) → Grows d e → ActHears x m d → ActHears x m e
act_grown (act.Do h a) m d e g l = tt
act_grown (act.Msg a said b heard) m d e g l = heard_grown b.0 heard m d e g l

hears_grown : (k : Line) (m : ℕ) (d e : Table) → Grows d e → LineHears k m d → LineHears k m e
hears_grown (line.Act x) m d e g l = act_grown x m d e g l
hears_grown (line.If h r) m d e g l = tt
hears_grown (line.Else h) m d e g l = tt
hears_grown (line.For h r count) m d e g l = tt
hears_grown (line.End h) m d e g l = tt

-- ---- what comes later in the text, and ranks in the round

not_met : (b : Bool) (m n : ℕ) → (b ≡ true → m ≤ n) → n < m → b ≡ false
not_met true m n f lt = let le = f refl in absurd (omega (arith, le, lt))
not_met false m n f lt = refl

later_turn : (opened : Opened) (h : ℕ) (heard : List Reg) (m : ℕ) (e : Table) (y : Turn) → HeardLeaves h heard m e → rank opened e y < m → NeedsNothingOf h heard y
later_turn opened h heard m e (Does g b) l lt = λ same. (
  not_met (meet (reads b) heard) m (rank opened e (Does g b))
      (λ met. act_reads e g b heard m met (subst (λ (k : ℕ). Have (word_column k) heard m e) (sym same) l.words)) lt,
  not_met (meet (writes b) heard) m (rank opened e (Does g b))
      (λ met. act_writes e g b heard m met (subst (λ (k : ℕ). Have (room_column k) heard m e) (sym same) l.filled)) lt,
)
later_turn opened h heard m e (Tells c says d hears) l lt = (
  λ same. not_met (meet says heard) m (rank opened e (Tells c says d hears))
      (λ met. packet_says (meet says (opened c)) e c says d hears heard m met (subst (λ (k : ℕ). Have (word_column k) heard m e) (sym same) l.words)) lt,
  λ same. not_met (meet hears heard) m (rank opened e (Tells c says d hears))
      (λ met. packet_hears (meet says (opened c)) e c says d hears heard m met (subst (λ (k : ℕ). Have (room_column k) heard m e) (sym same) l.filled)) lt,
)

later_line : (opened : Opened) (x l : Line) (m : ℕ) (e : Table) → LineHears x m e → line_rank opened e l < m → LineNeedsNothing x l
later_line opened (line.Act (act.Do h a)) l m e hears lt = tt
later_line opened (line.Act (act.Msg a said b heard)) (line.Act y) m e hears lt = later_turn opened b.0 heard m e (turn_of y) hears lt
later_line opened (line.Act (act.Msg a said b heard)) (line.If h g) m e hears lt = tt
later_line opened (line.Act (act.Msg a said b heard)) (line.Else h) m e hears lt = tt
later_line opened (line.Act (act.Msg a said b heard)) (line.For h r count) m e hears lt = tt
later_line opened (line.Act (act.Msg a said b heard)) (line.End h) m e hears lt = tt
later_line opened (line.If h g) l m e hears lt = tt
later_line opened (line.Else h) l m e hears lt = tt
later_line opened (line.For h r count) l m e hears lt = tt
later_line opened (line.End h) l m e hears lt = tt

-- ---- what came earlier, and was passed by the packet

then_both : (p q r : Bool) → (not p || (not q && not r)) ≡ true → p ≡ true → (q ≡ false) × (r ≡ false)
then_both true q r e t = let w = both (not q) (not r) e in (is_not q w.0, is_not r w.1)
then_both false q r e t = absurd cc

earlier_turn : (x : Turn) (a : ℕ) (said : List Reg) (b : ℕ) (heard : List Reg) → may_turn x (Tells a said b heard) ≡ true → NeedsNothingOf b heard x
earlier_turn (Does g c) a said b heard may =
    let rest = both (not (nat_eq a b)) _ may in
    let two = both (not (nat_eq g a) || not (meet said (writes c))) (not (nat_eq g b) || (not (meet (reads c) heard) && not (meet (writes c) heard))) rest.1 in
    λ same. then_both (nat_eq g b) (meet (reads c) heard) (meet (writes c) heard) two.1 (eq-eqb g b same)
earlier_turn (Tells c says d hears) a said b heard may =
    let rest = both (not (nat_eq c d) && not (nat_eq a b)) _ may in
    let two = both (not (nat_eq d a) || not (meet said hears)) _ rest.1 in
    let three = both (not (nat_eq b c) || not (meet says heard)) (not (nat_eq d b) || not (meet hears heard)) two.1 in (
      λ same. then_not (nat_eq b c) (meet says heard) three.0 (eq-eqb b c (sym same)),
      λ same. then_not (nat_eq d b) (meet hears heard) three.1 (eq-eqb d b same),
    )

-- the packet is the line that came later
earlier_line : (opened : Opened) (x l : Line) → passes (may_pass opened) x l ≡ true → LineNeedsNothing l x
earlier_line opened (line.Act x) (line.Act (act.Do h a)) may = tt
earlier_line opened (line.Act x) (line.Act (act.Msg a said b heard)) may =
    earlier_turn (turn_of x) a.0 said b.0 heard
    (both (may_turn (turn_of x) (Tells a.0 said b.0 heard)) (not (stays_behind opened (turn_of x) (Tells a.0 said b.0 heard))) may).0
earlier_line opened (line.Act x) (line.If h g) may = tt
earlier_line opened (line.Act x) (line.Else h) may = tt
earlier_line opened (line.Act x) (line.For h r count) may = tt
earlier_line opened (line.Act x) (line.End h) may = tt
earlier_line opened (line.If h g) l may = absurd cc
earlier_line opened (line.Else h) l may = absurd cc
earlier_line opened (line.For h r count) l may = absurd cc
earlier_line opened (line.End h) l may = absurd cc

-- ---- all pairs

-- in the order of the text, and the other way round where the second ranks lower
abbrev EitherWay : Ranked → Ranked → Type 0
EitherWay x y = IsOfNoNeed x y × (nat_lt y.rank x.rank ≡ true → IsOfNoNeed y x)

abbrev AllEitherWay : Ranked → List Ranked → Type 0
AllEitherWay x [] = Unit {0}
AllEitherWay x (y ∷ ys) = EitherWay x y × AllEitherWay x ys

abbrev EachEitherWay : List Ranked → Type 0
EachEitherWay [] = Unit {0}
EachEitherWay (x ∷ xs) = AllEitherWay x xs × EachEitherWay xs

module _ (opened : Opened) where
  with_later : (k : Line) (n : ℕ) (e : Table) (ls : List Line) → LineHears k (next_round n) e → LowerOnesPass opened (record { rank = n; line = k }) (ranked opened e ls)
      → AllEitherWay (record { rank = n; line = k }) (ranked opened e ls)
  with_later k n e [] hears pass = tt
  with_later k n e (l ∷ ls) hears pass =
      let d : Table = behind_line opened e l in (
        (λ lt. later_line opened k l (next_round n) e hears lt, λ lower lt. earlier_line opened k l (pass.0 lower)),
        with_later k n d ls (hears_grown k (next_round n) e d (line_grows opened l (line_rank opened e l) e) hears) pass.1,
      )

  each_pair : (d : Table) (ls : List Line) → AreApart opened (ranked opened d ls) → EachEitherWay (ranked opened d ls)
  each_pair d [] apart = tt
  each_pair d (l ∷ ls) apart =
      let n : ℕ = line_rank opened d l in
      (with_later l n (behind_line opened d l) ls (line_hears opened l n d) apart.0, each_pair (behind_line opened d l) ls apart.1)

-- ---- the sort

also_by : (x y z : Ranked) (zs : List Ranked) (b : Bool) → EitherWay x y → AllEitherWay x (z ∷ zs) → AllEitherWay x (placed y zs)
    → AllEitherWay x (if b then z ∷ placed y zs else y ∷ z ∷ zs)
also_by x y z zs true one all more = (all.0, more)
also_by x y z zs false one all more = (one, all)

also_placed : (x y : Ranked) (zs : List Ranked) → EitherWay x y → AllEitherWay x zs → AllEitherWay x (placed y zs)
also_placed x y [] one all = (one, tt)
also_placed x y (z ∷ zs) one all = also_by x y z zs (nat_lt z.rank y.rank) one all (also_placed x y zs one all.1)

also_in_order : (x : Ranked) (ys : List Ranked) → AllEitherWay x ys → AllEitherWay x (in_order ys)
also_in_order x [] all = tt
also_in_order x (y ∷ ys) all = also_placed x y (in_order ys) all.0 (also_in_order x ys all.1)

none_by : (x y z : Ranked) (zs : List Ranked) (b : Bool) → IsOfNoNeed z x → NoneNeeds z (y ∷ zs) → NoneNeeds z (placed x zs)
    → NoneNeeds z (if b then y ∷ placed x zs else x ∷ y ∷ zs)
none_by x y z zs true one all more = (all.0, more)
none_by x y z zs false one all more = (one, all)

none_placed : (x z : Ranked) (ys : List Ranked) → IsOfNoNeed z x → NoneNeeds z ys → NoneNeeds z (placed x ys)
none_placed x z [] one all = (one, tt)
none_placed x z (y ∷ ys) one all = none_by x y z ys (nat_lt y.rank x.rank) one all (none_placed x z ys one all.1)

first_none : (x : Ranked) (ys : List Ranked) → AllEitherWay x ys → NoneNeeds x ys
first_none x [] all = tt
first_none x (y ∷ ys) all = (all.0.0, first_none x ys all.1)

placed_by : (x y : Ranked) (ys : List Ranked) (b : Bool) → nat_lt y.rank x.rank ≡ b → AllEitherWay x (y ∷ ys) → NoneNeedTheRound (y ∷ ys) → NoneNeedTheRound (placed x ys)
    → NoneNeedTheRound (if b then y ∷ placed x ys else x ∷ y ∷ ys)
placed_by x y ys true lower all none more = (none_placed x y ys (all.0.1 lower) none.0, more)
placed_by x y ys false lower all none more = (first_none x (y ∷ ys) all, none)

placed_none : (x : Ranked) (ys : List Ranked) → AllEitherWay x ys → NoneNeedTheRound ys → NoneNeedTheRound (placed x ys)
placed_none x [] all none = (tt, tt)
placed_none x (y ∷ ys) all none = placed_by x y ys (nat_lt y.rank x.rank) refl all none (placed_none x ys all.1 none.1)

in_order_none : (xs : List Ranked) → EachEitherWay xs → NoneNeedTheRound (in_order xs)
in_order_none [] each = tt
in_order_none (x ∷ xs) each = placed_none x (in_order xs) (also_in_order x xs each.0) (in_order_none xs each.1)

pub apart_rounds : RoundsAreApart
apart_rounds opened j tidy =
    in_order_none (ranked opened nothing_left (flat j [])) (each_pair opened nothing_left (flat j []) (all_apart opened nothing_left (flat j []) (all_between j [] tidy tt)))

-- ---- what a host tells is later than what it awaited

later_told : (opened : Opened) (b : ℕ) (heard : List Reg) (m : ℕ) (e : Table) (y : Turn) → HeardLeaves b heard m e → tells_at opened b y ≡ true → m ≤ rank opened e y
later_told opened b heard m e (Does g c) l tells =
    let two = both (nat_eq b g) (not (is_simple c)) tells in
    still m (e (telling_place g)) (rank opened e (Does g c)) (subst (λ (k : ℕ). m ≤ e (telling_place k)) (eqb-true b g two.0) l.telling) (act_telling e g c two.1)
later_told opened b heard m e (Tells c says d hears) l tells =
    let two = both (nat_eq b c) (meet says (opened b)) tells in
    let same = eqb-true b c two.0 in
    still m (e (telling_place c)) (rank opened e (Tells c says d hears)) (subst (λ (k : ℕ). m ≤ e (telling_place k)) same l.telling)
    (packet_telling (meet says (opened c)) e c says d hears (subst (λ (k : ℕ). meet says (opened k) ≡ true) same two.1))

line_told : (opened : Opened) (b : ℕ) (heard : List Reg) (m : ℕ) (e : Table) (l : Line) → HeardLeaves b heard m e
    → TellsFrom opened b m (record { rank = line_rank opened e l; line = l }) l
line_told opened b heard m e (line.Act y) hears = later_told opened b heard m e (turn_of y) hears
line_told opened b heard m e (line.If a g) hears = tt
line_told opened b heard m e (line.Else a) hears = tt
line_told opened b heard m e (line.For a r count) hears = tt
line_told opened b heard m e (line.End a) hears = tt

awaited_line : (opened : Opened) (k l : Line) (m : ℕ) (e : Table) → LineHears k m e → LineIsAwaited opened k m (record { rank = line_rank opened e l; line = l })
awaited_line opened (line.Act (act.Do h a)) l m e hears = tt
awaited_line opened (line.Act (act.Msg a said b heard)) l m e hears = line_told opened b.0 heard m e l hears
awaited_line opened (line.If a g) l m e hears = tt
awaited_line opened (line.Else a) l m e hears = tt
awaited_line opened (line.For a r count) l m e hears = tt
awaited_line opened (line.End a) l m e hears = tt

module _ (opened : Opened) where
  all_later : (k : Line) (n : ℕ) (e : Table) (ls : List Line) → LineHears k (next_round n) e
      → AllTellLater opened (record { rank = n; line = k }) (ranked opened e ls)
  all_later k n e [] hears = tt
  all_later k n e (l ∷ ls) hears =
      let d : Table = behind_line opened e l in (
        awaited_line opened k l (next_round n) e hears,
        all_later k n d ls (hears_grown k (next_round n) e d (line_grows opened l (line_rank opened e l) e) hears),
      )

  each_later : (d : Table) (ls : List Line) → EachTellsLater opened (ranked opened d ls)
  each_later d [] = tt
  each_later d (l ∷ ls) =
      let n : ℕ = line_rank opened d l in
      (all_later l n (behind_line opened d l) ls (line_hears opened l n d), each_later (behind_line opened d l) ls)

pub answers_first : AnswersComeFirst
answers_first opened lines = each_later opened nothing_left lines
