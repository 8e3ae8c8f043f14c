-- Ranks are apart: what may not pass a line before it ranks no lower.
use Rattle.std.proofs.Common.{◌≡◌, ◌⊎◌, inl, inr, ◌≢◌, ℕ, ◌≤◌, nat_eq, nat_lt, max, Bool, true, false, ◌&&◌, ◌||◌, not, if◌then◌else◌, List, [], ◌∷◌, refl, sym, ap, ◌∙◌, subst, arith}
use Rattle.std.proofs.lemmas.Bool.{eqb-true, ne_eqb, ltb-true}
use Rattle.vd_base.specs.HostSets.{host}
use Rattle.vd_execution.specs.declared.instructions.Reg.{Reg}
use Rattle.vd_execution.specs.declared.instructions.Action.{Action}
use Rattle.vd_execution.specs.declared.instructions.Line.{Line}
use Rattle.vd_execution.specs.declared.instructions.Line.TheVariants as line
use Rattle.vd_execution.specs.Step.{Need, Nothing, Item, Packet, Unequal, Ended}
use Rattle.vd_execution.specs.Joint.{Part, Joint, Done, Do, Msg, If, For, IsTidy}
use Rattle.vd_execution.specs.Text.{each_then, flat, register}
use Rattle.vd_reorder.specs.ReorderLawsTesting.{is_simple, meet, needs, reads, writes, share_list, both_may}
use Rattle.vd_reorder.specs.Turning.{Turn, Does, Tells}
use Rattle.vd_reorder.proofs.Front.{meet_turned}
use Rattle.vd_choreography_reorder.specs.Testing.{Opened, acts_apart, is_beside, are_beside, may_turn, may_pass, teller, tells_at, awaits_at, stays_behind}
use Rattle.vd_choreography_reorder.specs.Passing.{turn_of, passes}
use Rattle.vd_choreography_reorder.specs.Ranks.{Table, nothing_left, floor_place, top_place, telling_place, taking_place, word_column, room_column, deepest, held, takes_item, act_floor, act_rank, packet_floor, packet_rank, rank, line_rank, behind_line, ranked}
use Rattle.vd_choreography_reorder.specs.Sorting.{LowerOnesPass, AreApart, RanksAreApart}
use Rattle.vd_choreography_reorder.proofs.Sound.{both}
use Rattle.vd_choreography_reorder.proofs.Growing.{Have, deepest_from, deepest_of, ActLeaves, PacketLeaves, Leaves, MarkLeaves, LineLeaves, line_leaves, line_grown, line_grows}

-- ---- tests that say no

pub not_yes : (b : Bool) → not b ≡ false → b ≡ true
not_yes true e = refl
not_yes false e = absurd cc

one_no : (a b : Bool) → (a && b) ≡ false → (a ≡ false) ⊎ (b ≡ false)
one_no true b e = inr e
one_no false b e = inl refl

pub neither : (a b : Bool) → (a || b) ≡ false → (a ≡ false) × (b ≡ false)
neither true b e = absurd cc
neither false b e = (refl, e)

second_no : (a b : Bool) → (a && b) ≡ false → a ≡ true → b ≡ false
second_no true b e t = e
second_no false b e t = absurd cc

one_yes : (a b : Bool) → (a || b) ≡ true → (a ≡ true) ⊎ (b ≡ true)
one_yes true b e = inl refl
one_yes false b e = inr e

-- of what is asked one after the other
unless : (b t : Bool) → (if b then false else t) ≡ false → (b ≡ true) ⊎ (t ≡ false)
unless true t e = inl refl
unless false t e = inr e

at_last : (b : Bool) → (if b then false else true) ≡ false → b ≡ true
at_last true e = refl
at_last false e = absurd cc

shared : (m k : Need) → share_list m k ≡ true → (takes_item m ≡ true) × (takes_item k ≡ true)
shared Nothing k e = absurd cc
shared (Item s) Nothing e = absurd cc
shared (Item s) (Item r) e = (refl, refl)
shared (Item s) (Packet p n) e = absurd cc
shared (Item s) (Unequal x y) e = absurd cc
shared (Item s) Ended e = absurd cc
shared (Packet p n) k e = absurd cc
shared (Unequal x y) k e = absurd cc
shared Ended k e = absurd cc

pub still : (n m k : ℕ) → n ≤ m → m ≤ k → n ≤ k
still n m k a b = omega (arith, a, b)

held_there : (b : Bool) (p : ℕ) (d : Table) → b ≡ true → d p ≤ held b p d
held_there true p d is = omega arith
held_there false p d is = absurd cc

-- ---- behind what an act stands

module _ (e : Table) (h : ℕ) (b : Action) where
  abbrev behind_words : ℕ
  behind_words = deepest e (word_column h) (act_floor e h b) (reads b)

  over_floor : act_floor e h b ≤ act_rank e h b
  over_floor =
      let x = deepest_from e (word_column h) (act_floor e h b) (reads b) in let y = deepest_from e (room_column h) behind_words (writes b) in
      still (act_floor e h b) behind_words (act_rank e h b) x y

  act_floor_place : e floor_place ≤ act_rank e h b
  act_floor_place =
      let first : ℕ = held (takes_item (needs b)) (taking_place h) e in
      let second : ℕ = held (not (is_simple b)) (telling_place h) e in
      still (e floor_place) (max (max (e floor_place) first) second) (act_rank e h b) (omega arith) over_floor

  act_taking : takes_item (needs b) ≡ true → e (taking_place h) ≤ act_rank e h b
  act_taking is =
      let first : ℕ = held (takes_item (needs b)) (taking_place h) e in
      let second : ℕ = held (not (is_simple b)) (telling_place h) e in
      still (e (taking_place h)) first (act_rank e h b) (held_there (takes_item (needs b)) (taking_place h) e is)
      (still first (max (max (e floor_place) first) second) (act_rank e h b) (omega arith) over_floor)

  pub act_telling : not (is_simple b) ≡ true → e (telling_place h) ≤ act_rank e h b
  act_telling is =
      let first : ℕ = held (takes_item (needs b)) (taking_place h) e in
      let second : ℕ = held (not (is_simple b)) (telling_place h) e in
      still (e (telling_place h)) second (act_rank e h b) (held_there (not (is_simple b)) (telling_place h) e is)
      (still second (max (max (e floor_place) first) second) (act_rank e h b) (omega arith) over_floor)

  pub act_reads : (qs : List Reg) (n : ℕ) → meet (reads b) qs ≡ true → Have (word_column h) qs n e → n ≤ act_rank e h b
  act_reads qs n m have =
      still n behind_words (act_rank e h b) (deepest_of e (word_column h) (act_floor e h b) (reads b) qs n m have)
      (deepest_from e (room_column h) behind_words (writes b))

  pub act_writes : (qs : List Reg) (n : ℕ) → meet (writes b) qs ≡ true → Have (room_column h) qs n e → n ≤ act_rank e h b
  act_writes qs n m have = deepest_of e (room_column h) behind_words (writes b) qs n m have

-- ---- behind what a packet stands

module _ (opens : Bool) (e : Table) (c : ℕ) (says : List Reg) (d : ℕ) (hears : List Reg) where
  abbrev behind_said : ℕ
  behind_said = deepest e (word_column c) (packet_floor opens e c) says

  abbrev behind_both : ℕ
  behind_both = deepest e (room_column d) behind_said hears

  over_both : behind_both ≤ packet_rank opens e c says d hears
  over_both = omega arith

  over_packet_floor : packet_floor opens e c ≤ packet_rank opens e c says d hears
  over_packet_floor =
      still (packet_floor opens e c) behind_said (packet_rank opens e c says d hears) (deepest_from e (word_column c) (packet_floor opens e c) says)
      (still behind_said behind_both (packet_rank opens e c says d hears) (deepest_from e (room_column d) behind_said hears) over_both)

  packet_floor_place : e floor_place ≤ packet_rank opens e c says d hears
  packet_floor_place =
      let second : ℕ = held opens (telling_place c) e in
      still (e floor_place) (max (e floor_place) second) (packet_rank opens e c says d hears) (omega arith) over_packet_floor

  pub packet_telling : opens ≡ true → e (telling_place c) ≤ packet_rank opens e c says d hears
  packet_telling is =
      let second : ℕ = held opens (telling_place c) e in
      still (e (telling_place c)) second (packet_rank opens e c says d hears) (held_there opens (telling_place c) e is)
      (still second (max (e floor_place) second) (packet_rank opens e c says d hears) (omega arith) over_packet_floor)

  pub packet_says : (qs : List Reg) (n : ℕ) → meet says qs ≡ true → Have (word_column c) qs n e → n ≤ packet_rank opens e c says d hears
  packet_says qs n m have =
      still n behind_said (packet_rank opens e c says d hears) (deepest_of e (word_column c) (packet_floor opens e c) says qs n m have)
      (still behind_said behind_both (packet_rank opens e c says d hears) (deepest_from e (room_column d) behind_said hears) over_both)

  pub packet_hears : (qs : List Reg) (n : ℕ) → meet hears qs ≡ true → Have (room_column d) qs n e → n ≤ packet_rank opens e c says d hears
  packet_hears qs n m have = still n behind_both (packet_rank opens e c says d hears) (deepest_of e (room_column d) behind_said hears qs n m have) over_both

turned : (xs ys : List Reg) → meet xs ys ≡ true → meet ys xs ≡ true
turned xs ys m = sym (meet_turned xs ys) ∙ m

-- ---- neighbours that may not turn

-- a message is between two hosts
abbrev pub IsBetween : Turn → Type 0
IsBetween (Does h a) = Unit {0}
IsBetween (Tells a said b heard) = a ≢ b

-- two acts of one host
at_one : (h : ℕ) (a b : Action) (n : ℕ) (e : Table) → ActLeaves h a n e → acts_apart a b ≡ false → n ≤ act_rank e h b
at_one h a b n e l refused =
    elim (one_no (is_simple a || is_simple b) (both_may a b) refused) [
      | inl tell ↦
          let two = neither (is_simple a) (is_simple b) tell in
          still n (e (telling_place h)) (act_rank e h b) (l.telling (ap not two.0)) (act_telling e h b (ap not two.1))
      | inr need ↦ elim (unless (share_list (needs a) (needs b)) _ need) [
        | inl share ↦
            let both_take = shared (needs a) (needs b) share in
            still n (e (taking_place h)) (act_rank e h b) (l.taking both_take.0) (act_taking e h b both_take.1)
        | inr more ↦ elim (unless (meet (reads b) (writes a)) _ more) [
          | inl m ↦ act_reads e h b (writes a) n m l.words
          | inr again ↦ elim (unless (meet (reads a) (writes b)) _ again) [
            | inl m ↦ act_writes e h b (reads a) n (turned (reads a) (writes b) m) l.read
            | inr last ↦ act_writes e h b (writes a) n (turned (writes a) (writes b) (at_last (meet (writes a) (writes b)) last)) l.filled
          ]
        ]
      ]
    ]

-- why an act and a message do not turn
abbrev Clash : ℕ → Action → ℕ → List Reg → ℕ → List Reg → Type 0
Clash h a from said to heard =
    ((h ≡ from) × (meet said (writes a) ≡ true)) ⊎ (((h ≡ to) × (meet (reads a) heard ≡ true)) ⊎ ((h ≡ to) × (meet (writes a) heard ≡ true)))

clash : (h : ℕ) (a : Action) (from : ℕ) (said : List Reg) (to : ℕ) (heard : List Reg) → from ≢ to → is_beside h a from said to heard ≡ false → Clash h a from said to heard
clash h a from said to heard apart refused =
    let differ : not (nat_eq from to) ≡ true = ap not (ne_eqb from to apart) in
    let rest = second_no (not (nat_eq from to)) _ refused differ in
    elim (one_no (not (nat_eq h from) || not (meet said (writes a))) (not (nat_eq h to) || (not (meet (reads a) heard) && not (meet (writes a) heard))) rest) [
      | inl at_sender ↦
          let two = neither (not (nat_eq h from)) (not (meet said (writes a))) at_sender in
          inl (eqb-true h from (not_yes (nat_eq h from) two.0), not_yes (meet said (writes a)) two.1)
      | inr at_receiver ↦
          let two = neither (not (nat_eq h to)) (not (meet (reads a) heard) && not (meet (writes a) heard)) at_receiver in
          let same = eqb-true h to (not_yes (nat_eq h to) two.0) in
          elim (one_no (not (meet (reads a) heard)) (not (meet (writes a) heard)) two.1) [
            | inl m ↦ inr (inl (same, not_yes (meet (reads a) heard) m))
            | inr m ↦ inr (inr (same, not_yes (meet (writes a) heard) m))
          ]
    ]

act_first : (h : ℕ) (a : Action) (opens : Bool) (from : ℕ) (said : List Reg) (to : ℕ) (heard : List Reg) (n : ℕ) (e : Table) → ActLeaves h a n e
    → Clash h a from said to heard → n ≤ packet_rank opens e from said to heard
act_first h a opens from said to heard n e l (inl x) =
    packet_says opens e from said to heard (writes a) n x.1 (subst (λ (k : ℕ). Have (word_column k) (writes a) n e) x.0 l.words)
act_first h a opens from said to heard n e l (inr (inl x)) =
    packet_hears opens e from said to heard (reads a) n (turned (reads a) heard x.1) (subst (λ (k : ℕ). Have (room_column k) (reads a) n e) x.0 l.read)
act_first h a opens from said to heard n e l (inr (inr x)) =
    packet_hears opens e from said to heard (writes a) n (turned (writes a) heard x.1) (subst (λ (k : ℕ). Have (room_column k) (writes a) n e) x.0 l.filled)

message_first : (h : ℕ) (a : Action) (opens : Bool) (from : ℕ) (said : List Reg) (to : ℕ) (heard : List Reg) (n : ℕ) (e : Table)
    → PacketLeaves opens from said to heard n e → Clash h a from said to heard → n ≤ act_rank e h a
message_first h a opens from said to heard n e l (inl x) =
    act_writes e h a said n (turned said (writes a) x.1) (subst (λ (k : ℕ). Have (room_column k) said n e) (sym x.0) l.read)
message_first h a opens from said to heard n e l (inr (inl x)) =
    act_reads e h a heard n x.1 (subst (λ (k : ℕ). Have (word_column k) heard n e) (sym x.0) l.words)
message_first h a opens from said to heard n e l (inr (inr x)) =
    act_writes e h a heard n x.1 (subst (λ (k : ℕ). Have (room_column k) heard n e) (sym x.0) l.filled)

two_messages : (opened : Opened) (a : ℕ) (said : List Reg) (b : ℕ) (heard : List Reg) (c : ℕ) (says : List Reg) (d : ℕ) (hears : List Reg) (opens : Bool) (n : ℕ) (e : Table)
    → a ≢ b → c ≢ d → PacketLeaves (meet said (opened a)) a said b heard n e → are_beside a said b heard c says d hears ≡ false → n ≤ packet_rank opens e c says d hears
two_messages opened a said b heard c says d hears opens n e ab cd l refused =
    let differ : (not (nat_eq a b) && not (nat_eq c d)) ≡ true =
    ap (λ (p : Bool). not p && not (nat_eq c d)) (ne_eqb a b ab) ∙ ap not (ne_eqb c d cd) in
    let rest = second_no (not (nat_eq a b) && not (nat_eq c d)) _ refused differ in
    elim (one_no (not (nat_eq b c) || not (meet says heard)) _ rest) [
      | inl x ↦
          let two = neither (not (nat_eq b c)) (not (meet says heard)) x in
          packet_says opens e c says d hears heard n (not_yes (meet says heard) two.1)
          (subst (λ (k : ℕ). Have (word_column k) heard n e) (eqb-true b c (not_yes (nat_eq b c) two.0)) l.words)
      | inr more ↦ elim (one_no (not (nat_eq d a) || not (meet said hears)) (not (nat_eq b d) || not (meet heard hears)) more) [
        | inl x ↦
            let two = neither (not (nat_eq d a)) (not (meet said hears)) x in
            packet_hears opens e c says d hears said n (turned said hears (not_yes (meet said hears) two.1))
            (subst (λ (k : ℕ). Have (room_column k) said n e) (sym (eqb-true d a (not_yes (nat_eq d a) two.0))) l.read)
        | inr x ↦
            let two = neither (not (nat_eq b d)) (not (meet heard hears)) x in
            packet_hears opens e c says d hears heard n (turned heard hears (not_yes (meet heard hears) two.1))
            (subst (λ (k : ℕ). Have (room_column k) heard n e) (eqb-true b d (not_yes (nat_eq b d) two.0)) l.filled)
      ]
    ]

module _ (opened : Opened) (n : ℕ) (e : Table) where
  -- neighbours that may not turn
  turn_clash : (x y : Turn) → IsBetween x → IsBetween y → Leaves opened x n e → may_turn x y ≡ false → n ≤ rank opened e y
  turn_clash (Does g a) (Does h b) bx by_ l refused =
      let two = neither (not (nat_eq g h)) (acts_apart a b) refused in
      at_one h a b n e (subst (λ (k : ℕ). ActLeaves k a n e) (eqb-true g h (not_yes (nat_eq g h) two.0)) l) two.1
  turn_clash (Does h a) (Tells from said to heard) bx by_ l refused =
      act_first h a (meet said (opened from)) from said to heard n e l (clash h a from said to heard by_ refused)
  turn_clash (Tells from said to heard) (Does h a) bx by_ l refused =
      message_first h a (meet said (opened from)) from said to heard n e l (clash h a from said to heard bx refused)
  turn_clash (Tells a said b heard) (Tells c says d hears) bx by_ l refused =
      two_messages opened a said b heard c says d hears (meet says (opened c)) n e bx by_ l refused

  -- a host tells the second, and has told or awaited the first
  told_behind : (y : Turn) → tells_at opened (teller y) y ≡ true → e (telling_place (teller y)) ≤ rank opened e y
  told_behind (Does h b) tells = act_telling e h b (both (nat_eq h h) (not (is_simple b)) tells).1
  told_behind (Tells c says d hears) tells = packet_telling (meet says (opened c)) e c says d hears (both (nat_eq c c) (meet says (opened c)) tells).1

  told_first : (h : ℕ) (x : Turn) → tells_at opened h x ≡ true → Leaves opened x n e → n ≤ e (telling_place h)
  told_first h (Does g a) tells l =
      let two = both (nat_eq h g) (not (is_simple a)) tells in subst (λ (k : ℕ). n ≤ e (telling_place k)) (sym (eqb-true h g two.0)) (l.telling two.1)
  told_first h (Tells a said b heard) tells l =
      let two = both (nat_eq h a) (meet said (opened h)) tells in
      let same = eqb-true h a two.0 in
      subst (λ (k : ℕ). n ≤ e (telling_place k)) (sym same) (l.telling (subst (λ (k : ℕ). meet said (opened k) ≡ true) same two.1))

  awaited_first : (h : ℕ) (x : Turn) → awaits_at h x ≡ true → Leaves opened x n e → n ≤ e (telling_place h)
  awaited_first h (Does g a) awaits l = absurd cc
  awaited_first h (Tells a said b heard) awaits l = subst (λ (k : ℕ). n ≤ e (telling_place k)) (sym (eqb-true h b awaits)) l.awaiting

  stays_clash : (x y : Turn) → Leaves opened x n e → stays_behind opened x y ≡ true → n ≤ rank opened e y
  stays_clash x y l yes_ =
      let two = both (tells_at opened (teller y) y) (tells_at opened (teller y) x || awaits_at (teller y) x) yes_ in
      let behind = told_behind y two.0 in
      elim (one_yes (tells_at opened (teller y) x) (awaits_at (teller y) x) two.1) [
        | inl told ↦ still n (e (telling_place (teller y))) (rank opened e y) (told_first (teller y) x told l) behind
        | inr awaits ↦ still n (e (telling_place (teller y))) (rank opened e y) (awaited_first (teller y) x awaits l) behind
      ]

  clashes : (x y : Turn) → IsBetween x → IsBetween y → Leaves opened x n e → may_pass opened x y ≡ false → n ≤ rank opened e y
  clashes x y bx by_ l refused =
      elim (one_no (may_turn x y) (not (stays_behind opened x y)) refused) [
        | inl turn ↦ turn_clash x y bx by_ l turn
        | inr stays ↦ stays_clash x y l (not_yes (stays_behind opened x y) stays)
      ]

  -- ---- lines

  over_floor_place : (y : Turn) → e floor_place ≤ rank opened e y
  over_floor_place (Does h b) = act_floor_place e h b
  over_floor_place (Tells c says d hears) = packet_floor_place (meet says (opened c)) e c says d hears

  over_top : n ≤ e top_place → n ≤ line_rank opened e (line.End (host 0))
  over_top top = omega (arith, top)

abbrev pub AreBetween : Line → Type 0
AreBetween (line.Act x) = IsBetween (turn_of x)
AreBetween (line.If a g) = Unit {0}
AreBetween (line.Else a) = Unit {0}
AreBetween (line.For a r count) = Unit {0}
AreBetween (line.End a) = Unit {0}

abbrev pub AllAreBetween : List Line → Type 0
AllAreBetween [] = Unit {0}
AllAreBetween (l ∷ ls) = AreBetween l × AllAreBetween ls

module _ (opened : Opened) (n : ℕ) (e : Table) where
  behind_mark : (l : Line) → MarkLeaves n e → n ≤ line_rank opened e l
  behind_mark (line.Act y) m = still n (e floor_place) (rank opened e (turn_of y)) m.0 (over_floor_place opened n e (turn_of y))
  behind_mark (line.If a g) m = over_top opened n e m.1
  behind_mark (line.Else a) m = over_top opened n e m.1
  behind_mark (line.For a r count) m = over_top opened n e m.1
  behind_mark (line.End a) m = over_top opened n e m.1

  no_lower : (k l : Line) → AreBetween k → AreBetween l → LineLeaves opened k n e → passes (may_pass opened) k l ≡ false → n ≤ line_rank opened e l
  no_lower (line.Act x) (line.Act y) bk bl l refused = clashes opened n e (turn_of x) (turn_of y) bk bl l.0 refused
  no_lower (line.Act x) (line.If a g) bk bl l refused = over_top opened n e l.1
  no_lower (line.Act x) (line.Else a) bk bl l refused = over_top opened n e l.1
  no_lower (line.Act x) (line.For a r count) bk bl l refused = over_top opened n e l.1
  no_lower (line.Act x) (line.End a) bk bl l refused = over_top opened n e l.1
  no_lower (line.If a g) l bk bl m refused = behind_mark l m
  no_lower (line.Else a) l bk bl m refused = behind_mark l m
  no_lower (line.For a r count) l bk bl m refused = behind_mark l m
  no_lower (line.End a) l bk bl m refused = behind_mark l m

lower_passes : (b : Bool) (n m : ℕ) → (b ≡ false → n ≤ m) → nat_lt m n ≡ true → b ≡ true
lower_passes true n m refused lower = refl
lower_passes false n m refused lower = let le = refused refl in let lt = ltb-true m n lower in absurd (omega (arith, le, lt))

module _ (opened : Opened) where
  pub lower_ones : (k : Line) (n : ℕ) (e : Table) (ls : List Line) → AreBetween k → AllAreBetween ls → LineLeaves opened k n e
      → LowerOnesPass opened (record { rank = n; line = k }) (ranked opened e ls)
  lower_ones k n e [] bk all l = tt
  lower_ones k n e (m ∷ ms) bk all l =
      let d : Table = behind_line opened e m in (
        lower_passes (passes (may_pass opened) k m) n (line_rank opened e m) (no_lower opened n e k m bk all.0 l),
        lower_ones k n d ms bk all.1 (line_grown opened k n e d (line_grows opened m (line_rank opened e m) e) l),
      )

  pub all_apart : (d : Table) (ls : List Line) → AllAreBetween ls → AreApart opened (ranked opened d ls)
  all_apart d [] all = tt
  all_apart d (l ∷ ls) all =
      let n : ℕ = line_rank opened d l in
      (lower_ones l n (behind_line opened d l) ls all.0 all.1 (line_leaves opened l n d), all_apart (behind_line opened d l) ls all.1)

-- ---- messages of tidy code are between two hosts

each_between : (ps : List Part) (mark : Part → Line) (behind : List Line) → ((p : Part) → AreBetween (mark p)) → AllAreBetween behind
    → AllAreBetween (each_then ps mark behind)
each_between [] mark behind one all = all
each_between (p ∷ ps) mark behind one all = (one p, each_between ps mark behind one all)

pub all_between : (j : Joint) (behind : List Line) → IsTidy j → AllAreBetween behind → AllAreBetween (flat j behind)
all_between Done behind tidy all = all
all_between (Do h a j) behind tidy all = (tt, all_between j behind tidy all)
all_between (Msg a said b heard j) behind tidy all = (tidy.0, all_between j behind tidy.1.1 all)
all_between (If ps first other j) behind tidy all =
    each_between ps (λ p. line.If (host p.0) (register p.1)) _ (λ p. tt)
    (all_between first _ tidy.1.0
    (each_between ps (λ p. line.Else (host p.0)) _ (λ p. tt)
    (all_between other _ tidy.1.1.0
    (each_between ps (λ p. line.End (host p.0)) (flat j behind) (λ p. tt) (all_between j behind tidy.1.1.1 all)))))
all_between (For ps count body j) behind tidy all =
    each_between ps (λ p. line.For (host p.0) (register p.1) count) _ (λ p. tt)
    (all_between body _ tidy.1.0
    (each_between ps (λ p. line.End (host p.0)) (flat j behind) (λ p. tt) (all_between j behind tidy.1.1 all)))

pub apart_ranks : RanksAreApart
apart_ranks opened j tidy = all_apart opened nothing_left (flat j []) (all_between j [] tidy tt)
