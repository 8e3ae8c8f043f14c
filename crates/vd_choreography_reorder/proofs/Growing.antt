-- The table of ranks only grows, and what a line leaves in it stays.
use Rattle.std.proofs.Common.{◌≡◌, inl, inr, ℕ, ◌≤◌, nat_eq, max, Bool, true, false, not, if◌then◌else◌, List, [], ◌∷◌, refl, sym, subst, arith}
use Rattle.std.proofs.lemmas.Bool.{eqb-true}
use Rattle.vd_execution.specs.declared.instructions.Reg.{Reg}
use Rattle.vd_execution.specs.declared.instructions.Action.{Action}
use Rattle.vd_execution.specs.declared.instructions.Line.{Line}
use Rattle.vd_execution.specs.declared.instructions.Line.TheVariants as line
use Rattle.vd_execution.proofs.Front.{same_or_not, put_same, put_other}
use Rattle.vd_reorder.specs.ReorderLawsTesting.{is_simple, has, meet, needs, reads, writes}
use Rattle.vd_reorder.specs.Turning.{Turn, Does, Tells}
use Rattle.vd_choreography_reorder.specs.Testing.{Opened}
use Rattle.vd_choreography_reorder.specs.Passing.{turn_of}
use Rattle.vd_choreography_reorder.specs.Ranks.{Table, floor_place, top_place, telling_place, taking_place, word_column, room_column, place_of, deepest, raised, raised_if, noted, next_round, takes_item, rank, left, mark_left, line_left}

-- ---- the table grows

abbrev pub Grows : Table → Table → Type 0
Grows d e = (p : ℕ) → d p ≤ e p

pub grown : (d e f : Table) → Grows d e → Grows e f → Grows d f
grown d e f g h p = let a = g p in let b = h p in omega (arith, a, b)

pub stays : (d : Table) → Grows d d
stays d p = omega arith

pub raised_at : (p n : ℕ) (d : Table) → n ≤ raised p n d p
raised_at p n d = subst (λ (k : ℕ). n ≤ k) (sym (put_same d p (max n (d p)))) (omega arith)

raised_there : (p n : ℕ) (d : Table) → d p ≤ raised p n d p
raised_there p n d = subst (λ (k : ℕ). d p ≤ k) (sym (put_same d p (max n (d p)))) (omega arith)

pub raised_grows : (p n : ℕ) (d : Table) → Grows d (raised p n d)
raised_grows p n d q =
    elim (same_or_not q p) [
      | inl e ↦ subst (λ (k : ℕ). d k ≤ raised p n d k) (sym e) (raised_there p n d)
      | inr ne ↦ subst (λ (k : ℕ). d q ≤ k) (sym (put_other d p (max n (d p)) q ne)) (stays d q)
    ]

pub raised_if_grows : (b : Bool) (p n : ℕ) (d : Table) → Grows d (raised_if b p n d)
raised_if_grows true p n d = raised_grows p n d
raised_if_grows false p n d = stays d

raised_if_at : (b : Bool) (p n : ℕ) (d : Table) → b ≡ true → n ≤ raised_if b p n d p
raised_if_at true p n d is = raised_at p n d
raised_if_at false p n d is = absurd cc

pub noted_grows : (c : ℕ) (rs : List Reg) (n : ℕ) (d : Table) → Grows d (noted c rs n d)
noted_grows c [] n d = stays d
noted_grows c (r ∷ rs) n d =
    let e : Table = raised (place_of c r.0) n d in grown d e (noted c rs n e) (raised_grows (place_of c r.0) n d) (noted_grows c rs n e)

-- ---- some registers have at least a rank

abbrev pub Have : ℕ → List Reg → ℕ → Table → Type 0
Have c [] n d = Unit {0}
Have c (r ∷ rs) n d = (n ≤ d (place_of c r.0)) × Have c rs n d

pub have_grown : (c : ℕ) (rs : List Reg) (n m : ℕ) (d e : Table) → n ≤ m → Grows d e → Have c rs m d → Have c rs n e
have_grown c [] n m d e le g h = tt
have_grown c (r ∷ rs) n m d e le g h =
    let a = g (place_of c r.0) in let b = h.0 in (omega (arith, a, b, le), have_grown c rs n m d e le g h.1)

pub noted_have : (c : ℕ) (rs : List Reg) (n : ℕ) (d : Table) → Have c rs n (noted c rs n d)
noted_have c [] n d = tt
noted_have c (r ∷ rs) n d =
    let e : Table = raised (place_of c r.0) n d in
    let a = raised_at (place_of c r.0) n d in
    let b = noted_grows c rs n e (place_of c r.0) in
    (omega (arith, a, b), noted_have c rs n e)

-- the greatest rank of some registers is at least that of a register that they have in common with others
pub deepest_from : (d : Table) (c n : ℕ) (rs : List Reg) → n ≤ deepest d c n rs
deepest_from d c n [] = omega arith
deepest_from d c n (r ∷ rs) = let a = deepest_from d c (max n (d (place_of c r.0))) rs in omega (arith, a)

either_way : (n m : ℕ) (b t : Bool) → (if b then true else t) ≡ true → (b ≡ true → n ≤ m) → (t ≡ true → n ≤ m) → n ≤ m
either_way n m true t e f g = f refl
either_way n m false t e f g = g e

has_rank : (d : Table) (c : ℕ) (r : Reg) (qs : List Reg) (n : ℕ) → has r qs ≡ true → Have c qs n d → n ≤ d (place_of c r.0)
has_rank d c r [] n e h = absurd cc
has_rank d c r (q ∷ qs) n e h =
    either_way n (d (place_of c r.0)) (nat_eq r.0 q.0) (has r qs) e
    (λ same. subst (λ (k : ℕ). n ≤ d (place_of c k)) (sym (eqb-true r.0 q.0 same)) h.0)
    (λ more. has_rank d c r qs n more h.1)

pub deepest_of : (d : Table) (c m : ℕ) (rs qs : List Reg) (n : ℕ) → meet rs qs ≡ true → Have c qs n d → n ≤ deepest d c m rs
deepest_of d c m [] qs n e h = absurd cc
deepest_of d c m (r ∷ rs) qs n e h =
    let next : ℕ = max m (d (place_of c r.0)) in
    either_way n (deepest d c next rs) (has r qs) (meet rs qs) e
    (λ here. let a = has_rank d c r qs n here h in let b = deepest_from d c next rs in omega (arith, a, b))
    (λ more. deepest_of d c next rs qs n more h)

-- ---- what a line leaves

pub record ActLeaves (h : ℕ) (a : Action) (n : ℕ) (e : Table) : Type 0 where
  pub words : Have (word_column h) (writes a) n e
  pub filled : Have (room_column h) (writes a) n e
  pub read : Have (room_column h) (reads a) n e
  pub telling : not (is_simple a) ≡ true → n ≤ e (telling_place h)
  pub taking : takes_item (needs a) ≡ true → n ≤ e (taking_place h)

pub record PacketLeaves (opens : Bool) (a : ℕ) (said : List Reg) (b : ℕ) (heard : List Reg) (n : ℕ) (e : Table) : Type 0 where
  pub words : Have (word_column b) heard n e
  pub filled : Have (room_column b) heard n e
  pub read : Have (room_column a) said n e
  pub telling : opens ≡ true → n ≤ e (telling_place a)
  pub awaiting : n ≤ e (telling_place b)

abbrev pub Leaves : Opened → Turn → ℕ → Table → Type 0
Leaves opened (Does h a) n e = ActLeaves h a n e
Leaves opened (Tells a said b heard) n e = PacketLeaves (meet said (opened a)) a said b heard n e

same_le : (n : ℕ) → n ≤ n
same_le n = omega arith

still : (n m k : ℕ) → n ≤ m → m ≤ k → n ≤ k
still n m k a b = omega (arith, a, b)

pub leaves_grown : (opened : Opened) (x : Turn) (n : ℕ) (d e : Table) → Grows d e → Leaves opened x n d → Leaves opened x n e
leaves_grown opened (Does h a) n d e g l = record {
  words = have_grown (word_column h) (writes a) n n d e (same_le n) g l.words;
  filled = have_grown (room_column h) (writes a) n n d e (same_le n) g l.filled;
  read = have_grown (room_column h) (reads a) n n d e (same_le n) g l.read;
  telling = λ is. still n (d (telling_place h)) (e (telling_place h)) (l.telling is) (g (telling_place h));
  taking = λ is. still n (d (taking_place h)) (e (taking_place h)) (l.taking is) (g (taking_place h));
}
leaves_grown opened (Tells a said b heard) n d e g l = record {
  words = have_grown (word_column b) heard n n d e (same_le n) g l.words;
  filled = have_grown (room_column b) heard n n d e (same_le n) g l.filled;
  read = have_grown (room_column a) said n n d e (same_le n) g l.read;
  telling = λ is. still n (d (telling_place a)) (e (telling_place a)) (l.telling is) (g (telling_place a));
  awaiting = still n (d (telling_place b)) (e (telling_place b)) l.awaiting (g (telling_place b));
}

module _ (h : ℕ) (a : Action) (n : ℕ) (d : Table) where
  abbrev act_words : Table
  act_words = noted (word_column h) (writes a) n d

  abbrev act_filled : Table
  act_filled = noted (room_column h) (writes a) n act_words

  abbrev act_read : Table
  act_read = noted (room_column h) (reads a) n act_filled

  abbrev act_told : Table
  act_told = raised_if (not (is_simple a)) (telling_place h) n act_read

  abbrev act_taken : Table
  act_taken = raised_if (takes_item (needs a)) (taking_place h) n act_told

  abbrev act_after : Table
  act_after = raised top_place n act_taken

  taken_grows : Grows act_taken act_after
  taken_grows = raised_grows top_place n act_taken

  told_grows : Grows act_told act_after
  told_grows = grown act_told act_taken act_after (raised_if_grows (takes_item (needs a)) (taking_place h) n act_told) taken_grows

  read_grows : Grows act_read act_after
  read_grows = grown act_read act_told act_after (raised_if_grows (not (is_simple a)) (telling_place h) n act_read) told_grows

  filled_grows : Grows act_filled act_after
  filled_grows = grown act_filled act_read act_after (noted_grows (room_column h) (reads a) n act_filled) read_grows

  words_grow : Grows act_words act_after
  words_grow = grown act_words act_filled act_after (noted_grows (room_column h) (writes a) n act_words) filled_grows

  pub act_grows : Grows d act_after
  act_grows = grown d act_words act_after (noted_grows (word_column h) (writes a) n d) words_grow

  pub act_leaves : ActLeaves h a n act_after
  act_leaves = record {
    words = have_grown (word_column h) (writes a) n n act_words act_after (same_le n) words_grow (noted_have (word_column h) (writes a) n d);
    filled = have_grown (room_column h) (writes a) n n act_filled act_after (same_le n) filled_grows (noted_have (room_column h) (writes a) n act_words);
    read = have_grown (room_column h) (reads a) n n act_read act_after (same_le n) read_grows (noted_have (room_column h) (reads a) n act_filled);
    telling = λ is. still n (act_told (telling_place h)) (act_after (telling_place h)) (raised_if_at (not (is_simple a)) (telling_place h) n act_read is) (told_grows (telling_place h));
    taking = λ is. still n (act_taken (taking_place h)) (act_after (taking_place h)) (raised_if_at (takes_item (needs a)) (taking_place h) n act_told is) (taken_grows (taking_place h));
  }

module _ (opens : Bool) (a : ℕ) (said : List Reg) (b : ℕ) (heard : List Reg) (n : ℕ) (d : Table) where
  abbrev pub later : ℕ
  later = next_round n

  not_before : n ≤ later
  not_before = omega arith

  abbrev said_left : Table
  said_left = noted (room_column a) said n d

  abbrev pub sent : Table
  sent = raised_if opens (telling_place a) n said_left

  abbrev pub words_left : Table
  words_left = noted (word_column b) heard later sent

  abbrev pub filled_left : Table
  filled_left = noted (room_column b) heard later words_left

  abbrev pub awaited : Table
  awaited = raised (telling_place b) later filled_left

  abbrev pub packet_after : Table
  packet_after = raised top_place n awaited

  pub awaited_grows : Grows awaited packet_after
  awaited_grows = raised_grows top_place n awaited

  pub filled_left_grows : Grows filled_left packet_after
  filled_left_grows = grown filled_left awaited packet_after (raised_grows (telling_place b) later filled_left) awaited_grows

  pub words_left_grows : Grows words_left packet_after
  words_left_grows = grown words_left filled_left packet_after (noted_grows (room_column b) heard later words_left) filled_left_grows

  sent_grows : Grows sent packet_after
  sent_grows = grown sent words_left packet_after (noted_grows (word_column b) heard later sent) words_left_grows

  said_left_grows : Grows said_left packet_after
  said_left_grows = grown said_left sent packet_after (raised_if_grows opens (telling_place a) n said_left) sent_grows

  pub packet_grows : Grows d packet_after
  packet_grows = grown d said_left packet_after (noted_grows (room_column a) said n d) said_left_grows

  pub packet_leaves : PacketLeaves opens a said b heard n packet_after
  packet_leaves = record {
    words = have_grown (word_column b) heard n later words_left packet_after not_before words_left_grows (noted_have (word_column b) heard later sent);
    filled = have_grown (room_column b) heard n later filled_left packet_after not_before filled_left_grows (noted_have (room_column b) heard later words_left);
    read = have_grown (room_column a) said n n said_left packet_after (same_le n) said_left_grows (noted_have (room_column a) said n d);
    telling = λ is. still n (sent (telling_place a)) (packet_after (telling_place a)) (raised_if_at opens (telling_place a) n said_left is) (sent_grows (telling_place a));
    awaiting = still n later (packet_after (telling_place b)) not_before
        (still later (awaited (telling_place b)) (packet_after (telling_place b)) (raised_at (telling_place b) later filled_left) (awaited_grows (telling_place b)));
  }

pub left_leaves : (opened : Opened) (x : Turn) (n : ℕ) (d : Table) → Leaves opened x n (left opened x n d)
left_leaves opened (Does h a) n d = act_leaves h a n d
left_leaves opened (Tells a said b heard) n d = packet_leaves (meet said (opened a)) a said b heard n d

pub left_grows : (opened : Opened) (x : Turn) (n : ℕ) (d : Table) → Grows d (left opened x n d)
left_grows opened (Does h a) n d = act_grows h a n d
left_grows opened (Tells a said b heard) n d = packet_grows (meet said (opened a)) a said b heard n d

-- the top is at least the rank of each line
pub left_top : (opened : Opened) (x : Turn) (n : ℕ) (d : Table) → n ≤ left opened x n d top_place
left_top opened (Does h a) n d = raised_at top_place n (act_taken h a n d)
left_top opened (Tells a said b heard) n d = raised_at top_place n (awaited (meet said (opened a)) a said b heard n d)

-- ---- lines, marks too

abbrev pub MarkLeaves : ℕ → Table → Type 0
MarkLeaves n e = (n ≤ e floor_place) × (n ≤ e top_place)

abbrev pub LineLeaves : Opened → Line → ℕ → Table → Type 0
LineLeaves opened (line.Act x) n e = Leaves opened (turn_of x) n e × (n ≤ e top_place)
LineLeaves opened (line.If a g) n e = MarkLeaves n e
LineLeaves opened (line.Else a) n e = MarkLeaves n e
LineLeaves opened (line.For a r count) n e = MarkLeaves n e
LineLeaves opened (line.End a) n e = MarkLeaves n e

mark_grown : (n : ℕ) (d e : Table) → Grows d e → MarkLeaves n d → MarkLeaves n e
mark_grown n d e g m =
    (still n (d floor_place) (e floor_place) m.0 (g floor_place), still n (d top_place) (e top_place) m.1 (g top_place))

pub line_grown : (opened : Opened) (l : Line) (n : ℕ) (d e : Table) → Grows d e → LineLeaves opened l n d → LineLeaves opened l n e
line_grown opened (line.Act x) n d e g l = (leaves_grown opened (turn_of x) n d e g l.0, still n (d top_place) (e top_place) l.1 (g top_place))
line_grown opened (line.If a r) n d e g l = mark_grown n d e g l
line_grown opened (line.Else a) n d e g l = mark_grown n d e g l
line_grown opened (line.For a r count) n d e g l = mark_grown n d e g l
line_grown opened (line.End a) n d e g l = mark_grown n d e g l

mark_grows : (n : ℕ) (d : Table) → Grows d (mark_left n d)
mark_grows n d = let e : Table = raised top_place n d in grown d e (mark_left n d) (raised_grows top_place n d) (raised_grows floor_place n e)

mark_leaves : (n : ℕ) (d : Table) → MarkLeaves n (mark_left n d)
mark_leaves n d =
    let e : Table = raised top_place n d in
    (raised_at floor_place n e, still n (e top_place) (mark_left n d top_place) (raised_at top_place n d) (raised_grows floor_place n e top_place))

pub line_leaves : (opened : Opened) (l : Line) (n : ℕ) (d : Table) → LineLeaves opened l n (line_left opened l n d)
line_leaves opened (line.Act x) n d = (left_leaves opened (turn_of x) n d, left_top opened (turn_of x) n d)
line_leaves opened (line.If a r) n d = mark_leaves n d
line_leaves opened (line.Else a) n d = mark_leaves n d
line_leaves opened (line.For a r count) n d = mark_leaves n d
line_leaves opened (line.End a) n d = mark_leaves n d

pub line_grows : (opened : Opened) (l : Line) (n : ℕ) (d : Table) → Grows d (line_left opened l n d)
line_grows opened (line.Act x) n d = left_grows opened (turn_of x) n d
line_grows opened (line.If a r) n d = mark_grows n d
line_grows opened (line.Else a) n d = mark_grows n d
line_grows opened (line.For a r count) n d = mark_grows n d
line_grows opened (line.End a) n d = mark_grows n d
