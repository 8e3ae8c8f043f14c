-- What hosts do with their own codes in program order, hastened hosts do over links that have room for as many packets as may be ahead.
use Rattle.std.proofs.Common.{◌≡◌, ◌⊎◌, inl, inr, ℕ, suc, ◌+◌, ◌<◌, ◌≤◌, nat_eq, nat_lt, Bool, true, false, if◌then◌else◌, List, [], ◌∷◌, ◌++◌, length, Option, Some, None, refl, sym, ap, ◌∙◌, subst, subst₂, arith}
use Rattle.std.specs.Prelude.{slice_get}
use Rattle.std.proofs.lemmas.List.{length-drop}
use Rattle.std.proofs.lemmas.Bool.{lt-ltb, ltb-true}
use Rattle.vd_execution.specs.declared.instructions.Reg.{Reg}
use Rattle.vd_execution.specs.declared.instructions.Action.TheVariants as action
use Rattle.vd_execution.specs.Registers.{Registers, put}
use Rattle.vd_execution.specs.Text.{register}
use Rattle.vd_execution.specs.Code.{Code, Finished, Choose, Repeat, followed_by}
use Rattle.vd_execution.specs.Step.{Nothing, Quiet, answer, need, need_of, next, deed, deed_of, deed_of_print, word_printed}
use Rattle.vd_execution.specs.World.{Local, World, Supply, Tape, given, done, moved_on, queue, step, endless}
use Rattle.vd_execution.specs.Joint.{supplied}
use Rattle.vd_execution.proofs.Front.{Through, through_all, Below, answer_more, Stepped, stepped, steps_to, Calm, Calmly, took}
use Rattle.vd_execution.proofs.Front.{same_or_not, put_same, put_other, put_twice, put_itself}
use Rattle.vd_reorder.specs.Hastening.{Piece, Acts, Sends, Awaits, before, at, One, Branch, Loop, without_packets}
use Rattle.vd_reorder.proofs.Turned.{piece_moves, piece_leaves}
use Rattle.vd_reorder.proofs.Stretches.{turns, is_over}
use Rattle.vd_execution.specs.Room.{has_room, narrow}
use Rattle.vd_reorder.proofs.Passed.{ahead, packet, sends, AllPass, Sunk, Passed, Nowhere, Behind, InBranch, InLoop, first_same, no_branch, no_loop}
use Rattle.vd_reorder.proofs.Beside.{AllPassAll, beside}
use Rattle.vd_reorder.proofs.Early.{eager, eagerly, IsFree, AllFree, answered, all_free, free_behind, free_both, ahead_append, eagerly_append, sends_append, at_itself, eager_stands, eagerly_leaves, eagerly_moves, guard_stays, past, still_gets, all_take, sent_by_one, sent_by_all, eagerly_sent}

-- a host with a hastened code has already done some pieces that stand before what it would do next
pub record Hasty (t : Tape) (n h : ℕ) (l k : Local) : Type 0 where
  pub code : Code
  pub passed : Passed n l.state.pending code
  pub early : List Piece
  pub rest : Code
  pub split : code ≡ ahead early rest
  pub free : AllFree early
  pub few : sends early ≤ n
  pub stands : k ≡ eagerly (t h) early (at l code)

abbrev pub AllHasty : Tape → ℕ → World → World → Type 0
AllHasty t n v w = (h : ℕ) → Hasty t n h (v h) (w h)

-- ---- what was taken only grows

-- ---- a host goes ahead

print_has_room : (room : ℕ) (v : World) (h : ℕ) (o : Option ℕ) → has_room room v h (deed_of_print o) ≡ true
print_has_room room v h None = refl
print_has_room room v h (Some x) = refl

piece_has_room : (room : ℕ) (w : World) (h : ℕ) (x : Piece) (c : Code) (l : Local) → ((p : ℕ) (rs : List Reg) → x ≡ Sends p rs → length (queue w h p) < room) → w h ≡ l → l.state.pending ≡ before x c
    → has_room room w h (deed (w h).state) ≡ true
piece_has_room room w h (Acts a) c l few there is =
    ap (λ (m : Local). has_room room w h (deed m.state)) there ∙ ap (λ k. has_room room w h (deed_of l.state.registers k)) is ∙ print_has_room room w h (word_printed l.state.registers a)
piece_has_room room w h (Sends p rs) c l few there is =
    ap (λ (m : Local). has_room room w h (deed m.state)) there ∙ ap (λ k. has_room room w h (deed_of l.state.registers k)) is ∙ lt-ltb (length (queue w h p)) room (few p rs refl)
piece_has_room room w h (Awaits p rs) c l few there is =
    ap (λ (m : Local). has_room room w h (deed m.state)) there ∙ ap (λ k. has_room room w h (deed_of l.state.registers k)) is

there_is_room : (room : ℕ) (s : Supply) (h : ℕ) (w u : World) → has_room room w h (deed (w h).state) ≡ true → step s h w ≡ Some u → narrow room s h w ≡ Some u
there_is_room room s h w u r e = ap (λ b. if b then step s h w else None) r ∙ e

items_below : (t : Tape) (w : World) (h : ℕ) (l : Local) → Below (without_packets (t h)) (given (endless t) w h l)
items_below t w h l = record { item = λ s i x e. e; front = λ p x e. absurd cc }

abbrev times : List Piece → ℕ → List ℕ
times [] h = []
times (y ∷ ys) h = h ∷ times ys h

-- each link from the host has room for all packets among them
abbrev Roomy : ℕ → World → ℕ → List Piece → Type 0
Roomy room w h ys = (p : ℕ) → length ((w h).sent p) + sends ys ≤ (w p).taken h + room

rushes : (room : ℕ) (t : Tape) (h : ℕ) (ys : List Piece) (w : World) (l : Local) (c : Code) → AllFree ys → w h ≡ at l (ahead ys c) → Roomy (suc room) w h ys
    → Through (narrow (suc room) (endless t)) (times ys h) w (put w h (eagerly (t h) ys (at l (ahead ys c))))
rushes room t h [] w l c free there roomy = sym (ap (put w h) (sym there) ∙ put_itself w h)
rushes room t h (y ∷ ys) w l c free there roomy =
    let s : Supply = endless t in
    let d : Code = ahead ys c in
    let k : Local = at l (before y d) in
    let xs : List ℕ = supplied (t h) l.state.cursors (need k.state) in
    let m : Local = eager (t h) k in
    let u : World = put w h m in
    let able : answer (given s w h k) k.state.cursors (need k.state) ≡ Some xs =
    answer_more _ _ k.state.cursors (need k.state) xs (items_below t w h k) (free.0.gets (t h) l d) in
    let goes : step s h w ≡ Some u = steps_to s h w k xs there able in
    let less : (p : ℕ) (rs : List Reg) → y ≡ Sends p rs → length (queue w h p) < suc room = λ p rs is.
    let r = roomy p in
    let e = length-drop ((w p).taken h) ((w h).sent p) in
    let some : packet y ≡ 1 = ap packet is in
    omega (arith, r, e, some) in
    let fits : narrow (suc room) s h w ≡ Some u = there_is_room (suc room) s h w u (piece_has_room (suc room) w h y d k less there refl) goes in
    let stands : at m d ≡ m = eager_stands (t h) y l d in
    let next_roomy : Roomy (suc room) u h ys = λ p.
    let r = roomy p in
    let sent : length ((u h).sent p) ≡ length (m.sent p) = ap (λ (x : Local). length (x.sent p)) (put_same w h m) in
    let old : length ((w h).sent p) ≡ length (l.sent p) = ap (λ (x : Local). length (x.sent p)) there in
    let one = sent_by_one (t h) y l d p in
    let more = took w h p xs h in
    let was : (put w h (moved_on (w h) xs) p).taken h ≡ (u p).taken h = ap (λ x. (put w h (moved_on x xs) p).taken h) there in
    omega (arith, r, sent, old, one, more, was) in
    let ih = rushes room t h ys u m c free.1 (put_same w h m ∙ sym stands) next_roomy in
    let to : put u h (eagerly (t h) ys (at m d)) ≡ put w h (eagerly (t h) ys m) = put_twice w h m (eagerly (t h) ys (at m d)) ∙ ap (λ x. put w h (eagerly (t h) ys x)) stands in
    (u, fits, subst (λ x. Through (narrow (suc room) s) (times ys h) u x) to ih)

-- ---- what stands before and behind an instruction

record IsDue (es ys : List Piece) (r : Code) (x : Piece) (q : Code) : Type 0 where
  left : List Piece
  all : ys ≡ es ++ left
  stands : r ≡ ahead left (before x q)

record WasEarly (es ys : List Piece) (r : Code) (x : Piece) (q : Code) : Type 0 where
  more : List Piece
  all : es ≡ ys ++ x ∷ more
  stands : q ≡ ahead more r

-- what was done early ends before the instruction, or it is among it
compare : (es ys : List Piece) (r : Code) (x : Piece) (q : Code) → ahead es r ≡ ahead ys (before x q) → IsDue es ys r x q ⊎ WasEarly es ys r x q
compare [] ys r x q e = inl (record { left = ys; all = refl; stands = e })
compare (z ∷ es) [] r x q e =
    let s = first_same z x (ahead es r) q e in
    inr (record { more = es; all = ap (λ p. p ∷ es) s.0; stands = sym s.1 })
compare (z ∷ es) (y ∷ ys) r x q e =
    let s = first_same z y (ahead es r) (ahead ys (before x q)) e in
    elim (compare es ys r x q s.1) [
      | inl a ↦ inl (record { left = a.left; all = ap (λ l. y ∷ l) a.all ∙ ap (λ p. p ∷ es ++ a.left) (sym s.0); stands = a.stands })
      | inr b ↦ inr (record { more = b.more; all = ap (λ l. z ∷ l) b.all ∙ ap (λ p. p ∷ ys ++ x ∷ b.more) s.0; stands = b.stands })
    ]

-- no piece begins a block, so what was done early ends before it
record IsBlockDue (es ys : List Piece) (r b : Code) : Type 0 where
  left : List Piece
  all : ys ≡ es ++ left
  stands : r ≡ ahead left b

block_due : (es ys : List Piece) (r b : Code) → ((y : Piece) (c : Code) → before y c ≡ b → ⊥) → ahead es r ≡ ahead ys b → IsBlockDue es ys r b
block_due [] ys r b none e = record { left = ys; all = refl; stands = e }
block_due (z ∷ es) [] r b none e = absurd (none z (ahead es r) e)
block_due (z ∷ es) (y ∷ ys) r b none e =
    let s = first_same z y (ahead es r) (ahead ys b) e in
    let d = block_due es ys r b none s.1 in
    record { left = d.left; all = ap (λ l. y ∷ l) d.all ∙ ap (λ p. p ∷ es ++ d.left) (sym s.0); stands = d.stands }

-- what goes before a block goes before all in it, and before its turns
pass_first : (g : ℕ) (first other : Code) (ps : List Piece) → AllPass (Branch g first other) ps → AllPassAll ps first
pass_first g first other [] m = tt
pass_first g first other (y ∷ ps) m = (m.0.1.0, pass_first g first other ps m.1)

pass_other : (g : ℕ) (first other : Code) (ps : List Piece) → AllPass (Branch g first other) ps → AllPassAll ps other
pass_other g first other [] m = tt
pass_other g first other (y ∷ ps) m = (m.0.1.1, pass_other g first other ps m.1)

pass_body : (r i n : ℕ) (body : Code) (ps : List Piece) → AllPass (Loop r i n body) ps → AllPassAll ps body
pass_body r i n body [] m = tt
pass_body r i n body (y ∷ ps) m = (m.0.1, pass_body r i n body ps m.1)

loop_later : (r i n : ℕ) (body : Code) (ps : List Piece) → AllPass (Loop r i n body) ps → AllPass (Loop r (suc i) n body) ps
loop_later r i n body [] m = tt
loop_later r i n body (y ∷ ps) m = (m.0, loop_later r i n body ps m.1)

loop_counts : (r i n : ℕ) (body : Code) (ps : List Piece) → AllPass (Loop r i n body) ps → i < n → AllPass (One (Acts (action.Const (register r) i))) ps
loop_counts r i n body [] m lt = tt
loop_counts r i n body (y ∷ ps) m lt = (m.0.0 i (omega (arith, lt)), loop_counts r i n body ps m.1 lt)

-- ---- one step

module _ (room : ℕ) (t : Tape) (v w : World) (all : AllHasty t (suc room) v w) (h : ℕ) where
  -- the hastened hosts get from here to where they stand behind the step
  pub record Follows (u : World) : Type 0 where
    pub hosts : List ℕ
    pub world : World
    pub through : Through (narrow (suc room) (endless t)) hosts w world
    pub all_hasty : AllHasty t (suc room) u world

  -- host h has gone on, in both
  both_put : (l k : Local) → Hasty t (suc room) h l k → AllHasty t (suc room) (put v h l) (put w h k)
  both_put l k y g =
      elim (same_or_not g h) [
        | inl same ↦
            subst (λ i. Hasty t (suc room) i (put v h l i) (put w h k i)) (sym same) (subst₂ (λ (a b : Local). Hasty t (suc room) h a b) (sym (put_same v h l)) (sym (put_same w h k)) y)
        | inr other ↦ subst₂ (λ (a b : Local). Hasty t (suc room) g a b) (sym (put_other v h l g other)) (sym (put_other w h k g other)) (all g)
      ]

  follows_through : (u : World) (hosts : List ℕ) (l k : Local) → u ≡ put v h l → Through (narrow (suc room) (endless t)) hosts w (put w h k) → Hasty t (suc room) h l k → Follows u
  follows_through u hosts l k made through y = record {
    hosts = hosts;
    world = put w h k;
    through = through;
    all_hasty = subst (λ x. AllHasty t (suc room) x (put w h k)) (sym made) (both_put l k y);
  }

  -- what each host took is what it took with its own code
  same_taken : (p q : ℕ) → (w p).taken q ≡ (v p).taken q
  same_taken p q =
      let y = all p in
      ap (λ (k : Local). k.taken q) y.stands
      ∙ ap (λ c. (eagerly (t p) y.early (at (v p) c)).taken q) y.split
      ∙ ap (λ (f : ℕ → ℕ). f q) (all_take (t p) y.early y.free (v p) y.rest)

  -- and what it sent stands before what it sent early
  sent_stays : (p q i : ℕ) (z : List ℕ) → slice_get ((v p).sent q) i ≡ Some z → slice_get ((w p).sent q) i ≡ Some z
  sent_stays p q i z e =
      let y = all p in
      ap (λ (k : Local). slice_get (k.sent q) i) y.stands ∙ eagerly_sent (t p) y.early (at (v p) y.code) q i z e

  module _ (u : World) (a : Stepped (endless t) h v u) (calm : Calm v h) where
    -- ---- all that passes an instruction or a block is done, and then its first step
    module _ (ps : List Piece) (b : Code) (ps_free : AllFree ps) (few : sends ps ≤ suc room) (code_split : (all h).code ≡ ahead ps b) where
      -- where the host stands then
      abbrev m : Local
      m = eagerly (t h) ps (at (v h) (ahead ps b))

      m_pending : m.state.pending ≡ b
      m_pending = eagerly_leaves (t h) ps (v h) b

      m_taken : m.taken ≡ (v h).taken
      m_taken = all_take (t h) ps ps_free (v h) b

      w1_taken : (p : ℕ) → (put w h m p).taken h ≡ (v p).taken h
      w1_taken p =
          elim (same_or_not p h) [
            | inl here ↦ ap (λ j. (put w h m j).taken h) here ∙ ap (λ (f : Local). f.taken h) (put_same w h m) ∙ ap (λ (g : ℕ → ℕ). g h) m_taken ∙ ap (λ j. (v j).taken h) (sym here)
            | inr other ↦ ap (λ (f : Local). f.taken h) (put_other w h m p other) ∙ same_taken p h
          ]

      goes_on : answer (given (endless t) v h (v h)) m.state.cursors (need m.state) ≡ Some a.words → has_room (suc room) (put w h m) h (deed m.state) ≡ true
          → (new rest : Code) → Passed (suc room) (moved_on (v h) a.words).state.pending new → new ≡ ahead ps rest → moved_on m a.words ≡ eagerly (t h) ps (at (moved_on (v h) a.words) new)
          → (left : List Piece) → ps ≡ (all h).early ++ left → (all h).rest ≡ ahead left b → Follows u
      goes_on m_gets fits_in new rest new_passed new_split new_stands left all_left rest_is =
          let y = all h in
          let es : List Piece = y.early in
          let there : w h ≡ eagerly (t h) es (at (v h) (ahead es (ahead left b))) =
          y.stands ∙ ap (λ k. eagerly (t h) es (at (v h) k)) (y.split ∙ ap (ahead es) rest_is) in
          let k : Local = eagerly (t h) es (at (v h) (ahead es (ahead left b))) in
          let k_pending : k.state.pending ≡ ahead left b = eagerly_leaves (t h) es (v h) (ahead left b) in
          let k_stands : at k (ahead left b) ≡ k = at_itself k (ahead left b) k_pending in
          let whole : eagerly (t h) left k ≡ m =
          sym (eagerly_append (t h) es left (at (v h) (ahead es (ahead left b))))
          ∙ ap (λ q. eagerly (t h) (es ++ left) (at (v h) q)) (sym (ahead_append es left b))
          ∙ ap (λ q. eagerly (t h) q (at (v h) (ahead q b))) (sym all_left) in
          let all_free_left : AllFree left = free_behind es left (subst AllFree all_left ps_free) in
          let count : sends ps ≡ sends es + sends left = ap sends all_left ∙ sends_append es left in
          let roomy : Roomy (suc room) w h left = λ p.
          let old = calm p in
          let dropped = length-drop ((v p).taken h) ((v h).sent p) in
          let sent = sent_by_all (t h) es (v h) (ahead left b) p in
          let same : length ((w h).sent p) ≡ length (k.sent p) = ap (λ (q : Local). length (q.sent p)) there in
          let took_same = same_taken p h in
          omega (arith, old, dropped, sent, same, took_same, few, count) in
          let rush = rushes room t h left w k b all_free_left (there ∙ sym k_stands) roomy in
          let w1 : World = put w h m in
          let to_m : Through (narrow (suc room) (endless t)) (times left h) w w1 =
          subst (λ q. Through (narrow (suc room) (endless t)) (times left h) w (put w h q)) (ap (eagerly (t h) left) k_stands ∙ whole) rush in
          let w1_sent : (p i : ℕ) (z : List ℕ) → slice_get ((v p).sent h) i ≡ Some z → slice_get ((w1 p).sent h) i ≡ Some z =
          λ p i z q. elim (same_or_not p h) [
            | inl same ↦
                ap (λ j. slice_get ((w1 j).sent h) i) same
                ∙ ap (λ (f : Local). slice_get (f.sent h) i) (put_same w h m)
                ∙ eagerly_sent (t h) ps (at (v h) (ahead ps b)) h i z (ap (λ j. slice_get ((v j).sent h) i) (sym same) ∙ q)
            | inr other ↦ ap (λ (f : Local). slice_get (f.sent h) i) (put_other w h m p other) ∙ sent_stays p h i z q
          ] in
          let wider : Below (given (endless t) v h (v h)) (given (endless t) w1 h m) = record {
            item = λ q i z f. f;
            front = λ p z f. ap (λ (g : ℕ → ℕ). slice_get ((w1 p).sent h) (g p)) m_taken ∙ w1_sent p ((v h).taken p) z f;
          } in
          let goes : step (endless t) h w1 ≡ Some (put w1 h (moved_on m a.words)) =
          steps_to (endless t) h w1 m a.words (put_same w h m) (answer_more _ _ m.state.cursors (need m.state) a.words wider m_gets) in
          let fits : narrow (suc room) (endless t) h w1 ≡ Some (put w1 h (moved_on m a.words)) =
          there_is_room (suc room) (endless t) h w1 _ (ap (λ (k : Local). has_room (suc room) w1 h (deed k.state)) (put_same w h m) ∙ fits_in) goes in
          let last : Through (narrow (suc room) (endless t)) (h ∷ []) w1 (put w h (moved_on m a.words)) =
          (put w1 h (moved_on m a.words), fits, put_twice w h m (moved_on m a.words)) in
          follows_through u (times left h ++ h ∷ []) (moved_on (v h) a.words) (moved_on m a.words) a.made
          (through_all (narrow (suc room) (endless t)) (times left h) (h ∷ []) w w1 (put w h (moved_on m a.words)) to_m last)
          (record { code = new; passed = new_passed; early = ps; rest = rest; split = new_split; free = ps_free; few = few; stands = new_stands })

    -- ---- an instruction outside of blocks
    module _ (x : Piece) (c d e : Code) (is : (v h).state.pending ≡ before x c) (passed : Passed (suc room) c d) (s : Sunk (suc room) (One x) d e) (code_is : (all h).code ≡ e) where
      old_is : at (v h) (before x c) ≡ v h
      old_is = at_itself (v h) (before x c) is

      gets_old : answer (given (endless t) v h (v h)) (v h).state.cursors (need (at (v h) (before x c)).state) ≡ Some a.words
      gets_old = ap (λ (m : Local). answer (given (endless t) v h (v h)) (v h).state.cursors (need m.state)) old_is ∙ a.able

      x_free : AllFree s.pieces
      x_free = all_free (One x) s.pieces s.may

      x_few : sends s.pieces ≤ suc room
      x_few = let f = s.few in omega (arith, f)

      x_split : (all h).code ≡ ahead s.pieces (before x s.rest)
      x_split = code_is ∙ s.new

      -- where the host stands before the instruction, with all that passes it done
      abbrev x_at : Local
      x_at = m s.pieces (before x s.rest) x_free x_few x_split

      -- behind the instruction, with its own code and with the other
      new_pending : (moved_on (v h) a.words).state.pending ≡ c
      new_pending = ap (λ (k : Local). (moved_on k a.words).state.pending) (sym old_is) ∙ piece_leaves x (v h) c a.words

      new_stands : moved_on x_at a.words ≡ eagerly (t h) s.pieces (at (moved_on (v h) a.words) d)
      new_stands =
          sym (past (t h) x s.pieces s.may (v h) s.rest a.words)
          ∙ ap (λ k. eagerly (t h) s.pieces (moved_on (at (v h) (before x k)) a.words)) (sym s.old)
          ∙ ap (eagerly (t h) s.pieces) (piece_moves x (v h) c d a.words)
          ∙ ap (λ (k : Local). eagerly (t h) s.pieces (at (moved_on k a.words) d)) old_is

      new_passed : Passed (suc room) (moved_on (v h) a.words).state.pending d
      new_passed = subst (λ k. Passed (suc room) k d) (sym new_pending) passed

      x_gets : answer (given (endless t) v h (v h)) x_at.state.cursors (need x_at.state) ≡ Some a.words
      x_gets = still_gets (t h) x s.pieces s.may (given (endless t) v h (v h)) (v h) c s.rest a.words gets_old

      -- what it sends has room
      less : (p : ℕ) (rs : List Reg) → x ≡ Sends p rs → length (queue (put w h x_at) h p) < suc room
      less p rs that =
          let w1 : World = put w h x_at in
          let fits = s.few in
          let empty = calm p in
          let one : packet x ≡ 1 = ap packet that in
          let dropped = length-drop ((v p).taken h) ((v h).sent p) in
          let dropped_now = length-drop ((w1 p).taken h) ((w1 h).sent p) in
          let sent = sent_by_all (t h) s.pieces (v h) (before x s.rest) p in
          let same : length ((w1 h).sent p) ≡ length (x_at.sent p) = ap (λ (q : Local). length (q.sent p)) (put_same w h x_at) in
          let took_same : (w1 p).taken h ≡ (v p).taken h = w1_taken s.pieces (before x s.rest) x_free x_few x_split p in
          omega (arith, fits, empty, one, dropped, dropped_now, sent, same, took_same)

      x_fits : has_room (suc room) (put w h x_at) h (deed x_at.state) ≡ true
      x_fits =
          ap (λ (k : Local). has_room (suc room) (put w h x_at) h (deed k.state)) (sym (put_same w h x_at))
          ∙ piece_has_room (suc room) (put w h x_at) h x s.rest x_at less (put_same w h x_at) (m_pending s.pieces (before x s.rest) x_free x_few x_split)

      -- it is done now
      due : IsDue (all h).early s.pieces (all h).rest x s.rest → Follows u
      due n = goes_on s.pieces (before x s.rest) x_free x_few x_split x_gets x_fits d s.rest new_passed s.old new_stands n.left n.all n.stands

      -- it was done early
      was_early : WasEarly (all h).early s.pieces (all h).rest x s.rest → Follows u
      was_early n =
          let y = all h in
          let b : Code = before x s.rest in
          let early_free : AllFree (s.pieces ++ x ∷ n.more) = subst AllFree n.all y.free in
          let itself_free : IsFree x = (free_behind s.pieces (x ∷ n.more) early_free).0 in
          let more_free : AllFree n.more = (free_behind s.pieces (x ∷ n.more) early_free).1 in
          let sup : List ℕ = supplied (t h) (v h).state.cursors (need (at (v h) (before x c)).state) in
          let got : answer (without_packets (t h)) (v h).state.cursors (need (at (v h) (before x c)).state) ≡ Some sup = itself_free.gets (t h) (v h) c in
          let got_here : answer (given (endless t) v h (v h)) (v h).state.cursors (need (at (v h) (before x c)).state) ≡ Some sup =
          answer_more _ _ (v h).state.cursors (need (at (v h) (before x c)).state) sup (items_below t v h (v h)) got in
          let same_words : sup ≡ a.words = some_same sup a.words (sym got_here ∙ gets_old) in
          let m_gets = still_gets (t h) x s.pieces s.may (without_packets (t h)) (v h) c s.rest sup got in
          let m_words : supplied (t h) x_at.state.cursors (need x_at.state) ≡ a.words = answered (t h) x_at.state.cursors (need x_at.state) sup m_gets ∙ same_words in
          let there : w h ≡ eagerly (t h) (s.pieces ++ n.more) (at (moved_on (v h) a.words) d) =
          y.stands
          ∙ ap (λ k. eagerly (t h) y.early (at (v h) k)) x_split
          ∙ ap (λ q. eagerly (t h) q (at (v h) (ahead s.pieces b))) n.all
          ∙ eagerly_append (t h) s.pieces (x ∷ n.more) (at (v h) (ahead s.pieces b))
          ∙ ap (λ q. eagerly (t h) n.more (moved_on x_at q)) m_words
          ∙ ap (eagerly (t h) n.more) new_stands
          ∙ sym (eagerly_append (t h) s.pieces n.more (at (moved_on (v h) a.words) d)) in
          let count = sends_append s.pieces n.more in
          let count_early : sends y.early ≡ sends s.pieces + sends (x ∷ n.more) = ap sends n.all ∙ sends_append s.pieces (x ∷ n.more) in
          let fits = y.few in
          let same : w ≡ put w h (w h) = sym (put_itself w h) in
          follows_through u [] (moved_on (v h) a.words) (w h) a.made same
          (record {
            code = d;
            passed = new_passed;
            early = s.pieces ++ n.more;
            rest = y.rest;
            split = s.old ∙ ap (ahead s.pieces) n.stands ∙ sym (ahead_append s.pieces n.more y.rest);
            free = free_both s.pieces n.more x_free more_free;
            few = omega (arith, count, count_early, fits);
            stands = there;
          })
        where
          some_same : (p q : List ℕ) → Some p ≡ Some q → p ≡ q
          some_same p q e = cc

      instruction : Follows u
      instruction =
          elim (compare (all h).early s.pieces (all h).rest x s.rest (sym (all h).split ∙ x_split)) [
            | inl n ↦ due n
            | inr n ↦ was_early n
          ]

    -- ---- blocks

    -- the first step of a block gets nothing
    module _ (b : Code) (no_piece : (y : Piece) (c : Code) → before y c ≡ b → ⊥) (gets_none : need_of (v h).state.registers (v h).state.pending ≡ Nothing)
        (needs_none : (f : Registers) → need_of f b ≡ Nothing) (quiet : (f : Registers) → deed_of f b ≡ Quiet) (ps : List Piece) (ps_free : AllFree ps) (few : sends ps ≤ suc room)
        (code_split : (all h).code ≡ ahead ps b) where
      block_gets : answer (given (endless t) v h (v h)) (m ps b ps_free few code_split).state.cursors (need (m ps b ps_free few code_split).state) ≡ Some a.words
      block_gets =
          let k : Local = m ps b ps_free few code_split in
          let g = given (endless t) v h (v h) in
          ap (λ c. answer g k.state.cursors (need_of k.state.registers c)) (m_pending ps b ps_free few code_split)
          ∙ ap (answer g k.state.cursors) (needs_none k.state.registers)
          ∙ sym (ap (answer g (v h).state.cursors) gets_none)
          ∙ a.able

      block_fits : has_room (suc room) (put w h (m ps b ps_free few code_split)) h (deed (m ps b ps_free few code_split).state) ≡ true
      block_fits =
          let k : Local = m ps b ps_free few code_split in
          ap (λ c. has_room (suc room) (put w h k) h (deed_of k.state.registers c)) (m_pending ps b ps_free few code_split)
          ∙ ap (has_room (suc room) (put w h k) h) (quiet k.state.registers)

      block_goes_on : (new rest : Code) → Passed (suc room) (moved_on (v h) a.words).state.pending new → new ≡ ahead ps rest
          → moved_on (m ps b ps_free few code_split) a.words ≡ eagerly (t h) ps (at (moved_on (v h) a.words) new) → Follows u
      block_goes_on new rest passed split stands =
          let n = block_due (all h).early ps (all h).rest b no_piece (sym (all h).split ∙ code_split) in
          goes_on ps b ps_free few code_split block_gets block_fits new rest passed split stands n.left n.all n.stands

    at_branch : (g : ℕ) (first other rest one two last e : Code) → (v h).state.pending ≡ Choose g first other rest → Passed (suc room) first one → Passed (suc room) other two
        → Passed (suc room) rest last → Sunk (suc room) (Branch g one two) last e → (all h).code ≡ e → Follows u
    at_branch g first other rest one two last e is p q o s code_is =
        let ps : List Piece = s.pieces in
        let b : Code = Choose g one two s.rest in
        let c : Code = Choose g first other rest in
        let old : at (v h) c ≡ v h = at_itself (v h) c is in
        let zero_guard : Bool = nat_eq ((v h).state.registers g) 0 in
        let chosen : Code = followed_by (if zero_guard then two else one) s.rest in
        let new : Code = ahead ps chosen in
        let free : AllFree ps = all_free (Branch g one two) ps s.may in
        let within = s.few in
        let few : sends ps ≤ suc room = omega (arith, within) in
        let split : (all h).code ≡ ahead ps b = code_is ∙ s.new in
        let rest_passed : Passed (suc room) rest (ahead ps s.rest) = subst (λ k. Passed (suc room) rest k) s.old o in
        let now : Passed (suc room) (followed_by (if zero_guard then other else first) rest) new = either s few zero_guard rest_passed in
        let done : Local = eagerly (t h) ps (at (v h) new) in
        let there : m ps b free few split ≡ at done b = eagerly_moves (t h) ps (v h) chosen b in
        let done_stands : at done chosen ≡ done = at_itself done chosen (eagerly_leaves (t h) ps (v h) chosen) in
        let stands : moved_on (m ps b free few split) a.words ≡ eagerly (t h) ps (at (moved_on (v h) a.words) new) =
        ap (λ (k : Local). moved_on k a.words) there
        ∙ ap (λ z. at done (followed_by (if nat_eq z 0 then two else one) s.rest)) (guard_stays (t h) g one two ps s.may (v h) chosen)
        ∙ done_stands
        ∙ ap (λ (k : Local). eagerly (t h) ps (at (moved_on k a.words) new)) old in
        block_goes_on b (λ y k f. no_branch y k g one two s.rest f) (ap (need_of (v h).state.registers) is) (λ f. refl) (λ f. refl) ps free few split new chosen
        (subst (λ (f : Local). Passed (suc room) (moved_on f a.words).state.pending new) old now) refl stands
      where
        either : (s : Sunk (suc room) (Branch g one two) last e) → sends s.pieces ≤ suc room → (b : Bool) → Passed (suc room) rest (ahead s.pieces s.rest)
            → Passed (suc room) (followed_by (if b then other else first) rest) (ahead s.pieces (followed_by (if b then two else one) s.rest))
        either s few true r = beside (suc room) s.pieces few s.rest q rest (pass_other g one two s.pieces s.may) r
        either s few false r = beside (suc room) s.pieces few s.rest p rest (pass_first g one two s.pieces s.may) r

    at_loop : (r i n : ℕ) (body rest one last e : Code) → (v h).state.pending ≡ Repeat r i n body rest → Passed (suc room) body one → Passed (suc room) rest last
        → Sunk (suc room) (Loop r i n one) last e → (all h).code ≡ e → Follows u
    at_loop r i n body rest one last e is p o s code_is = by_turn (nat_lt i n) refl
      where
        ps : List Piece
        ps = s.pieces

        b : Code
        b = Repeat r i n one s.rest

        old : at (v h) (Repeat r i n body rest) ≡ v h
        old = at_itself (v h) (Repeat r i n body rest) is

        free : AllFree ps
        free = all_free (Loop r i n one) ps s.may

        few : sends ps ≤ suc room
        few = let f = s.few in omega (arith, f)

        split : (all h).code ≡ ahead ps b
        split = code_is ∙ s.new

        rest_passed : Passed (suc room) rest (ahead ps s.rest)
        rest_passed = subst (λ k. Passed (suc room) rest k) s.old o

        goes : (new rest : Code) → Passed (suc room) (moved_on (v h) a.words).state.pending new → new ≡ ahead ps rest
            → moved_on (m ps b free few split) a.words ≡ eagerly (t h) ps (at (moved_on (v h) a.words) new) → Follows u
        goes = block_goes_on b (λ y k f. no_loop y k r i n one s.rest f) (ap (need_of (v h).state.registers) is) (λ f. refl) (λ f. refl) ps free few split

        by_turn : (z : Bool) → nat_lt i n ≡ z → Follows u
        by_turn true z =
            let more : Code = Repeat r (suc i) n one s.rest in
            let turned : Code = followed_by one more in
            let new : Code = ahead ps turned in
            let count : Piece = Acts (action.Const (register r) i) in
            let began : moved_on (v h) a.words ≡ at (moved_on (at (v h) (before count Finished)) []) (followed_by body (Repeat r (suc i) n body rest)) =
            ap (λ (k : Local). moved_on k a.words) (sym old) ∙ turns r i n body (v h) rest a.words z in
            let again : Sunk (suc room) (Loop r (suc i) n one) (ahead ps s.rest) (ahead ps more) = record { pieces = ps; rest = s.rest; old = refl; new = refl; may = loop_later r i n one ps s.may; few = omega (arith, few) } in
            let now : Passed (suc room) (followed_by body (Repeat r (suc i) n body rest)) new =
            beside (suc room) ps few more p (Repeat r (suc i) n body rest) (pass_body r i n one ps s.may)
            (InLoop r (suc i) n body rest one (ahead ps s.rest) (ahead ps more) p rest_passed again) in
            let done : Local = eagerly (t h) ps (at (v h) new) in
            let stands : moved_on (m ps b free few split) a.words ≡ eagerly (t h) ps (at (moved_on (v h) a.words) new) =
            ap (λ (k : Local). moved_on k a.words) (eagerly_moves (t h) ps (v h) turned b)
            ∙ turns r i n one done s.rest a.words z
            ∙ sym (ap (λ (k : Local). moved_on k []) (eagerly_moves (t h) ps (v h) turned (before count turned)))
            ∙ sym (past (t h) count ps (loop_counts r i n one ps s.may (ltb-true i n z)) (v h) turned [])
            ∙ sym (ap (λ (k : Local). eagerly (t h) ps (at k new)) began) in
            goes new turned (subst (λ (k : Local). Passed (suc room) k.state.pending new) (sym began) now) refl stands
        by_turn false z =
            let new : Code = ahead ps s.rest in
            let over : moved_on (v h) a.words ≡ at (v h) rest = ap (λ (k : Local). moved_on k a.words) (sym old) ∙ is_over r i n body (v h) rest a.words z in
            let done : Local = eagerly (t h) ps (at (v h) new) in
            let stands : moved_on (m ps b free few split) a.words ≡ eagerly (t h) ps (at (moved_on (v h) a.words) new) =
            ap (λ (k : Local). moved_on k a.words) (eagerly_moves (t h) ps (v h) s.rest b)
            ∙ is_over r i n one done s.rest a.words z
            ∙ at_itself done s.rest (eagerly_leaves (t h) ps (v h) s.rest)
            ∙ sym (ap (λ (k : Local). eagerly (t h) ps (at k new)) over) in
            goes new s.rest (subst (λ (k : Local). Passed (suc room) k.state.pending new) (sym over) rest_passed) refl stands

    at_end_of : (v h).state.pending ≡ Finished → Follows u
    at_end_of is =
        let e : answer (given (endless t) v h (v h)) (v h).state.cursors (need (at (v h) Finished).state) ≡ Some a.words =
        ap (λ (f : Local). answer (given (endless t) v h (v h)) (v h).state.cursors (need f.state)) (at_itself (v h) Finished is) ∙ a.able in
        absurd cc

    by_code : {c d : Code} → Passed (suc room) c d → (v h).state.pending ≡ c → (all h).code ≡ d → Follows u
    by_code Nowhere is code_is = at_end_of is
    by_code (Behind x c d e passed s) is code_is = instruction x c d e is passed s code_is
    by_code (InBranch g first other rest one two last e p q o s) is code_is = at_branch g first other rest one two last e is p q o s code_is
    by_code (InLoop r i n body rest one last e p o s) is code_is = at_loop r i n body rest one last e is p o s code_is

  follow : (u : World) → step (endless t) h v ≡ Some u → Calm v h → Follows u
  follow u e calm = by_code u (stepped (endless t) h v u e) calm (all h).passed refl refl

-- ---- all steps

pub record Ends (room : ℕ) (t : Tape) (w u : World) : Type 0 where
  pub hosts : List ℕ
  pub world : World
  pub through : Through (narrow (suc room) (endless t)) hosts w world
  pub all_hasty : AllHasty t (suc room) u world

pub along : (room : ℕ) (t : Tape) (hs : List ℕ) (v u w : World) → AllHasty t (suc room) v w → Calmly t hs v u → Ends room t w u
along room t [] v u w all p = record { hosts = []; world = w; through = refl; all_hasty = subst (λ x. AllHasty t (suc room) x w) p all }
along room t (h ∷ hs) v u w all p =
    let f = follow room t v w all h p.0 p.1 p.2 in
    let r = along room t hs p.0 u f.world f.all_hasty p.3 in
    record {
      hosts = f.hosts ++ r.hosts;
      world = r.world;
      through = through_all (narrow (suc room) (endless t)) f.hosts r.hosts w f.world r.world f.through r.through;
      all_hasty = r.all_hasty;
    }
