-- A host that does the pieces before it, each with the items alone.
use Rattle.std.proofs.Common.{◌≡◌, inl, inr, ℕ, ◌+◌, ◌≤◌, List, [], ◌∷◌, ◌++◌, length, Option, Some, None, refl, sym, ap, ◌∙◌, arith}
use Rattle.std.specs.Prelude.{slice_get}
use Rattle.std.proofs.lemmas.List.{length_push}
use Rattle.vd_execution.specs.declared.instructions.Action.TheVariants as action
use Rattle.vd_execution.specs.Registers.{put}
use Rattle.vd_execution.specs.Text.{register}
use Rattle.vd_execution.specs.Code.{Code}
use Rattle.vd_execution.specs.Step.{Source, State, Cursors, Need, Nothing, Item, Packet, Unequal, Ended, Given, answer, need, next, word_printed, deed_of_print, words_in}
use Rattle.vd_execution.specs.World.{Local, done, moved_on, IsPrefixOf}
use Rattle.vd_execution.specs.Joint.{supplied}
use Rattle.vd_execution.proofs.Front.{same_or_not, put_same, put_other, get_append}
use Rattle.vd_execution.proofs.Front.{moved_grows}
use Rattle.vd_reorder.specs.Hastening.{Piece, Acts, Sends, Awaits, before, at, without_packets, MayPass, Stretch, One, Branch, Loop, MayPassStretch}
use Rattle.vd_reorder.proofs.Turned.{piece_needs, piece_moves, piece_leaves}
use Rattle.vd_reorder.proofs.Stretches.{leaves}
use Rattle.vd_reorder.proofs.Passed.{ahead, packet, sends, AllPass}

abbrev pub Items : Type 0
Items = Source → ℕ → List ℕ

-- a step with the items alone
abbrev pub eager : Items → Local → Local
eager items l = moved_on l (supplied items l.state.cursors (need l.state))

-- as many of them as there are pieces
abbrev pub eagerly : Items → List Piece → Local → Local
eagerly items [] l = l
eagerly items (y ∷ ys) l = eagerly items ys (eager items l)

-- a piece that waits for no packet and compares nothing
pub record IsFree (y : Piece) : Type 0 where
  pub gets : (items : Items) (l : Local) (c : Code)
      → answer (without_packets items) l.state.cursors (need (at l (before y c)).state) ≡ Some (supplied items l.state.cursors (need (at l (before y c)).state))

abbrev pub AllFree : List Piece → Type 0
AllFree [] = Unit {0}
AllFree (y ∷ ys) = IsFree y × AllFree ys

pub answered : (items : Items) (c : Cursors) (n : Need) (xs : List ℕ) → answer (without_packets items) c n ≡ Some xs → supplied items c n ≡ xs
answered items c Nothing xs e = cc
answered items c (Item s) xs e = cc
answered items c (Packet p n) xs e = absurd cc
answered items c (Unequal x y) xs e = absurd cc
answered items c Ended xs e = absurd cc

passing_free : (x y : Piece) → MayPass x y → IsFree y
passing_free x y may = record {
  gets = λ items l c.
      let e = may.early items l c in
      e ∙ ap Some (sym (answered items l.state.cursors (need (at l (before y c)).state) (may.words items l) e));
}

stretch_free : (x : Stretch) (y : Piece) → MayPassStretch x y → IsFree y
stretch_free (One x) y may = passing_free x y may
stretch_free (Branch g first other) y may = passing_free (Acts (action.Print (register g))) y may.0
stretch_free (Loop r t n body) y may = passing_free (Acts (action.Const (register r) n)) y (may.0 n (omega arith))

pub all_free : (x : Stretch) (ys : List Piece) → AllPass x ys → AllFree ys
all_free x [] may = tt
all_free x (y ∷ ys) may = (stretch_free x y may.0, all_free x ys may.1)

pub free_behind : (ys zs : List Piece) → AllFree (ys ++ zs) → AllFree zs
free_behind [] zs f = f
free_behind (y ∷ ys) zs f = free_behind ys zs f.1

pub free_both : (ys zs : List Piece) → AllFree ys → AllFree zs → AllFree (ys ++ zs)
free_both [] zs f g = g
free_both (y ∷ ys) zs f g = (f.0, free_both ys zs f.1 g)

-- ---- lists of pieces

pub ahead_append : (ys zs : List Piece) (c : Code) → ahead (ys ++ zs) c ≡ ahead ys (ahead zs c)
ahead_append [] zs c = refl
ahead_append (y ∷ ys) zs c = ap (before y) (ahead_append ys zs c)

pub eagerly_append : (items : Items) (ys zs : List Piece) (l : Local) → eagerly items (ys ++ zs) l ≡ eagerly items zs (eagerly items ys l)
eagerly_append items [] zs l = refl
eagerly_append items (y ∷ ys) zs l = eagerly_append items ys zs (eager items l)

pub sends_append : (ys zs : List Piece) → sends (ys ++ zs) ≡ sends ys + sends zs
sends_append [] zs = omega arith
sends_append (y ∷ ys) zs = let ih = sends_append ys zs in omega (arith, ih)

-- ---- what comes behind is no matter

pub at_itself : (l : Local) (c : Code) → l.state.pending ≡ c → at l c ≡ l
at_itself l c e = ap (at l) (sym e)

eager_moves : (items : Items) (y : Piece) (l : Local) (c d : Code) → eager items (at l (before y d)) ≡ at (eager items (at l (before y c))) d
eager_moves items y l c d =
    ap (λ n. moved_on (at l (before y d)) (supplied items l.state.cursors n)) (piece_needs y l c d)
    ∙ piece_moves y l c d (supplied items l.state.cursors (need (at l (before y c)).state))

eager_leaves : (items : Items) (y : Piece) (l : Local) (c : Code) → (eager items (at l (before y c))).state.pending ≡ c
eager_leaves items y l c = piece_leaves y l c (supplied items l.state.cursors (need (at l (before y c)).state))

pub eager_stands : (items : Items) (y : Piece) (l : Local) (c : Code) → at (eager items (at l (before y c))) c ≡ eager items (at l (before y c))
eager_stands items y l c = at_itself (eager items (at l (before y c))) c (eager_leaves items y l c)

pub eagerly_leaves : (items : Items) (ys : List Piece) (l : Local) (c : Code) → (eagerly items ys (at l (ahead ys c))).state.pending ≡ c
eagerly_leaves items [] l c = refl
eagerly_leaves items (y ∷ ys) l c =
    let m : Local = eager items (at l (before y (ahead ys c))) in
    ap (λ k. (eagerly items ys k).state.pending) (sym (eager_stands items y l (ahead ys c))) ∙ eagerly_leaves items ys m c

pub eagerly_moves : (items : Items) (ys : List Piece) (l : Local) (c d : Code) → eagerly items ys (at l (ahead ys d)) ≡ at (eagerly items ys (at l (ahead ys c))) d
eagerly_moves items [] l c d = refl
eagerly_moves items (y ∷ ys) l c d =
    let m : Local = eager items (at l (before y (ahead ys c))) in
    ap (eagerly items ys) (eager_moves items y l (ahead ys c) (ahead ys d))
    ∙ eagerly_moves items ys m c d
    ∙ ap (λ k. at (eagerly items ys k) d) (eager_stands items y l (ahead ys c))

-- what goes before a branch leaves its guard
pub guard_stays : (items : Items) (g : ℕ) (first other : Code) (ys : List Piece) → AllPass (Branch g first other) ys → (l : Local) (c : Code)
    → (eagerly items ys (at l (ahead ys c))).state.registers g ≡ l.state.registers g
guard_stays items g first other [] may l c = refl
guard_stays items g first other (y ∷ ys) may l c =
    let k : Local = at l (before y (ahead ys c)) in
    let m : Local = eager items k in
    ap (λ k. (eagerly items ys k).state.registers g) (sym (eager_stands items y l (ahead ys c)))
    ∙ guard_stays items g first other ys may.1 m c
    ∙ leaves g y may.0.0 l (ahead ys c) (supplied items l.state.cursors (need k.state))

-- ---- one instruction behind the pieces, or before them

swap : (items : Items) (x y : Piece) → MayPass x y → (l : Local) (c : Code) (xs : List ℕ)
    → eager items (moved_on (at l (before x (before y c))) xs) ≡ moved_on (eager items (at l (before y (before x c)))) xs
swap items x y may l c xs =
    let ws = may.words items l in
    let one : Local = moved_on (at l (before x (before y c))) xs in
    let begun : Local = at l (before y (before x c)) in
    let late : supplied items one.state.cursors (need one.state) ≡ ws = answered items one.state.cursors (need one.state) ws (may.late items l c xs) in
    let early : supplied items l.state.cursors (need begun.state) ≡ ws = answered items l.state.cursors (need begun.state) ws (may.early items l (before x c)) in
    ap (moved_on one) late ∙ may.same l c xs ws ∙ ap (λ zs. moved_on (moved_on begun zs) xs) (sym early)

pub past : (items : Items) (x : Piece) (ys : List Piece) → AllPass (One x) ys → (l : Local) (c : Code) (xs : List ℕ)
    → eagerly items ys (moved_on (at l (before x (ahead ys c))) xs) ≡ moved_on (eagerly items ys (at l (ahead ys (before x c)))) xs
past items x [] may l c xs = refl
past items x (y ∷ ys) may l c xs =
    let d : Code = before x (ahead ys c) in
    let e : Code = ahead ys (before x c) in
    let m : Local = eager items (at l (before y d)) in
    ap (eagerly items ys) (swap items x y may.0 l (ahead ys c) xs)
    ∙ ap (λ k. eagerly items ys (moved_on k xs)) (sym (eager_stands items y l d))
    ∙ past items x ys may.1 m c xs
    ∙ ap (λ k. moved_on (eagerly items ys k) xs) (sym (eager_moves items y l d e))

-- it gets behind them what it gets before them
pub still_gets : (items : Items) (x : Piece) (ys : List Piece) → AllPass (One x) ys → (g : Given) (l : Local) (c d : Code) (xs : List ℕ)
    → answer g l.state.cursors (need (at l (before x c)).state) ≡ Some xs
    → answer g (eagerly items ys (at l (ahead ys (before x d)))).state.cursors (need (eagerly items ys (at l (ahead ys (before x d)))).state) ≡ Some xs
still_gets items x [] may g l c d xs a = ap (answer g l.state.cursors) (piece_needs x l c d) ∙ a
still_gets items x (y ∷ ys) may g l c d xs a =
    let m : Local = eager items (at l (before y (before x c))) in
    let e : Code = ahead ys (before x d) in
    let b : answer g m.state.cursors (need m.state) ≡ Some xs = may.0.kept g l c c xs (supplied items l.state.cursors (need (at l (before y (before x c))).state)) a in
    let f : answer g m.state.cursors (need (at m (before x c)).state) ≡ Some xs = ap (λ (k : Local). answer g m.state.cursors (need k.state)) (eager_stands items y l (before x c)) ∙ b in
    ap (λ k. answer g (eagerly items ys k).state.cursors (need (eagerly items ys k).state)) (eager_moves items y l (before x c) e)
    ∙ still_gets items x ys may.1 g m c d xs f

-- ---- packets

print_takes : (l : Local) (m : State) (o : Option ℕ) → (done l m (deed_of_print o)).taken ≡ l.taken
print_takes l m None = refl
print_takes l m (Some x) = refl

free_takes : (items : Items) (y : Piece) → IsFree y → (l : Local) (c : Code) → (eager items (at l (before y c))).taken ≡ l.taken
free_takes items (Acts a) f l c =
    let k : Local = at l (before (Acts a) c) in
    print_takes k (next k.state (supplied items k.state.cursors (need k.state))) (word_printed k.state.registers a)
free_takes items (Sends p rs) f l c = refl
free_takes items (Awaits p rs) f l c = let e = f.gets items l c in absurd cc

pub all_take : (items : Items) (ys : List Piece) → AllFree ys → (l : Local) (c : Code) → (eagerly items ys (at l (ahead ys c))).taken ≡ l.taken
all_take items [] f l c = refl
all_take items (y ∷ ys) f l c =
    let m : Local = eager items (at l (before y (ahead ys c))) in
    ap (λ k. (eagerly items ys k).taken) (sym (eager_stands items y l (ahead ys c))) ∙ all_take items ys f.1 m c ∙ free_takes items y f.0 l (ahead ys c)

print_sends : (l : Local) (m : State) (o : Option ℕ) → (done l m (deed_of_print o)).sent ≡ l.sent
print_sends l m None = refl
print_sends l m (Some x) = refl

said_count : (f : ℕ → List (List ℕ)) (q p : ℕ) (words : List ℕ) → length (put f q (f q ++ words ∷ []) p) ≤ length (f p) + 1
said_count f q p words =
    elim (same_or_not p q) [
      | inl same ↦
          let e : length (put f q (f q ++ words ∷ []) p) ≡ length (f q) + 1 = ap (λ i. length (put f q (f q ++ words ∷ []) i)) same ∙ ap length (put_same f q (f q ++ words ∷ [])) ∙ length_push (f q) words in
          let g : length (f p) ≡ length (f q) = ap (λ i. length (f i)) same in
          omega (arith, e, g)
      | inr other ↦ let e : length (put f q (f q ++ words ∷ []) p) ≡ length (f p) = ap length (put_other f q (f q ++ words ∷ []) p other) in omega (arith, e)
    ]

pub sent_by_one : (items : Items) (y : Piece) (l : Local) (c : Code) (p : ℕ) → length ((eager items (at l (before y c))).sent p) ≤ length (l.sent p) + packet y
sent_by_one items (Acts a) l c p =
    let k : Local = at l (before (Acts a) c) in
    let e : length ((eager items k).sent p) ≡ length (l.sent p) =
    ap (λ (f : ℕ → List (List ℕ)). length (f p)) (print_sends k (next k.state (supplied items k.state.cursors (need k.state))) (word_printed k.state.registers a)) in
    omega (arith, e)
sent_by_one items (Sends q rs) l c p = let e = said_count l.sent q p (words_in l.state.registers rs) in omega (arith, e)
sent_by_one items (Awaits q rs) l c p = omega arith

pub sent_by_all : (items : Items) (ys : List Piece) (l : Local) (c : Code) (p : ℕ) → length ((eagerly items ys (at l (ahead ys c))).sent p) ≤ length (l.sent p) + sends ys
sent_by_all items [] l c p = omega arith
sent_by_all items (y ∷ ys) l c p =
    let m : Local = eager items (at l (before y (ahead ys c))) in
    let same : length ((eagerly items (y ∷ ys) (at l (before y (ahead ys c)))).sent p) ≡ length ((eagerly items ys (at m (ahead ys c))).sent p) =
    ap (λ k. length ((eagerly items ys k).sent p)) (sym (eager_stands items y l (ahead ys c))) in
    let one = sent_by_one items y l (ahead ys c) p in
    let ih = sent_by_all items ys m c p in
    omega (arith, same, one, ih)

-- what was sent stays
later : (xs ys : List (List ℕ)) (i : ℕ) (z : List ℕ) → IsPrefixOf xs ys → slice_get xs i ≡ Some z → slice_get ys i ≡ Some z
later xs ys i z p e = ap (λ l. slice_get l i) (sym p.1) ∙ get_append xs p.0 i z e

pub eagerly_sent : (items : Items) (ys : List Piece) (l : Local) (p i : ℕ) (z : List ℕ) → slice_get (l.sent p) i ≡ Some z → slice_get ((eagerly items ys l).sent p) i ≡ Some z
eagerly_sent items [] l p i z e = e
eagerly_sent items (y ∷ ys) l p i z e =
    let xs : List ℕ = supplied items l.state.cursors (need l.state) in
    eagerly_sent items ys (moved_on l xs) p i z (later (l.sent p) ((moved_on l xs).sent p) i z ((moved_grows l xs).sent p) e)
