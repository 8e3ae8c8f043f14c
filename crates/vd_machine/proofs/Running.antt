-- Quiet steps after quiet steps.
use Rattle.std.proofs.Common.{◌≡◌, ℕ, zero, suc, ◌+◌, ◌<◌, ◌≤◌, Bool, true, false, List, [], ◌∷◌, ◌++◌, length, take, get_or, refl, sym, ap, ◌∙◌, subst, arith, rules}
use Rattle.std.specs.Prelude.{All, nat_lt, slice_set, if◌then◌else◌}
use Rattle.vd_execution.specs.declared.instructions.Action.{Action}
use Rattle.vd_execution.specs.Registers.{put}
use Rattle.vd_execution.specs.Code.{Finished, weight}
use borrow.Author.Tests.{ltb-true}
use Rattle.vd_execution.specs.Step.{State, Source, Inputs, OwnWords, Triples, BitTriples, Pairs, Cursors, Need, Nothing, Item, Packet, Unequal, Ended, Deed, need, next}
use Rattle.vd_machine.specs.declared.frames.Frame.{Frame}
use Rattle.vd_machine.specs.declared.frames.Frame.TheVariants.{Run, Loop}
use Rattle.vd_machine.specs.declared.lists.Lists.{Lists}
use Rattle.vd_machine.specs.declared.lists.Taken.{Taken}
use Rattle.vd_machine.specs.declared.ops.Op.{Op}
use Rattle.vd_machine.specs.declared.ops.Plain.TheVariants as plain
use Rattle.vd_machine.specs.declared.ops.Op.TheVariants.{Plain as One}
use Rattle.vd_machine.specs.declared.want.Want.TheVariants as want
use Rattle.vd_machine.specs.Machines.{held, cursors_of, IsLeft, IsMet, words_for, SamePeers}
use Rattle.vd_machine.specs.Wants.{want_of, short, count_of}
use Rattle.vd_machine.specs.Kept.{Kept, state_of, stepped, FrameFits, HasRoom, IsOver, IsSound, Same, frames_code, pending_of, loop_of}
use Rattle.vd_machine.specs.Quietly.{IsQuietAt, IsQuiet, QuietSteps, Quietly, OpActsQuietly, GoesOn, IsFitting, TurnsInPlace, CounterFits, kept_as}
use Rattle.vd_machine.proofs.Framing.{same_refl, popped}
use Rattle.vd_machine.proofs.Spans.{run_want, run_deed}
use Rattle.vd_machine.proofs.Steps.{at_front, one_next, plain_fits, turn_next, turned_at}
use Rattle.vd_machine.proofs.Weights.{step_falls, steps_fall, some_fall}
use Rattle.vd_machine.proofs.Rooms.{plain_room, turned_room}

-- ---- steps in a row

quietly_none : (l : Lists) (s t : State) → t ≡ s → Quietly l s t
quietly_none l s t e = (zero, e)

quietly_one : (l : Lists) (s t : State) → IsQuiet l s → t ≡ next s (words_for l s.cursors [] (need s)) → Quietly l s t
quietly_one l s t q e = (suc zero, (q, e))

both : (n : ℕ) (l : Lists) (s t u : State) → QuietSteps l n s t → Quietly l t u → Quietly l s u
both zero l s t u e q = subst (λ x. Quietly l x u) e q
both (suc n) l s t u p q = let r = both n l (next s (words_for l s.cursors [] (need s))) t u p.1 q in (suc r.0, (p.0, r.1))

pub quietly_both : (l : Lists) (s t u : State) → Quietly l s t → Quietly l t u → Quietly l s u
quietly_both l s t u p q = both p.0 l s t u p.1 q

-- ---- what is quiet

pub quiet_at : (l : Lists) (c : Cursors) (n m : Need) (d e : Deed) → m ≡ n → e ≡ d → IsQuietAt l c n d → IsQuietAt l c m e
quiet_at l c n m d e h k q = record { wants = ap (want_of l c) h ∙ q.wants; unseen = k ∙ q.unseen }

short_is_wanted : (s : Source) (i j : ℕ) → short s i j ≡ want.Nothing → ⊥
short_is_wanted Inputs i j e = cc
short_is_wanted OwnWords i j e = cc
short_is_wanted (Triples p) i j e = cc
short_is_wanted (BitTriples p) i j e = cc
short_is_wanted (Pairs p) i j e = cc

is_left : (b : Bool) (s : Source) (i j : ℕ) → (if b then want.Nothing else short s i j) ≡ want.Nothing → b ≡ true
is_left true s i j e = refl
is_left false s i j e = absurd (short_is_wanted s i j e)

item_left : (l : Lists) (s : Source) (i : ℕ) → i < count_of l s → IsLeft l s i
item_left l Inputs i h = h
item_left l OwnWords i h = h
item_left l (Triples p) i h = h
item_left l (BitTriples p) i h = h
item_left l (Pairs p) i h = h

-- where nothing is wanted, what is needed is there
pub met_alone : (l : Lists) (c : Cursors) (n : Need) → want_of l c n ≡ want.Nothing → IsMet l c [] n
met_alone l c Nothing e = refl
met_alone l c (Item s) e = (item_left l s (c s) (ltb-true (c s) (count_of l s) (is_left (nat_lt (c s) (count_of l s)) s (c s) (count_of l s) e)), refl)
met_alone l c (Packet p k) e = absurd cc
met_alone l c (Unequal x y) e = absurd cc
met_alone l c Ended e = absurd cc

-- ---- a machine goes on

pub goes_both : (m k p : Kept) → k.lists ≡ m.lists → GoesOn m k → GoesOn k p → GoesOn m p
goes_both m k p same a b = record {
  steps = quietly_both m.lists (state_of m) (state_of k) (state_of p) a.steps (subst (λ l. Quietly l (state_of k) (state_of p)) same b.steps);
  fits = b.fits;
  room = λ n r. b.room n (a.room n r);
}

all_len : (n k : ℕ) (code : List Op) (below : List Frame) → k ≡ n → All (λ f. FrameFits n code f) below → All (λ f. FrameFits k code f) below
all_len n k code below e h = subst (λ x. All (λ f. FrameFits x code f) below) (sym e) h

-- what is left of the top part behind an action
pub straight_fits : (r : ℕ) (code : List Op) (at to : ℕ) (i : Op) (a : Action) → FrameFits r code (Run at to) → at < to → i ≡ get_or code at i → i ≡ One (plain.Do a) → FrameFits r code (Run (at + 1) to)
straight_fits r code at to i a fits more is e =
    plain_fits r code at to (plain.Do a) (at_front r code at to (One (plain.Do a)) fits more (subst (λ x. x ≡ get_or code at x) e is))

-- a quiet action at the front of the top part
pub acts_on : (code : List Op) (at to : ℕ) (below : List Frame) (regs regs2 : List ℕ) (l : Lists) (t u : Taken) (i : Op)
    → IsFitting (kept_as code (Run at to) below regs l t) → at < to → i ≡ get_or code at i → OpActsQuietly l (held regs) (held regs2) t u i → length regs2 ≡ length regs → SamePeers l u
    → GoesOn (kept_as code (Run at to) below regs l t) (kept_as code (Run (at + 1) to) below regs2 l u)
acts_on code at to below regs regs2 l t u i fits more is acts len peers =
    let m : Kept = kept_as code (Run at to) below regs l t in
    let a = acts.what in
    let is' : One (plain.Do a) ≡ get_or code at (One (plain.Do a)) = subst (λ x. x ≡ get_or code at x) acts.is is in
    let front = at_front (length regs) code at to (One (plain.Do a)) fits.top more is' in
    let rest = frames_code code below Finished in
    let wants = run_want (length regs) (held regs) code at to (One (plain.Do a)) rest fits.top more is' in
    let does = run_deed (length regs) (held regs) code at to (One (plain.Do a)) rest fits.top more is' in
    record {
      steps = quietly_one l (state_of m) (state_of (kept_as code (Run (at + 1) to) below regs2 l u))
          (quiet_at l (cursors_of t) _ _ _ _ wants does acts.acts.quiet)
          (one_next m at to (plain.Do a) (Run (at + 1) to) below regs2 [] u refl front (same_refl (Run (at + 1) to) below) acts.acts.value acts.acts.cursors);
      fits = record {
        top = subst (λ r. FrameFits r code (Run (at + 1) to)) (sym len) (plain_fits (length regs) code at to (plain.Do a) front);
        below = all_len (length regs) (length regs2) code below len fits.below;
        peers = peers;
      };
      room = λ n r. plain_room n (length regs) code at to (plain.Do a) below front r;
    }

-- ---- the next turn of a loop

pub last_is : {X : Type 0} (xs : List X) (n : ℕ) (x : X) → length xs ≡ suc n → x ≡ get_or xs n x → xs ≡ take n xs ++ x ∷ []
last_is [] n x h e = absurd (omega (arith, h))
last_is (y ∷ []) zero x h e = ap (λ z. z ∷ []) (sym e)
last_is (y ∷ z ∷ xs) zero x h e = absurd (omega (arith, h))
last_is (y ∷ xs) (suc n) x h e = ap (λ l. y ∷ l) (last_is xs n x (omega (arith, h)) e)

pub last_set : {X : Type 0} (xs : List X) (n : ℕ) (x : X) → length xs ≡ suc n → slice_set xs n x ≡ take n xs ++ x ∷ []
last_set [] n x h = absurd (omega (arith, h))
last_set (y ∷ []) zero x h = refl
last_set (y ∷ z ∷ xs) zero x h = absurd (omega (arith, h))
last_set (y ∷ xs) (suc n) x h = ap (λ l. y ∷ l) (last_set xs n x (omega (arith, h)))

-- counters are registers
counter : (r : ℕ) (code : List Op) (f : Frame) → FrameFits r code f → CounterFits r f
counter r code (Run from to) h = tt
counter r code (Loop x turn k from mid to) h = h.0

pub counters : (r : ℕ) (code : List Op) (below : List Frame) → All (λ f. FrameFits r code f) below → All (λ f. CounterFits r f) below
counters r code below h = λ k d less. counter r code (get_or below k d) (h k d less)

-- it is one quiet step
turn_steps : (code : List Op) (top top2 : Frame) (below below2 : List Frame) (regs regs2 : List ℕ) (l : Lists) (t : Taken)
    → IsOver top → TurnsInPlace below below2 top2 (held regs) (held regs2)
    → QuietSteps l (suc zero) (state_of (kept_as code top below regs l t)) (state_of (kept_as code top2 below2 regs2 l t))
turn_steps code top top2 below below2 regs regs2 l t over p =
    let at = p.turning in
    let frame = loop_of at at.turn in
    let same = popped top frame below p.front over p.was in
    let m : Kept = kept_as code frame p.front regs l t in
    let yes : nat_lt at.turn at.turns ≡ true = grind (arith, rules, p.more) in
    let e1 : top2 ≡ (if nat_lt at.turn at.turns then Run at.from at.mid else Run at.mid at.to) = p.top ∙ sym (ap (λ (b : Bool). if b then Run at.from at.mid else Run at.mid at.to) yes) in
    let e2 : below2 ≡ (if nat_lt at.turn at.turns then p.front ++ loop_of at (at.turn + 1) ∷ [] else p.front) = p.is ∙ sym (ap (λ (b : Bool). if b then p.front ++ loop_of at (at.turn + 1) ∷ [] else p.front) yes) in
    let e3 : held regs2 ≡ (if nat_lt at.turn at.turns then put (held regs) at.register at.turn else held regs) = p.counter ∙ sym (ap (λ (b : Bool). if b then put (held regs) at.register at.turn else held regs) yes) in
    let to : state_of (kept_as code top2 below2 regs2 l t) ≡ next (state_of m) [] = turn_next m at top2 top2 below2 below2 regs2 [] refl e1 e2 e3 (same_refl top2 below2) in
    let from : state_of m ≡ state_of (kept_as code top below regs l t) = ap (λ c. let s : State = record { pending = c; registers = held regs; cursors = cursors_of t } in s) (same.code code) in
    subst (λ s. QuietSteps l (suc zero) s (state_of (kept_as code top2 below2 regs2 l t))) from (record { wants = refl; unseen = refl }, to)

pub turns_on : (code : List Op) (top top2 : Frame) (below below2 : List Frame) (regs regs2 : List ℕ) (l : Lists) (t : Taken)
    → IsFitting (kept_as code top below regs l t) → IsOver top → TurnsInPlace below below2 top2 (held regs) (held regs2) → length regs2 ≡ length regs
    → GoesOn (kept_as code top below regs l t) (kept_as code top2 below2 regs2 l t)
turns_on code top top2 below below2 regs regs2 l t fits over p len =
    let at = p.turning in
    let frame = loop_of at at.turn in
    let same = popped top frame below p.front over p.was in
    let fitting = same.fits (length regs) code fits.top fits.below in
    let turned = turned_at true (length regs2) code at p.front (λ e. p.more) (subst (λ r. FrameFits r code frame) (sym len) fitting.0) (all_len (length regs) (length regs2) code p.front len fitting.1) in
    record {
      steps = (suc zero, turn_steps code top top2 below below2 regs regs2 l t over p);
      fits = record {
        top = subst (λ f. FrameFits (length regs2) code f) (sym p.top) turned.0;
        below = subst (λ b. All (λ f. FrameFits (length regs2) code f) b) (sym p.is) turned.1;
        peers = fits.peers;
      };
      room = λ n r. subst (λ f. HasRoom n code f below2) (sym p.top) (subst (λ b. HasRoom n code (Run at.from at.mid) b) (sym p.is) (turned_room n code at p.front true (same.room n code r)));
    }

-- a straight run behind what was done
pub straight_on : (m : Kept) (code : List Op) (top : Frame) (from to at : ℕ) (below : List Frame) (regs regs2 : List ℕ) (t u : Taken)
    → GoesOn m (kept_as code top below regs m.lists t) → top ≡ Run from to
    → (IsFitting (kept_as code (Run from to) below regs m.lists t) → GoesOn (kept_as code (Run from to) below regs m.lists t) (kept_as code (Run at to) below regs2 m.lists u))
    → GoesOn m (kept_as code (Run at to) below regs2 m.lists u)
straight_on m code top from to at below regs regs2 t u so_far is straight =
    let begun : GoesOn m (kept_as code (Run from to) below regs m.lists t) = subst (λ f. GoesOn m (kept_as code f below regs m.lists t)) is so_far in
    goes_both m (kept_as code (Run from to) below regs m.lists t) (kept_as code (Run at to) below regs2 m.lists u) refl begun (straight begun.fits)

-- frames that are over go
pub goes_settled : (code : List Op) (top top2 : Frame) (below below2 : List Frame) (regs : List ℕ) (l : Lists) (t : Taken)
    → IsFitting (kept_as code top below regs l t) → Same top below top2 below2 → GoesOn (kept_as code top below regs l t) (kept_as code top2 below2 regs l t)
goes_settled code top top2 below below2 regs l t fits same =
    let z = same.fits (length regs) code fits.top fits.below in
    record {
      steps = quietly_none l (state_of (kept_as code top below regs l t)) (state_of (kept_as code top2 below2 regs l t))
          (ap (λ c. let s : State = record { pending = c; registers = held regs; cursors = cursors_of t } in s) (same.code code));
      fits = record { top = z.0; below = z.1; peers = fits.peers };
      room = λ n r. same.room n code r;
    }

pub fitting : (m : Kept) → IsSound m → IsFitting m
fitting m sound = record { top = sound.top; below = sound.below; peers = sound.peers }

-- ---- what is pending falls

pub quietly_falls : (l : Lists) (s t : State) → Quietly l s t → weight t.pending ≤ weight s.pending
quietly_falls l s t p = let h = steps_fall p.0 l s t p.1 in omega (arith, h)

-- a straight run, and the next turn
pub turning_falls : (code : List Op) (top : Frame) (from to at : ℕ) (top2 : Frame) (below below2 : List Frame) (regs regs2 regs3 : List ℕ) (l : Lists) (t u : Taken)
    → top ≡ Run from to → GoesOn (kept_as code (Run from to) below regs l t) (kept_as code (Run at to) below regs2 l u) → to ≤ at → TurnsInPlace below below2 top2 (held regs2) (held regs3)
    → weight (pending_of code top2 below2) < weight (pending_of code top below)
turning_falls code top from to at top2 below below2 regs regs2 regs3 l t u is straight over turns =
    let one : weight (pending_of code top2 below2) < weight (pending_of code (Run at to) below) =
    some_fall zero l _ _ (turn_steps code (Run at to) top2 below below2 regs2 regs3 l u over turns) in
    let all : weight (pending_of code (Run at to) below) ≤ weight (pending_of code (Run from to) below) = quietly_falls l _ _ straight.steps in
    let same : weight (pending_of code top below) ≡ weight (pending_of code (Run from to) below) = ap (λ f. weight (pending_of code f below)) is in
    omega (arith, one, all, same)

-- ---- quiet steps, and one more by itself

pub then_one : (start at one last : Kept) → at.lists ≡ start.lists → one.lists ≡ at.lists → Quietly start.lists (state_of start) (state_of at) → Quietly at.lists (state_of at) (state_of one)
    → IsQuiet one.lists (state_of one) → state_of last ≡ stepped one [] → Quietly start.lists (state_of start) (state_of last)
then_one start at one last e f so_far steps quiet is =
    quietly_both start.lists (state_of start) (state_of one) (state_of last)
    (quietly_both start.lists (state_of start) (state_of at) (state_of one) so_far (subst (λ l. Quietly l (state_of at) (state_of one)) e steps))
    (quietly_one start.lists (state_of one) (state_of last) (subst (λ l. IsQuiet l (state_of one)) (f ∙ e) quiet)
    (is ∙ ap (λ l. next (state_of one) (words_for l (cursors_of one.taken) [] (need (state_of one)))) (f ∙ e)))

pub then_falls : (at one last : Kept) → Quietly at.lists (state_of at) (state_of one) → IsQuiet one.lists (state_of one) → state_of last ≡ stepped one [] → weight (state_of last).pending < weight (state_of at).pending
then_falls at one last steps quiet is =
    let words = words_for one.lists (cursors_of one.taken) [] (need (state_of one)) in
    let a : weight (state_of one).pending ≤ weight (state_of at).pending = quietly_falls at.lists (state_of at) (state_of one) steps in
    let b : weight (next (state_of one) words).pending < weight (state_of one).pending = step_falls one.lists (state_of one) words quiet in
    let e : weight (state_of last).pending ≡ weight (next (state_of one) words).pending = ap (λ (s : State). weight s.pending) is in
    omega (arith, a, b, e)
