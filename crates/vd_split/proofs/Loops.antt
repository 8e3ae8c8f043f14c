-- Branches and loops.
use Rattle.std.proofs.Common.{◌≡◌, ◌≢◌, ℕ, zero, suc, ◌+◌, ◌^◌, ◌<◌, ◌≤◌, Bool, true, false, ◌||◌, nat_eq, if◌then◌else◌, List, [], ◌∷◌, ◌++◌, length, map, slice_index, inl, inr, refl, sym, ap, ◌∙◌, subst, arith, append_assoc, append-nil, length-append}
use native.Mathlib.Decide.{ℕ_discrete}
use Rattle.vd_base.specs.declared.ids.HostId.{HostId}
use Rattle.vd_base.specs.declared.ids.SlotId.{SlotId}
use Rattle.vd_base.specs.declared.protocols.Proto.{Proto}
use Rattle.vd_base.specs.HostSets.{host}
use Rattle.vd_core.specs.Facts.{Sight}
use Rattle.vd_semantics.specs.Turns.{turns}
use Rattle.vd_semantics.specs.ProgramMeaning.{SlotState, Effect, in_order, word_at}
use Rattle.vd_execution.specs.Plans.{Ends, Branch}
use Rattle.vd_split.specs.Joint.{Hosts, IsIn, Each, joint, branch, choice, Goes}
use Rattle.vd_split.specs.Suite.{picked, Suite, Laws, Made}
use Rattle.vd_split.specs.Emission.{Emitted, Emission, delivered, if_made, for_made, loop_registers, after_loop_registers}
use Rattle.vd_split.specs.Validity.{Reaches}
use Rattle.vd_split.proofs.Lists.{front_kept}
use Rattle.vd_split.proofs.Runs.{joint_acts, goes_acts}
use Rattle.vd_split.proofs.Sight.{Use, Binding, Sees, content}
use Rattle.vd_split.proofs.Tied.{part, Unchanging, Tied, tied_on, tied_past, tied_held, tied_less}
use Rattle.vd_split.proofs.Calls.{deliver, picked_join, Reached}
use Rattle.vd_split.proofs.ChoreographyRights.{operand_of}
use Rattle.vd_split.proofs.ChoreographySteps.{E, Ties, TurnsIn, After}

-- the registers of a loop are the first free ones of the hosts that have it
is_loop_register : (has : ℕ → Bool) (k : ℕ) (next : List ℕ) (i : ℕ) → i < length next → has (k + i) ≡ true → IsIn (loop_registers has k next) (k + i) (slice_index next i)
is_loop_register has k [] i lt h = absurd (omega arith)
is_loop_register has k (r ∷ rs) zero lt h = at (has k) (ap has (none k) ∙ h)
  where
    none : (k : ℕ) → k ≡ k + 0
    none k = omega arith

    at : (b : Bool) → b ≡ true → IsIn (if b then (k, r) ∷ loop_registers has (k + 1) rs else loop_registers has (k + 1) rs) (k + 0) r
    at true e = inl (sym (none k), refl)
    at false e = cc
is_loop_register has k (r ∷ rs) (suc i) lt h = at (is_loop_register has (k + 1) rs i (omega arith) (ap has (sym (more k i)) ∙ h)) (has k)
  where
    more : (k i : ℕ) → k + suc i ≡ k + 1 + i
    more k i = omega arith

    at : IsIn (loop_registers has (k + 1) rs) (k + 1 + i) (slice_index rs i) → (b : Bool) → IsIn (if b then (k, r) ∷ loop_registers has (k + 1) rs else loop_registers has (k + 1) rs) (k + suc i) (slice_index rs i)
    at ih true = inr (subst (λ z. IsIn (loop_registers has (k + 1) rs) z (slice_index rs i)) (sym (more k i)) ih)
    at ih false = subst (λ z. IsIn (loop_registers has (k + 1) rs) z (slice_index rs i)) (sym (more k i)) ih

pub not_below : (has : ℕ → Bool) (k : ℕ) (next : List ℕ) (h r : ℕ) → IsIn (loop_registers has k next) h r → (i : ℕ) × (i < length next) × (h ≡ k + i) × (r ≡ slice_index next i)
not_below has k [] h r q = absurd q
not_below has k (x ∷ xs) h r q = at (not_below has (k + 1) xs h r) (has k) q
  where
    later : (i : ℕ) × (i < length xs) × (h ≡ k + 1 + i) × (r ≡ slice_index xs i) → (i : ℕ) × (i < length (x ∷ xs)) × (h ≡ k + i) × (r ≡ slice_index (x ∷ xs) i)
    later p = let lt = p.1 in let e = p.2 in (suc p.0, omega arith, omega arith, p.3)

    none : (k : ℕ) → k ≡ k + 0
    none k = omega arith

    at : (IsIn (loop_registers has (k + 1) xs) h r → (i : ℕ) × (i < length xs) × (h ≡ k + 1 + i) × (r ≡ slice_index xs i)) → (b : Bool)
        → IsIn (if b then (k, x) ∷ loop_registers has (k + 1) xs else loop_registers has (k + 1) xs) h r → (i : ℕ) × (i < length (x ∷ xs)) × (h ≡ k + i) × (r ≡ slice_index (x ∷ xs) i)
    at f true (inl e) = (0, omega arith, e.0 ∙ none k, e.1)
    at f true (inr q) = later (f q)
    at f false q = later (f q)

pub after_known : (has : ℕ → Bool) (k : ℕ) (next : List ℕ) → length (after_loop_registers has k next) ≡ length next
after_known has k [] = refl
after_known has k (r ∷ rs) = ap suc (after_known has (k + 1) rs)

pub after_longer : (has : ℕ → Bool) (k : ℕ) (next : List ℕ) (i : ℕ) → slice_index next i ≤ slice_index (after_loop_registers has k next) i
after_longer has k [] i = omega arith
after_longer has k (r ∷ rs) zero = at (has k)
  where
    at : (b : Bool) → r ≤ (if b then r + 1 else r)
    at true = omega arith
    at false = omega arith
after_longer has k (r ∷ rs) (suc i) = after_longer has (k + 1) rs i

after_above : (has : ℕ → Bool) (k : ℕ) (next : List ℕ) (i : ℕ) → i < length next → has (k + i) ≡ true → slice_index next i < slice_index (after_loop_registers has k next) i
after_above has k [] i lt h = absurd (omega arith)
after_above has k (r ∷ rs) zero lt h = at (has k) (ap has (none k) ∙ h)
  where
    none : (k : ℕ) → k ≡ k + 0
    none k = omega arith

    at : (b : Bool) → b ≡ true → r < (if b then r + 1 else r)
    at true e = omega arith
    at false e = cc
after_above has k (r ∷ rs) (suc i) lt h = after_above has (k + 1) rs i (omega arith) (ap has (sym (more k i)) ∙ h)
  where
    more : (k i : ℕ) → k + suc i ≡ k + 1 + i
    more k i = omega arith

from_zero : (h : ℕ) → 0 + h ≡ h
from_zero h = omega arith

pub has_register : (has : ℕ → Bool) (next : List ℕ) (h : ℕ) → h < length next → has h ≡ true → IsIn (loop_registers has 0 next) h (slice_index next h)
has_register has next h lt is = subst (λ z. IsIn (loop_registers has 0 next) z (slice_index next h)) (from_zero h) (is_loop_register has 0 next h lt (ap has (from_zero h) ∙ is))

pub register_taken : (has : ℕ → Bool) (next : List ℕ) (h : ℕ) → h < length next → has h ≡ true → slice_index next h < slice_index (after_loop_registers has 0 next) h
register_taken has next h lt is = after_above has 0 next h lt (ap has (from_zero h) ∙ is)

module _ (m : Hosts) (s : Suite m) (proto : ℕ → Proto) (laws : Laws m s) (declared : (x : ℕ) → s.Declared (proto x)) where
  -- what a block comes to from any state that it can begin in
  abbrev pub Comes : Emission s.calls proto → (ℕ → SlotState → SlotState) → Sight → Sight → ℕ → (ℕ → Bool) → ℕ → Type 0
  Comes f effect o o' n needs k =
      (e : E m s proto) (w : m.World) (c : SlotState) (turn : ℕ) (has : ℕ → Bool) → length e.held ≡ k → ((h : ℕ) → needs h ≡ true → has h ≡ true) → turn < 2 ^ 32
      → Ties m s proto o e w c → TurnsIn m s proto has o e w turn → After m s proto o o' e (f.emit e) n w (effect turn c)

  -- the registers go on, and so do the slots in sight outside
  wider : (o : Sight) (next next' : List ℕ) (held more : List s.Parts) (w : m.World) (c : SlotState) → Tied m s proto o next held w c → length next' ≡ length next → ((h : ℕ) → slice_index next h ≤ slice_index next' h)
      → Tied m s proto o next' (held ++ more) w c
  wider o next next' held more w c t known longer =
      tied_held m s proto laws o next' held more w c
      (tied_on m s proto laws o next next' held w w c t t.ready.sound (record { printed = λ h. refl; waiting = λ h. refl }) (λ h r lt. refl) known longer)

  -- from where a block ended back to what was held before it
  back : (o : Sight) (next next' : List ℕ) (held held' more : List s.Parts) (w w' : m.World) (c c' : SlotState) → Tied m s proto o next held w c → held' ≡ held ++ more → Tied m s proto o next' held' w' c' → Tied m s proto o next held w' c'
  back o next next' held held' more w w' c c' t is t' = record {
    ready = record { known = t.ready.known; sound = t'.ready.sound };
    made = t.made;
    below = t.below;
    apart = t.apart;
    stands = λ u x i. subst (λ z. s.Stands w' (proto x) z (content u c' x)) (ap (λ (l : List s.Parts). part m s proto l x) is ∙ front_kept held more x s.calls.nowhere (t.made u x i)) (t'.stands u x i);
    outside = t'.outside;
  }

  module _ (o o' : Sight) (body : Emission s.calls proto) (effect : ℕ → SlotState → SlotState) (n k : ℕ) (needs : ℕ → Bool) (comes : Comes body effect o o' n needs k)
      (covers : (h : ℕ) → needs h ≡ true → body.acts_at h ≡ true) (e : E m s proto) (w : m.World) (c : SlotState) (is : length e.held ≡ k) (t : Ties m s proto o e w c) where
    abbrev pub ps : List (ℕ × ℕ)
    ps = loop_registers body.acts_at 0 e.next

    abbrev pub inner : E m s proto
    inner = record { next = after_loop_registers body.acts_at 0 e.next; held = e.held; loop = e.next }

    abbrev pub made : Emitted s.calls proto
    made = body.emit inner

    abbrev pub at_turn : ℕ → m.World
    at_turn i = turns i (λ j v. joint m made.tree (m.begun ps j v)) w

    abbrev pub clear_at : ℕ → SlotState
    clear_at i = turns i effect c

    -- where a loop stands before turn i
    pub record Turned (i : ℕ) : Type 0 where
      pub tied : Ties m s proto o e (at_turn i) (clear_at i)
      pub kept : (h r : ℕ) → r < slice_index e.next h → Unchanging m s proto o e.held h r → m.word (at_turn i) h r ≡ m.word w h r

    fresh_ones : (h r : ℕ) → r < slice_index e.next h → IsIn ps h r → ⊥
    fresh_ones h r lt q =
        let p = not_below body.acts_at 0 e.next h r q in
        let a = p.2 in
        let b = p.3 in
        let same : slice_index e.next h ≡ slice_index e.next p.0 = ap (slice_index e.next) (a ∙ from_zero p.0) in
        omega (arith, lt, b, same)

    pub begins : (i : ℕ) → i < 2 ^ 32 → Turned i → Tied m s proto o inner.next inner.held (m.begun ps i (at_turn i)) (clear_at i)
    begins i small u =
        tied_on m s proto laws o e.next inner.next e.held (at_turn i) (m.begun ps i (at_turn i)) (clear_at i) u.tied (laws.begun_sound (at_turn i) ps i small u.tied.ready.sound)
        (record { printed = laws.begun_prints (at_turn i) ps i; waiting = laws.begun_waits (at_turn i) ps i }) (λ h r lt. laws.begun_keeps (at_turn i) ps i h r (fresh_ones h r lt))
        (after_known body.acts_at 0 e.next) (after_longer body.acts_at 0 e.next)

    pub turning : (i : ℕ) → Turned i → TurnsIn m s proto body.acts_at o inner (m.begun ps i (at_turn i)) i
    turning i u h within has =
        let lt : h < length e.next = subst (λ z. h < z) (sym t.ready.known) within in
        (laws.begun_sets (at_turn i) ps i h (slice_index e.next h) (has_register body.acts_at e.next h lt has), register_taken body.acts_at e.next h lt has, λ v y j q named. above h (t.below v y j h (slice_index e.next h) named))
      where
        above : (h : ℕ) → slice_index e.next h < slice_index e.next h → ⊥
        above h lt = omega arith

    turn_after : (i : ℕ) → i < 2 ^ 32 → Turned i → After m s proto o o' inner made n (m.begun ps i (at_turn i)) (effect i (clear_at i))
    turn_after i small u = comes inner (m.begun ps i (at_turn i)) (clear_at i) i body.acts_at is covers small (begins i small u) (turning i u)

    pub all_turns : (i : ℕ) → i ≤ 2 ^ 32 → Turned i
    all_turns zero small = record { tied = t; kept = λ h r lt u. refl }
    all_turns (suc i) small =
        let u = all_turns i (omega arith) in
        let a = turn_after i small u in
        let tied' = tied_less m s proto laws o o' made.state.next made.state.held a.reached (effect i (clear_at i)) a.tied a.seen in
        record {
          tied = subst (λ z. Ties m s proto o e z (clear_at (suc i))) (sym a.runs) (back o e.next made.state.next e.held made.state.held a.more w a.reached c (effect i (clear_at i)) t a.held tied');
          kept = λ h r lt v. ap (λ z. m.word z h r) a.runs ∙ a.kept h r (let le = after_longer body.acts_at 0 e.next h in omega arith) v ∙ laws.begun_keeps (at_turn i) ps i h r (fresh_ones h r lt) ∙ u.kept h r lt v;
        }

    pub loop_after : (count : ℕ) → count ≤ 2 ^ 32 → After m s proto o o e (for_made s.calls proto count body e) n w (turns count effect c)
    loop_after count small =
        let first = turn_after 0 (omega arith) (all_turns 0 (omega arith)) in
        let last = all_turns count small in
        record {
          reached = at_turn count;
          runs = refl;
          goes = ((λ i lt. (turn_after i (omega arith) (all_turns i (omega arith))).goes), tt);
          tied = subst (λ l. Tied m s proto o made.state.next l (at_turn count) (clear_at count)) (sym first.held)
              (wider o e.next made.state.next e.held first.more (at_turn count) (clear_at count) last.tied (known first) (λ h. longer h (after_longer body.acts_at 0 e.next h) (first.longer h)));
          more = first.more;
          held = first.held;
          many = first.many;
          longer = λ h. longer h (after_longer body.acts_at 0 e.next h) (first.longer h);
          loop = refl;
          seen = λ u x i. i;
          fresh = λ v y i j. inl i;
          kept = last.kept;
        }
      where
        known : After m s proto o o' inner made n (m.begun ps 0 w) (effect 0 c) → length made.state.next ≡ length e.next
        known a = a.tied.ready.known ∙ sym t.ready.known

        longer : (h : ℕ) → slice_index e.next h ≤ slice_index inner.next h → slice_index inner.next h ≤ slice_index made.state.next h → slice_index e.next h ≤ slice_index made.state.next h
        longer h a b = omega arith

  -- a host that passes a test is picked
  pub none_picked : (test : ℕ → Bool) (from n : ℕ) → length (picked from n test) ≡ 0 → (h : ℕ) → from ≤ h → h < from + n → test h ≡ false
  none_picked test from zero none h le lt = absurd (omega arith)
  none_picked test from (suc n) none h le lt = at (none_picked test (from + 1) n) (test from) refl none
    where
      opposite : {A : Type 0} (x : A) (xs : List A) → length (x ∷ xs) ≡ 0 → ⊥
      opposite x xs e = omega arith

      at : (length (picked (from + 1) n test) ≡ 0 → (h : ℕ) → from + 1 ≤ h → h < from + 1 + n → test h ≡ false) → (b : Bool) → test from ≡ b
          → length (if b then host from ∷ picked (from + 1) n test else picked (from + 1) n test) ≡ 0 → test h ≡ false
      at ih true is none = absurd (opposite (host from) (picked (from + 1) n test) none)
      at ih false is none = elim (ℕ_discrete h from) [ yes e ↦ ap test e ∙ is | no d ↦ ih none h (higher d) (omega arith) ]
        where
          higher : h ≢ from → from + 1 ≤ h
          higher d = grind (arith)

  -- the loop's registers are still there
  turns_wider : (o : Sight) (e e' : E m s proto) (w w' : m.World) (turn : ℕ) (has : ℕ → Bool) (more : List s.Parts) → ((u : Use) (x : ℕ) → Sees o u x → x < length e.held) → e'.held ≡ e.held ++ more → e'.loop ≡ e.loop
      → ((h : ℕ) → slice_index e.next h ≤ slice_index e'.next h) → ((h r : ℕ) → r < slice_index e.next h → m.word w' h r ≡ m.word w h r) → TurnsIn m s proto has o e w turn → TurnsIn m s proto has o e' w' turn
  turns_wider o e e' w w' turn has more made held loop longer kept ts h within i =
      let q = ts h within i in
      let P : List ℕ → Type 0 = λ l. (m.word w' h (slice_index l h) ≡ turn) × (slice_index l h < slice_index e'.next h) × Unchanging m s proto o e'.held h (slice_index l h) in
      subst P (sym loop) (kept h (slice_index e.loop h) q.1 ∙ q.0, further h q.1 (longer h), λ v y j k named. q.2 v y j k (subst (λ z. s.Names z h (slice_index e.loop h)) (same v y j) named))
    where
      further : (h : ℕ) → slice_index e.loop h < slice_index e.next h → slice_index e.next h ≤ slice_index e'.next h → slice_index e.loop h < slice_index e'.next h
      further h a b = omega arith

      same : (v : Use) (y : ℕ) → Sees o v y → part m s proto e'.held y ≡ part m s proto e.held y
      same v y j = ap (λ (l : List s.Parts). part m s proto l y) held ∙ front_kept e.held more y s.calls.nowhere (made v y j)

  module _ (o o1 o2 : Sight) (then_do else_do : Emission s.calls proto) (gs fs : List Effect) (n1 n2 k : ℕ) (needs1 needs2 : ℕ → Bool)
      (comes1 : Comes then_do (in_order gs) o o1 n1 needs1 k) (comes2 : Comes else_do (in_order fs) o o2 n2 needs2 (k + n1)) (x : SlotId) (sees : Sees o Binding x.0)
      (reaches : Reaches m s proto x (λ h. then_do.takes_part h || else_do.takes_part h))
      (idle : ((h : ℕ) → h < s.calls.hosts → (then_do.takes_part h || else_do.takes_part h) ≡ false) → (b : Bool) (turn : ℕ) (c : SlotState) → in_order (if b then fs else gs) turn c ≡ c)
      (e : E m s proto) (w : m.World) (c : SlotState) (turn : ℕ) (has : ℕ → Bool) (is : length e.held ≡ k) (covers1 : (h : ℕ) → needs1 h ≡ true → has h ≡ true) (covers2 : (h : ℕ) → needs2 h ≡ true → has h ≡ true)
      (small : turn < 2 ^ 32) (t : Ties m s proto o e w c) (ts : TurnsIn m s proto has o e w turn) where
    abbrev pub test : ℕ → Bool
    test h = then_do.takes_part h || else_do.takes_part h

    abbrev pub guard : Made m.Act (List (ℕ × ℕ))
    guard = delivered s.calls proto (proto x.0) (part m s proto e.held x.0) (picked 0 s.calls.hosts test) e.next

    pub reached : Reached m s laws e.next w (picked 0 s.calls.hosts test) guard (word_at c x)
    reached =
        deliver m s laws proto (proto x.0) (declared x.0) (part m s proto e.held x.0) (word_at c x) (picked 0 s.calls.hosts test)
        (picked_join m s laws proto (proto x.0) test 0 s.calls.hosts (λ h lt i. reaches h (within lt) i) (omega arith)) e.next w t.ready (operand_of m s proto laws declared o e.next e.held w c t x.0 sees)
      where
        within : {h : ℕ} → h < 0 + s.calls.hosts → h < s.calls.hosts
        within lt = omega arith

    abbrev pub w1 : m.World
    w1 = reached.between.reached

    abbrev pub e1 : E m s proto
    e1 = record { next = guard.next; held = e.held; loop = e.loop }

    tied1 : Ties m s proto o e1 w1 c
    tied1 = let b = reached.between in tied_past m s proto laws o e.next guard.next e.held w b.reached c guard.acts t b.leads b.quiet b.known b.longer

    turns1 : TurnsIn m s proto has o e1 w1 turn
    turns1 = let b = reached.between in turns_wider o e e1 w w1 turn has [] t.made (sym (append-nil e.held)) refl b.longer (λ h r lt. b.leads.kept h r lt (λ z. z)) ts

    abbrev pub first : Emitted s.calls proto
    first = then_do.emit e1

    after1 : After m s proto o o1 e1 first n1 w1 (in_order gs turn c)
    after1 = comes1 e1 w1 c turn has is covers1 small tied1 turns1

    tied2 : Ties m s proto o first.state w1 c
    tied2 =
        subst (λ l. Tied m s proto o first.state.next l w1 c) (sym after1.held)
        (wider o e1.next first.state.next e.held after1.more w1 c tied1 (after1.tied.ready.known ∙ sym tied1.ready.known) after1.longer)

    turns2 : TurnsIn m s proto has o first.state w1 turn
    turns2 = turns_wider o e1 first.state w1 w1 turn has after1.more t.made after1.held after1.loop after1.longer (λ h r lt. refl) turns1

    held2 : length first.state.held ≡ k + n1
    held2 = ap length after1.held ∙ length-append e.held after1.more ∙ sum is after1.many
      where
        sum : {i j : ℕ} → i ≡ k → j ≡ n1 → i + j ≡ k + n1
        sum p q = omega arith

    abbrev pub second : Emitted s.calls proto
    second = else_do.emit first.state

    after2 : After m s proto o o2 first.state second n2 w1 (in_order fs turn c)
    after2 = comes2 first.state w1 c turn has held2 covers2 small tied2 turns2

    -- where the first and the other block begin
    pub begins_at : (Ties m s proto o e1 w1 c × TurnsIn m s proto has o e1 w1 turn) × (Ties m s proto o first.state w1 c × TurnsIn m s proto has o first.state w1 turn × (length first.state.held ≡ k + n1))
    begins_at = ((tied1, turns1), (tied2, turns2, held2))

    -- where a branch leads
    record Branched (given : List (ℕ × ℕ)) (c' : SlotState) : Type 0 where
      ends : m.World
      runs : branch m given w1 w1 (joint m first.tree w1) (joint m second.tree w1) ≡ ends
      goes : Goes m (Branch given first.tree second.tree Ends) w1
      tied : Ties m s proto o second.state ends c'
      kept : (h r : ℕ) → r < slice_index e1.next h → Unchanging m s proto o e.held h r → m.word ends h r ≡ m.word w1 h r

    alike : (b : Bool) → nat_eq (word_at c x) 0 ≡ b → (given : List (ℕ × ℕ)) → Each (λ q. (m.word w1 q.0 q.1 ≡ word_at c x) × (q.1 < slice_index guard.next q.0)) given → Each (λ q. nat_eq (m.word w1 q.0 q.1) 0 ≡ b) given
    alike b zero_test [] words = tt
    alike b zero_test (q ∷ qs) words = (ap (λ z. nat_eq z 0) words.0.0 ∙ zero_test, alike b zero_test qs words.1)

    unchanging2 : (h r : ℕ) → Unchanging m s proto o e.held h r → Unchanging m s proto o first.state.held h r
    unchanging2 h r u v y i k named = u v y i k (subst (λ z. s.Names z h r) (ap (λ (l : List s.Parts). part m s proto l y) after1.held ∙ front_kept e.held after1.more y s.calls.nowhere (t.made v y i)) named)

    branched : (b : Bool) → nat_eq (word_at c x) 0 ≡ b → (given : List (ℕ × ℕ)) → (length given ≡ 0 → (h : ℕ) → h < s.calls.hosts → test h ≡ false)
        → Each (λ q. (m.word w1 q.0 q.1 ≡ word_at c x) × (q.1 < slice_index guard.next q.0)) given → Branched given (in_order (if b then fs else gs) turn c)
    branched b is_b [] none words = record {
      ends = w1;
      runs = refl;
      goes = ((b, tt), tt, tt);
      tied = subst (λ z. Ties m s proto o second.state w1 z) (sym (idle (none refl) b turn c))
          (subst (λ l. Tied m s proto o second.state.next l w1 c) (sym after2.held)
          (wider o first.state.next second.state.next first.state.held after2.more w1 c tied2 (after2.tied.ready.known ∙ sym tied2.ready.known) after2.longer));
      kept = λ h r lt u. refl;
    }
    branched true is_b (p ∷ ps) none words =
        let all = alike true is_b (p ∷ ps) words in
        record {
          ends = after2.reached;
          runs = ap (λ z. choice z (joint m second.tree w1) (joint m first.tree w1)) all.0 ∙ after2.runs;
          goes = ((true, all), subst (λ z. choice z (Goes m second.tree w1) (Goes m first.tree w1)) (sym all.0) after2.goes, tt);
          tied = tied_less m s proto laws o o2 second.state.next second.state.held after2.reached (in_order fs turn c) after2.tied after2.seen;
          kept = λ h r lt u. after2.kept h r (let le = after1.longer h in omega arith) (unchanging2 h r u);
        }
    branched false is_b (p ∷ ps) none words =
        let all = alike false is_b (p ∷ ps) words in
        record {
          ends = after1.reached;
          runs = ap (λ z. choice z (joint m second.tree w1) (joint m first.tree w1)) all.0 ∙ after1.runs;
          goes = ((false, all), subst (λ z. choice z (Goes m second.tree w1) (Goes m first.tree w1)) (sym all.0) after1.goes, tt);
          tied = subst (λ l. Tied m s proto o second.state.next l after1.reached (in_order gs turn c)) (sym after2.held)
              (wider o first.state.next second.state.next first.state.held after2.more after1.reached (in_order gs turn c)
              (tied_less m s proto laws o o1 first.state.next first.state.held after1.reached (in_order gs turn c) after1.tied after1.seen) (after2.tied.ready.known ∙ sym tied2.ready.known) after2.longer);
          kept = λ h r lt u. after1.kept h r lt u;
        }

    lengths : (xs : List (ℕ × ℕ)) (hs : List HostId) → map (λ q. q.0) xs ≡ map (λ h. h.0) hs → length xs ≡ 0 → length hs ≡ 0
    lengths [] [] e z = refl
    lengths [] (h ∷ hs) e z = cc
    lengths (x ∷ xs) hs e z = absurd (omega arith)

    pub branch_after : After m s proto o o e (if_made s.calls proto x then_do else_do e) (n1 + n2) w (in_order (if nat_eq (word_at c x) 0 then fs else gs) turn c)
    branch_after =
        let b = reached.between in
        let r = branched (nat_eq (word_at c x) 0) refl guard.given (λ z h lt. none_picked test 0 s.calls.hosts (lengths guard.given (picked 0 s.calls.hosts test) reached.there.placed z) h (omega arith) (within lt)) reached.there.words in
        record {
          reached = r.ends;
          runs = joint_acts m guard.acts (Branch guard.given first.tree second.tree Ends) w ∙ ap (λ z. joint m (Branch guard.given first.tree second.tree Ends) z) b.leads.runs ∙ r.runs;
          goes = goes_acts m guard.acts (Branch guard.given first.tree second.tree Ends) w b.leads.fine (subst (Goes m (Branch guard.given first.tree second.tree Ends)) (sym b.leads.runs) r.goes);
          tied = r.tied;
          more = after1.more ++ after2.more;
          held = after2.held ∙ ap (λ (l : List s.Parts). l ++ after2.more) after1.held ∙ append_assoc e.held after1.more after2.more;
          many = length-append after1.more after2.more ∙ sum after1.many after2.many;
          longer = λ h. longer h (b.longer h) (after1.longer h) (after2.longer h);
          loop = after2.loop ∙ after1.loop;
          seen = λ u y i. i;
          fresh = λ v y i j. inl i;
          kept = λ h q lt u. r.kept h q (above h (b.longer h) lt) u ∙ b.leads.kept h q lt (λ z. z);
        }
      where
        within : {h : ℕ} → h < s.calls.hosts → h < 0 + s.calls.hosts
        within lt = omega arith

        sum : {i j : ℕ} → i ≡ n1 → j ≡ n2 → i + j ≡ n1 + n2
        sum p q = omega arith

        longer : (h : ℕ) → slice_index e.next h ≤ slice_index guard.next h → slice_index guard.next h ≤ slice_index first.state.next h → slice_index first.state.next h ≤ slice_index second.state.next h → slice_index e.next h ≤ slice_index second.state.next h
        longer h p q r = omega arith

        above : (h : ℕ) {r : ℕ} → slice_index e.next h ≤ slice_index guard.next h → r < slice_index e.next h → r < slice_index guard.next h
        above h p q = omega arith
