-- Plans of programs are tidy: each act is well formed, and whoever has an instruction inside a branch or a loop takes part in it.
use Rattle.std.proofs.Common.{◌≡◌, ◌≢◌, ℕ, zero, suc, ◌+◌, ◌^◌, ◌<◌, ◌≤◌, nat_eq, Bool, true, false, ◌||◌, if◌then◌else◌, List, [], ◌∷◌, ◌++◌, length, slice_index, ◌⊎◌, inl, inr, refl, sym, ap, ◌∙◌, subst, arith, length-append}
use Rattle.std.proofs.lemmas.Bool.{eq-eqb, eqb-true}
use Rattle.std.specs.List.{list_any}
use native.Mathlib.Decide.{ℕ_discrete}
use Rattle.vd_base.specs.declared.ids.HostId.{HostId}
use Rattle.vd_base.specs.declared.ids.SlotId.{SlotId}
use Rattle.vd_base.specs.declared.protocols.Proto.{Proto}
use Rattle.vd_base.specs.declared.protocols.Proto.TheVariants.{Local}
use Rattle.vd_base.specs.HostSets.{host}
use Rattle.vd_base.specs.Holders.{is_holder}
use Rattle.vd_core.specs.Facts.{Sight}
use Rattle.vd_semantics.specs.ProgramMeaning.{SlotState, stmt_effect}
use Rattle.vd_execution.specs.Joint.{Apart, TakesPart}
use Rattle.vd_execution.specs.Plans.{Plan, Ends, Then, Branch, Loop}
use Rattle.vd_duet.specs.Laws.{IsHost}
use Rattle.vd_split.specs.Block.{Block, End, Let, NewVar, NewArray, Store, Put, Output, If as IfB, For as ForB, each}
use Rattle.vd_split.specs.Joint.{Hosts, Each, IsIn, acts_then, and_then}
use Rattle.vd_split.specs.Suite.{picked, Made, Suite, Laws, holders_among}
use Rattle.vd_split.specs.Emission.{Emission, Emitted, delivered, delivered_at, right_acts_at, loop_registers, after_loop_registers}
use Rattle.vd_split.specs.Validity.{Fits, emission_of, turns_at, Placed}
use Rattle.vd_split.specs.ChoreographyPlaces.{is_part, acting, active, Tidy, NeedsItsLoops, Where, Places}
use Rattle.vd_split.proofs.Lists.{and_left, and_right, or_left, or_right, or_cases, AreApart, InRow, row_front, row_back}
use Rattle.vd_split.proofs.Sight.{Binding, Variable, Array, with_use}
use Rattle.vd_split.proofs.Tied.{part}
use Rattle.vd_split.proofs.Calls.{picked_join}
use Rattle.vd_split.proofs.ChoreographyRights.{operand_of}
use Rattle.vd_split.proofs.ChoreographySteps.{E, Ties, TurnsIn, After, turns_past, let_after, var_after, array_after, store_after, put_after, output_after}
use Rattle.vd_split.proofs.Loops.{has_register, begins, turning, all_turns, loop_after, branch_after, begins_at}
use Rattle.vd_split.proofs.ChoreographyBlocks.{slots, sees, effect_of, turn_here, turn_later, turns_act, both_idle, no_slots, means}
use Rattle.vd_split.proofs.Tidy.{or_both, acts_inside}
use Rattle.vd_split.proofs.Wheres.{right_where, delivered_where, variable_where, store_where, put_where, output_where}

-- ---- the hosts of a loop, and those that are picked

takes_part : (ps : List (ℕ × ℕ)) (h r : ℕ) → IsIn ps h r → is_part ps h ≡ true
takes_part [] h r i = absurd i
takes_part (p ∷ ps) h r (inl e) = or_left (nat_eq h p.0) (is_part ps h) (eq-eqb h p.0 e.0)
takes_part (p ∷ ps) h r (inr i) = or_right (nat_eq h p.0) (is_part ps h) (takes_part ps h r i)

part_in : (has : ℕ → Bool) (k : ℕ) (next : List ℕ) (h : ℕ) → is_part (loop_registers has k next) h ≡ true → (h < k + length next) × (has h ≡ true)
part_in has k [] h e = absurd (wrong e)
  where
    wrong : false ≡ true → ⊥
    wrong e = cc
part_in has k (r ∷ rs) h e = at (part_in has (k + 1) rs h) (has k) refl e
  where
    further : (h < k + 1 + length rs) × (has h ≡ true) → (h < k + length (r ∷ rs)) × (has h ≡ true)
    further p = (let lt = p.0 in omega (arith, lt), p.1)

    split : has k ≡ true → (is_part (loop_registers has (k + 1) rs) h ≡ true → (h < k + 1 + length rs) × (has h ≡ true))
        → (nat_eq h k ≡ true) ⊎ (is_part (loop_registers has (k + 1) rs) h ≡ true) → (h < k + length (r ∷ rs)) × (has h ≡ true)
    split t ih (inl i) = (let e = eqb-true h k i in omega (arith, e), ap has (eqb-true h k i) ∙ t)
    split t ih (inr i) = further (ih i)

    at : (is_part (loop_registers has (k + 1) rs) h ≡ true → (h < k + 1 + length rs) × (has h ≡ true)) → (b : Bool) → has k ≡ b
        → is_part (if b then (k, r) ∷ loop_registers has (k + 1) rs else loop_registers has (k + 1) rs) h ≡ true → (h < k + length (r ∷ rs)) × (has h ≡ true)
    at ih true t e = split t ih (or_cases (nat_eq h k) (is_part (loop_registers has (k + 1) rs) h) e)
    at ih false t e = further (ih e)

later_part : (has : ℕ → Bool) (k : ℕ) (next : List ℕ) (h : ℕ) → TakesPart (loop_registers has k next) h → k ≤ h
later_part has k [] h i = absurd i
later_part has k (r ∷ rs) h i = at (later_part has (k + 1) rs h) (has k) i
  where
    further : k + 1 ≤ h → k ≤ h
    further le = omega (arith, le)

    at : (TakesPart (loop_registers has (k + 1) rs) h → k + 1 ≤ h) → (b : Bool) → TakesPart (if b then (k, r) ∷ loop_registers has (k + 1) rs else loop_registers has (k + 1) rs) h → k ≤ h
    at ih true (inl e) = omega (arith, e)
    at ih true (inr j) = further (ih j)
    at ih false j = further (ih j)

loop_apart : (has : ℕ → Bool) (k : ℕ) (next : List ℕ) → Apart (loop_registers has k next)
loop_apart has k [] = tt
loop_apart has k (r ∷ rs) = at (loop_apart has (k + 1) rs) (has k)
  where
    at : Apart (loop_registers has (k + 1) rs) → (b : Bool) → Apart (if b then (k, r) ∷ loop_registers has (k + 1) rs else loop_registers has (k + 1) rs)
    at ih true = ((λ i. let le = later_part has (k + 1) rs k i in omega (arith, le)), ih)
    at ih false = ih

later_picked : (test : ℕ → Bool) (from k h : ℕ) → IsHost (picked from k test) h → from ≤ h
later_picked test from zero h i = absurd i
later_picked test from (suc k) h i = at (later_picked test (from + 1) k h) (test from) i
  where
    further : from + 1 ≤ h → from ≤ h
    further le = omega (arith, le)

    at : (IsHost (picked (from + 1) k test) h → from + 1 ≤ h) → (b : Bool) → IsHost (if b then host from ∷ picked (from + 1) k test else picked (from + 1) k test) h → from ≤ h
    at ih true (inl e) = omega (arith, e)
    at ih true (inr j) = further (ih j)
    at ih false j = further (ih j)

picked_apart : (test : ℕ → Bool) (from k : ℕ) → AreApart (picked from k test)
picked_apart test from zero = tt
picked_apart test from (suc k) = at (picked_apart test (from + 1) k) (test from)
  where
    at : AreApart (picked (from + 1) k test) → (b : Bool) → AreApart (if b then host from ∷ picked (from + 1) k test else picked (from + 1) k test)
    at ih true = ((λ i. let le = later_picked test (from + 1) k from i in omega (arith, le)), ih)
    at ih false = ih

picked_bound : (test : ℕ → Bool) (from k h : ℕ) → list_any (λ (q : HostId). nat_eq h q.0) (picked from k test) ≡ true → (h < from + k) × (test h ≡ true)
picked_bound test from zero h e = absurd (wrong e)
  where
    wrong : false ≡ true → ⊥
    wrong e = cc
picked_bound test from (suc k) h e = at (picked_bound test (from + 1) k h) (test from) refl e
  where
    further : (h < from + 1 + k) × (test h ≡ true) → (h < from + suc k) × (test h ≡ true)
    further p = (let lt = p.0 in omega (arith, lt), p.1)

    split : test from ≡ true → (list_any (λ (q : HostId). nat_eq h q.0) (picked (from + 1) k test) ≡ true → (h < from + 1 + k) × (test h ≡ true))
        → (nat_eq h from ≡ true) ⊎ (list_any (λ (q : HostId). nat_eq h q.0) (picked (from + 1) k test) ≡ true) → (h < from + suc k) × (test h ≡ true)
    split t ih (inl i) = (let e = eqb-true h from i in omega (arith, e), ap test (eqb-true h from i) ∙ t)
    split t ih (inr i) = further (ih i)

    at : (list_any (λ (q : HostId). nat_eq h q.0) (picked (from + 1) k test) ≡ true → (h < from + 1 + k) × (test h ≡ true)) → (b : Bool) → test from ≡ b
        → list_any (λ (q : HostId). nat_eq h q.0) (if b then host from ∷ picked (from + 1) k test else picked (from + 1) k test) ≡ true → (h < from + suc k) × (test h ≡ true)
    at ih true t e = split t ih (or_cases (nat_eq h from) (list_any (λ (q : HostId). nat_eq h q.0) (picked (from + 1) k test)) e)
    at ih false t e = further (ih e)

picked_has : (test : ℕ → Bool) (from k h : ℕ) → from ≤ h → h < from + k → test h ≡ true → list_any (λ (q : HostId). nat_eq h q.0) (picked from k test) ≡ true
picked_has test from zero h le lt t = absurd (omega arith)
picked_has test from (suc k) h le lt t = at (picked_has test (from + 1) k h) (test from) refl (ℕ_discrete h from)
  where
    opposite : (b : Bool) → b ≡ true → b ≡ false → ⊥
    opposite true e f = cc
    opposite false e f = cc

    higher : h ≢ from → from + 1 ≤ h
    higher d = grind (arith)

    at : (from + 1 ≤ h → h < from + 1 + k → test h ≡ true → list_any (λ (q : HostId). nat_eq h q.0) (picked (from + 1) k test) ≡ true) → (b : Bool) → test from ≡ b → Dec (h ≡ from)
        → list_any (λ (q : HostId). nat_eq h q.0) (if b then host from ∷ picked (from + 1) k test else picked (from + 1) k test) ≡ true
    at ih true tf (yes e) = or_left (nat_eq h from) (list_any (λ (q : HostId). nat_eq h q.0) (picked (from + 1) k test)) (eq-eqb h from e)
    at ih true tf (no d) = or_right (nat_eq h from) (list_any (λ (q : HostId). nat_eq h q.0) (picked (from + 1) k test)) (ih (higher d) (omega arith) t)
    at ih false tf (yes e) = absurd (opposite (test from) (ap test (sym e) ∙ t) tf)
    at ih false tf (no d) = ih (higher d) (omega arith) t

or_false : (b : Bool) → (b || false) ≡ true → b ≡ true
or_false true e = refl
or_false false e = e

or_moved : (a b c : Bool) → ((a || b) || c) ≡ true → (a || (b || c)) ≡ true
or_moved true b c e = refl
or_moved false b c e = e

or_onto : (a b c : Bool) → (b ≡ true → c ≡ true) → (a || b) ≡ true → (a || c) ≡ true
or_onto true b c f e = refl
or_onto false b c f e = f e

-- what holds of a host below a bound, from either of two tests
in_either : (n h : ℕ) (a b c : Bool) → (a ≡ true → (h < n) × (c ≡ true)) → (b ≡ true → (h < n) × (c ≡ true)) → (a || b) ≡ true → (h < n) × (c ≡ true)
in_either n h a b c f g e = at (or_cases a b e)
  where
    at : (a ≡ true) ⊎ (b ≡ true) → (h < n) × (c ≡ true)
    at (inl i) = f i
    at (inr i) = g i

module _ (m : Hosts) where
  active_acts : (xs : List m.Act) (j : Plan m.Act) (h : ℕ) → active m (acts_then xs j) h ≡ true → (acting m xs h || active m j h) ≡ true
  active_acts [] j h e = e
  active_acts (x ∷ xs) j h e =
      or_both (m.acts_at x h) (active m (acts_then xs j) h) ((m.acts_at x h || acting m xs h) || active m j h) (λ i. or_left (m.acts_at x h || acting m xs h) (active m j h) (or_left (m.acts_at x h) (acting m xs h) i))
      (λ i. or_both (acting m xs h) (active m j h) ((m.acts_at x h || acting m xs h) || active m j h) (λ k. or_left (m.acts_at x h || acting m xs h) (active m j h) (or_right (m.acts_at x h) (acting m xs h) k))
      (or_right (m.acts_at x h || acting m xs h) (active m j h)) (active_acts xs j h i)) e

  acts_active : (xs : List m.Act) (j : Plan m.Act) (h : ℕ) → (acting m xs h || active m j h) ≡ true → active m (acts_then xs j) h ≡ true
  acts_active [] j h e = e
  acts_active (x ∷ xs) j h e =
      or_onto (m.acts_at x h) (acting m xs h || active m j h) (active m (acts_then xs j) h) (acts_active xs j h) (or_moved (m.acts_at x h) (acting m xs h) (active m j h) e)

  then_active : (j k : Plan m.Act) (h : ℕ) → (active m j h || active m k h) ≡ true → active m (and_then j k) h ≡ true
  then_active Ends k h e = e
  then_active (Then x r) k h e =
      or_onto (m.acts_at x h) (active m r h || active m k h) (active m (and_then r k) h) (then_active r k h) (or_moved (m.acts_at x h) (active m r h) (active m k h) e)
  then_active (Branch ps t f r) k h e =
      let here = is_part ps h || active m t h || active m f h in
      or_onto here (active m r h || active m k h) (active m (and_then r k) h) (then_active r k h) (or_moved here (active m r h) (active m k h) e)
  then_active (Loop ps count b r) k h e =
      let here = is_part ps h || active m b h in
      or_onto here (active m r h || active m k h) (active m (and_then r k) h) (then_active r k h) (or_moved here (active m r h) (active m k h) e)

  active_then : (j k : Plan m.Act) (h : ℕ) → active m (and_then j k) h ≡ true → (active m j h || active m k h) ≡ true
  active_then Ends k h e = e
  active_then (Then x r) k h e = regroup (m.acts_at x h) (active m r h) (active m k h) (active m (and_then r k) h) (active_then r k h) e
    where
      regroup : (a b c d : Bool) → (d ≡ true → (b || c) ≡ true) → (a || d) ≡ true → ((a || b) || c) ≡ true
      regroup true b c d f e = refl
      regroup false b c d f e = f e
  active_then (Branch ps t f r) k h e = regroup (is_part ps h || active m t h || active m f h) (active m r h) (active m k h) (active m (and_then r k) h) (active_then r k h) e
    where
      regroup : (a b c d : Bool) → (d ≡ true → (b || c) ≡ true) → (a || d) ≡ true → ((a || b) || c) ≡ true
      regroup true b c d f e = refl
      regroup false b c d f e = f e
  active_then (Loop ps count b r) k h e = regroup (is_part ps h || active m b h) (active m r h) (active m k h) (active m (and_then r k) h) (active_then r k h) e
    where
      regroup : (a b c d : Bool) → (d ≡ true → (b || c) ≡ true) → (a || d) ≡ true → ((a || b) || c) ≡ true
      regroup true b c d f e = refl
      regroup false b c d f e = f e

  tidy_acts : (xs : List m.Act) (j : Plan m.Act) → Each m.IsTidy xs → Tidy m j → Tidy m (acts_then xs j)
  tidy_acts [] j e t = t
  tidy_acts (x ∷ xs) j e t = (e.0, tidy_acts xs j e.1 t)

  tidy_then : (j k : Plan m.Act) → Tidy m j → Tidy m k → Tidy m (and_then j k)
  tidy_then Ends k t u = u
  tidy_then (Then x r) k t u = (t.0, tidy_then r k t.1 u)
  tidy_then (Branch ps a b r) k t u = (t.0, t.1, t.2, t.3, tidy_then r k t.4 u)
  tidy_then (Loop ps count b r) k t u = (t.0, t.1, t.2, t.3, tidy_then r k t.4 u)

  needed_acts : (xs : List m.Act) (j : Plan m.Act) → NeedsItsLoops m j → NeedsItsLoops m (acts_then xs j)
  needed_acts [] j t = t
  needed_acts (x ∷ xs) j t = needed_acts xs j t

  needed_then : (j k : Plan m.Act) → NeedsItsLoops m j → NeedsItsLoops m k → NeedsItsLoops m (and_then j k)
  needed_then Ends k t u = u
  needed_then (Then x r) k t u = needed_then r k t u
  needed_then (Branch ps a b r) k t u = (t.0, t.1, needed_then r k t.2 u)
  needed_then (Loop ps count b r) k t u = (t.0, t.1, needed_then r k t.2 u)

  -- a plan acts at exactly these of the first hosts, is tidy, and needs its loops
  pub record Orderly (n : ℕ) (plan : Plan m.Act) (place : ℕ → Bool) : Type 0 where
    pub at : (h : ℕ) → active m plan h ≡ true → (h < n) × (place h ≡ true)
    pub all : (h : ℕ) → h < n → place h ≡ true → active m plan h ≡ true
    pub tidy : Tidy m plan
    pub needed : NeedsItsLoops m plan

  of_acts : (n : ℕ) (acts : List m.Act) (place : ℕ → Bool) → Where m n acts place → Orderly n (acts_then acts Ends) place
  of_acts n acts place a = record {
    at = λ h i. a.at h (or_false (acting m acts h) (active_acts acts Ends h i));
    all = λ h lt i. acts_active acts Ends h (or_left (acting m acts h) false (a.all h lt i));
    tidy = tidy_acts acts Ends a.tidy tt;
    needed = needed_acts acts Ends tt;
  }

  and_next : (n : ℕ) (one two : Plan m.Act) (p q : ℕ → Bool) → Orderly n one p → Orderly n two q → Orderly n (and_then one two) (λ h. p h || q h)
  and_next n one two p q a b = record {
    at = λ h i. in_either n h (active m one h) (active m two h) (p h || q h) (λ j. let z = a.at h j in (z.0, or_left (p h) (q h) z.1)) (λ j. let z = b.at h j in (z.0, or_right (p h) (q h) z.1))
        (active_then one two h i);
    all = λ h lt i. then_active one two h (joined h lt (or_cases (p h) (q h) i));
    tidy = tidy_then one two a.tidy b.tidy;
    needed = needed_then one two a.needed b.needed;
  }
    where
      joined : (h : ℕ) → h < n → (p h ≡ true) ⊎ (q h ≡ true) → (active m one h || active m two h) ≡ true
      joined h lt (inl e) = or_left (active m one h) (active m two h) (a.all h lt e)
      joined h lt (inr e) = or_right (active m one h) (active m two h) (b.all h lt e)

module _ (m : Hosts) (s : Suite m) (proto : ℕ → Proto) (laws : Laws m s) (places : Places m s) (declared : (x : ℕ) → s.Declared (proto x)) where
  abbrev n : ℕ
  n = s.calls.hosts

  abbrev emits : Block → Emission s.calls proto
  emits = emission_of m s proto

  -- the hosts to which a word was moved
  told : (p : Proto) (x : s.Parts) (hs : List HostId) (next : List ℕ) (h : ℕ) → is_part (delivered s.calls proto p x hs next).given h ≡ list_any (λ (q : HostId). nat_eq h q.0) hs
  told p x [] next h = refl
  told p x (k ∷ hs) next h = ap (λ (b : Bool). nat_eq h k.0 || b) (told p x hs (s.calls.move p (Local k) x next).next h)

  told_part : (p : Proto) (x : s.Parts) (hs : List HostId) (next : List ℕ) (h : ℕ) → TakesPart (delivered s.calls proto p x hs next).given h → IsHost hs h
  told_part p x [] next h i = i
  told_part p x (k ∷ hs) next h (inl e) = inl e
  told_part p x (k ∷ hs) next h (inr i) = inr (told_part p x hs (s.calls.move p (Local k) x next).next h i)

  told_apart : (p : Proto) (x : s.Parts) (hs : List HostId) (next : List ℕ) → AreApart hs → Apart (delivered s.calls proto p x hs next).given
  told_apart p x [] next a = tt
  told_apart p x (k ∷ hs) next a =
      ((λ i. a.0 (told_part p x hs (s.calls.move p (Local k) x next).next k.0 i)), told_apart p x hs (s.calls.move p (Local k) x next).next a.1)

  -- a branch, where its guard was told to each host that takes part
  module _ (x : SlotId) (t f : Block) (pt : Placed m s proto t) (pf : Placed m s proto f) (guard : Made m.Act (List (ℕ × ℕ))) (first second : Plan m.Act) where
    abbrev takes : ℕ → Bool
    takes h = (emits t).takes_part h || (emits f).takes_part h

    abbrev place : ℕ → Bool
    place h = delivered_at s.calls proto (proto x.0) (picked 0 n takes) h || (emits t).takes_part h || (emits f).takes_part h

    abbrev branched : ℕ → Bool
    branched h = active m (Branch guard.given first second Ends) h

    by_guard : (h : ℕ) → delivered_at s.calls proto (proto x.0) (picked 0 n takes) h ≡ true → place h ≡ true
    by_guard h i = or_left (delivered_at s.calls proto (proto x.0) (picked 0 n takes) h || (emits t).takes_part h) ((emits f).takes_part h) (or_left (delivered_at s.calls proto (proto x.0) (picked 0 n takes) h) ((emits t).takes_part h) i)

    by_taking : (h : ℕ) → takes h ≡ true → place h ≡ true
    by_taking h i =
        or_both ((emits t).takes_part h) ((emits f).takes_part h) (place h)
        (λ j. or_left (delivered_at s.calls proto (proto x.0) (picked 0 n takes) h || (emits t).takes_part h) ((emits f).takes_part h) (or_right (delivered_at s.calls proto (proto x.0) (picked 0 n takes) h) ((emits t).takes_part h) j))
        (λ j. or_right (delivered_at s.calls proto (proto x.0) (picked 0 n takes) h || (emits t).takes_part h) ((emits f).takes_part h) j) i

    branch_orderly : Where m n guard.acts (delivered_at s.calls proto (proto x.0) (picked 0 n takes)) → ((h : ℕ) → is_part guard.given h ≡ list_any (λ (q : HostId). nat_eq h q.0) (picked 0 n takes))
        → Apart guard.given → Orderly m n first (emits t).acts_at → Orderly m n second (emits f).acts_at
        → Orderly m n (acts_then guard.acts (Branch guard.given first second Ends)) place
    branch_orderly d is_told apart a b = record {
      at = λ h i. in_either n h (acting m guard.acts h) (active m (Branch guard.given first second Ends) h) (place h) (λ j. let z = d.at h j in (z.0, by_guard h z.1))
          (λ j. in_either n h (is_part guard.given h || active m first h) (active m second h) (place h)
          (in_either n h (is_part guard.given h) (active m first h) (place h) (λ k. let z = picked_bound takes 0 n h (sym (is_told h) ∙ k) in (below z.0, by_taking h z.1)) (λ k. taken h (in_first h k)))
          (λ k. taken h (in_second h k)) (or_false (is_part guard.given h || active m first h || active m second h) j))
          (active_acts m guard.acts (Branch guard.given first second Ends) h i);
      all = λ h lt i.
          acts_active m guard.acts (Branch guard.given first second Ends) h
          (placed h lt (or_cases (delivered_at s.calls proto (proto x.0) (picked 0 n takes) h || (emits t).takes_part h) ((emits f).takes_part h) i));
      needed = needed_acts m guard.acts (Branch guard.given first second Ends) (a.needed, b.needed, tt);
      tidy = tidy_acts m guard.acts (Branch guard.given first second Ends) d.tidy (
        apart,
        (λ h i. is_told h ∙ inside h (in_either n h (active m first h) (active m second h) (takes h) (in_first h) (in_second h) i)),
        a.tidy,
        b.tidy,
        tt,
      );
    }
      where
        below : {h : ℕ} → h < 0 + n → h < n
        below lt = omega (arith, lt)

        in_first : (h : ℕ) → active m first h ≡ true → (h < n) × (takes h ≡ true)
        in_first h i = let z = a.at h i in (z.0, or_left ((emits t).takes_part h) ((emits f).takes_part h) (acts_inside m s proto places t h pt z.1))

        in_second : (h : ℕ) → active m second h ≡ true → (h < n) × (takes h ≡ true)
        in_second h i = let z = b.at h i in (z.0, or_right ((emits t).takes_part h) ((emits f).takes_part h) (acts_inside m s proto places f h pf z.1))

        taken : (h : ℕ) → (h < n) × (takes h ≡ true) → (h < n) × (place h ≡ true)
        taken h z = (z.0, by_taking h z.1)

        inside : (h : ℕ) → (h < n) × (takes h ≡ true) → list_any (λ (q : HostId). nat_eq h q.0) (picked 0 n takes) ≡ true
        inside h z = picked_has takes 0 n h (omega arith) (let lt = z.0 in omega (arith, lt)) z.1

        by_part : (h : ℕ) → h < n → takes h ≡ true → (acting m guard.acts h || branched h) ≡ true
        by_part h lt e =
            or_right (acting m guard.acts h) (branched h)
            (or_left (is_part guard.given h || active m first h || active m second h) false
            (or_left (is_part guard.given h || active m first h) (active m second h) (or_left (is_part guard.given h) (active m first h) (is_told h ∙ inside h (lt, e)))))

        told_or_first : (h : ℕ) → h < n → (delivered_at s.calls proto (proto x.0) (picked 0 n takes) h ≡ true) ⊎ ((emits t).takes_part h ≡ true) → (acting m guard.acts h || branched h) ≡ true
        told_or_first h lt (inl e) = or_left (acting m guard.acts h) (branched h) (d.all h lt e)
        told_or_first h lt (inr e) = by_part h lt (or_left ((emits t).takes_part h) ((emits f).takes_part h) e)

        placed : (h : ℕ) → h < n → ((delivered_at s.calls proto (proto x.0) (picked 0 n takes) h || (emits t).takes_part h) ≡ true) ⊎ ((emits f).takes_part h ≡ true)
            → (acting m guard.acts h || branched h) ≡ true
        placed h lt (inl e) = told_or_first h lt (or_cases (delivered_at s.calls proto (proto x.0) (picked 0 n takes) h) ((emits t).takes_part h) e)
        placed h lt (inr e) = by_part h lt (or_right ((emits t).takes_part h) ((emits f).takes_part h) e)

  loop_orderly : (has : ℕ → Bool) (next : List ℕ) (count : ℕ) (tree : Plan m.Act) → length next ≡ n → count ≤ 2 ^ 32 → Orderly m n tree has → Orderly m n (Loop (loop_registers has 0 next) count tree Ends) has
  loop_orderly has next count tree len small a = record {
    at = λ h i. in_either n h (is_part (loop_registers has 0 next) h) (active m tree h) (has h) (λ j. let z = part_in has 0 next h j in (below z.0, z.1)) (a.at h)
        (or_false (is_part (loop_registers has 0 next) h || active m tree h) i);
    all = λ h lt i. or_left (is_part (loop_registers has 0 next) h || active m tree h) false (or_right (is_part (loop_registers has 0 next) h) (active m tree h) (a.all h lt i));
    needed = ((λ h i. let z = part_in has 0 next h i in a.all h (below z.0) z.1), a.needed, tt);
    tidy = (
      loop_apart has 0 next,
      (λ h i. let z = a.at h i in takes_part (loop_registers has 0 next) h (slice_index next h) (has_register has next h (subst (λ k. h < k) (sym len) z.0) z.1)),
      small,
      a.tidy,
      tt,
    );
  }
    where
      below : {h : ℕ} → h < 0 + length next → h < n
      below lt = omega (arith, lt, len)

  abbrev Does : Block → Type 0
  Does b =
      (o : Sight) (k : ℕ) → InRow k (slots b) → (sees b o).all ≡ true → Fits s.calls.hosts b → Placed m s proto b
      → (e : E m s proto) (w : m.World) (c : SlotState) (turn : ℕ) (has : ℕ → Bool) → length e.held ≡ k → ((h : ℕ) → turns_at m s proto b h ≡ true → has h ≡ true) → turn < 2 ^ 32
      → Ties m s proto o e w c → TurnsIn m s proto has o e w turn → Orderly m n ((emits b).emit e).tree (emits b).acts_at

  -- the rest after a statement
  rest_does : (rest : Block) → Does rest → (o o1 : Sight) (e : E m s proto) (one : Emitted s.calls proto) (j k : ℕ) (w : m.World) (c c1 : SlotState) (turn : ℕ) (has : ℕ → Bool) → length e.held ≡ k
      → InRow (k + j) (slots rest) → (sees rest o1).all ≡ true → Fits s.calls.hosts rest → Placed m s proto rest → ((h : ℕ) → turns_at m s proto rest h ≡ true → has h ≡ true) → turn < 2 ^ 32
      → Ties m s proto o e w c → TurnsIn m s proto has o e w turn → (a : After m s proto o o1 e one j w c1)
      → Orderly m n ((emits rest).emit one.state).tree (emits rest).acts_at
  rest_does rest does o o1 e one j k w c c1 turn has is row all fits placed needs small t ts a =
      does o1 (k + j) row all fits placed one.state a.reached c1 turn has (ap length a.held ∙ length-append e.held a.more ∙ sum is a.many) needs small a.tied
      (turns_past m s proto has turn o o1 e one j w c c1 t a ts)
    where
      sum : {i l : ℕ} → i ≡ k → l ≡ j → i + l ≡ k + j
      sum p q = omega arith

  pub orderly : (b : Block) → Does b
  orderly End o k row all fits placed e w c turn has is needs small t ts = record { at = λ h i. absurd (wrong i); all = λ h lt i. i; tidy = tt; needed = tt }
    where
      wrong : false ≡ true → ⊥
      wrong e = cc
  orderly (Let x right rest) o k row all fits placed e w c turn has is needs small t ts =
      let a = let_after m s proto laws declared o e w c turn has x right t (row.0 ∙ sym is) (and_left _ _ all) fits.0 placed.0 small (λ i h p. needs h (turn_here m s proto laws declared x right rest h i p)) ts in
      and_next m n _ _ (right_acts_at s.calls proto (proto x.0) right) (emits rest).acts_at
      (of_acts m n _ (right_acts_at s.calls proto (proto x.0) right) (right_where m s proto laws places declared o e w c t x.0 right (and_left _ _ all) fits.0 placed.0))
      (rest_does rest (orderly rest) o (with_use Binding x.0 o) e _ 1 k w c _ turn has is row.1 (and_right _ _ all) fits.1 placed.1 (λ h p. needs h (turn_later m s proto laws declared x right rest h p)) small t ts a)
  orderly (NewVar v x rest) o k row all fits placed e w c turn has is needs small t ts =
      let a = var_after m s proto laws declared o e w c v x t (row.0 ∙ sym is) (and_left _ _ all) placed.0 placed.1 in
      and_next m n _ _ (λ h. s.calls.moves_at (proto x.0) (proto v.0) h || is_holder (proto v.0) (host h)) (emits rest).acts_at
      (of_acts m n _ (λ h. s.calls.moves_at (proto x.0) (proto v.0) h || is_holder (proto v.0) (host h)) (variable_where m s proto laws places declared o e w c t v x (and_left _ _ all) placed.0 placed.1))
      (rest_does rest (orderly rest) o (with_use Variable v.0 o) e _ 1 k w c _ turn has is row.1 (and_right _ _ all) fits placed.2 needs small t ts a)
  orderly (NewArray v cells rest) o k row all fits placed e w c turn has is needs small t ts =
      let a = array_after m s proto laws declared o e w c v cells t (row.0 ∙ sym is) placed.0 in
      and_next m n _ _ (λ h. is_holder (proto v.0) (host h)) (emits rest).acts_at
      (of_acts m n _ (λ h. is_holder (proto v.0) (host h)) (places.cells_at (proto v.0) (declared v.0) placed.0 cells e.next))
      (rest_does rest (orderly rest) o (with_use Array v.0 o) e _ 1 k w c _ turn has is row.1 all fits placed.1 needs small t ts a)
  orderly (Store v x rest) o k row all fits placed e w c turn has is needs small t ts =
      let here = and_left _ _ all in
      let a = store_after m s proto laws declared o e w c v x t (and_left _ _ here) (and_right _ _ here) placed.0 placed.1 in
      and_next m n _ _ (λ h. s.calls.moves_at (proto x.0) (proto v.0) h || is_holder (proto v.0) (host h)) (emits rest).acts_at
      (of_acts m n _ (λ h. s.calls.moves_at (proto x.0) (proto v.0) h || is_holder (proto v.0) (host h)) (store_where m s proto laws places declared o e w c t v x (and_left _ _ here) (and_right _ _ here) placed.0 placed.1))
      (rest_does rest (orderly rest) o o e _ 0 k w c _ turn has is (no_slots m s proto laws declared k _ row) (and_right _ _ all) fits placed.2 needs small t ts a)
  orderly (Put v i x rest) o k row all fits placed e w c turn has is needs small t ts =
      let here = and_left _ _ all in
      let a = put_after m s proto laws declared o e w c v i x t (and_left _ _ (and_left _ _ here)) (and_right _ _ (and_left _ _ here)) (and_right _ _ here) placed.0 placed.1 placed.2 in
      and_next m n _ _ (λ h. delivered_at s.calls proto (proto i.0) (holders_among s.calls (proto v.0)) h || s.calls.moves_at (proto x.0) (proto v.0) h || is_holder (proto v.0) (host h)) (emits rest).acts_at
      (of_acts m n _ (λ h. delivered_at s.calls proto (proto i.0) (holders_among s.calls (proto v.0)) h || s.calls.moves_at (proto x.0) (proto v.0) h || is_holder (proto v.0) (host h))
      (put_where m s proto laws places declared o e w c t v i x (and_right _ _ (and_left _ _ here)) (and_right _ _ here) placed.0 placed.1 placed.2))
      (rest_does rest (orderly rest) o o e _ 0 k w c _ turn has is (no_slots m s proto laws declared k _ row) (and_right _ _ all) fits placed.3 needs small t ts a)
  orderly (Output x h offset rest) o k row all fits placed e w c turn has is needs small t ts =
      let a = output_after m s proto laws declared o e w c x h t (and_left _ _ all) fits.0 placed.0 in
      and_next m n _ _ (λ q. s.calls.moves_at (proto x.0) (Local h) q || nat_eq h.0 q) (emits rest).acts_at
      (of_acts m n _ (λ q. s.calls.moves_at (proto x.0) (Local h) q || nat_eq h.0 q) (output_where m s proto laws places declared o e w c t x h (and_left _ _ all) fits.0 placed.0))
      (rest_does rest (orderly rest) o o e _ 0 k w c _ turn has is (no_slots m s proto laws declared k _ row) (and_right _ _ all) fits.1 placed.1 needs small t ts a)
  orderly (IfB x tb eb offset rest) o k row all fits placed e w c turn has is needs small t ts =
      let here = and_left _ _ all in
      let sees_x = and_left _ _ (and_left _ _ here) in
      let row1 = row_front k (slots tb ++ slots eb) (slots rest) row in
      let row2 = row_back k (slots tb ++ slots eb) (slots rest) row in
      let first_row = row_front k (slots tb) (slots eb) row1 in
      let other_row = row_back k (slots tb) (slots eb) row1 in
      let a = branch_after m s proto laws declared o (sees tb o).after (sees eb o).after (emits tb) (emits eb) (each stmt_effect tb) (each stmt_effect eb) (length (slots tb)) (length (slots eb)) k (turns_at m s proto tb) (turns_at m s proto eb)
      (means m s proto laws declared tb o k first_row (and_right _ _ (and_left _ _ here)) fits.0 placed.1)
      (means m s proto laws declared eb o (k + length (slots tb)) other_row (and_right _ _ here) fits.1 placed.2)
      x sees_x placed.0 (both_idle m s proto laws declared tb eb) e w c turn has is
      (λ h p. needs h (or_left _ _ (or_left _ _ p))) (λ h p. needs h (or_left _ _ (or_right _ _ p))) small t ts in
      let inside = begins_at m s proto laws declared o (sees tb o).after (sees eb o).after (emits tb) (emits eb) (each stmt_effect tb) (each stmt_effect eb) (length (slots tb)) (length (slots eb)) k (turns_at m s proto tb) (turns_at m s proto eb)
      (means m s proto laws declared tb o k first_row (and_right _ _ (and_left _ _ here)) fits.0 placed.1)
      (means m s proto laws declared eb o (k + length (slots tb)) other_row (and_right _ _ here) fits.1 placed.2)
      x sees_x placed.0 (both_idle m s proto laws declared tb eb) e w c turn has is
      (λ h p. needs h (or_left _ _ (or_left _ _ p))) (λ h p. needs h (or_left _ _ (or_right _ _ p))) small t ts in
      let test : ℕ → Bool = λ h. (emits tb).takes_part h || (emits eb).takes_part h in
      let guard = delivered s.calls proto (proto x.0) (part m s proto e.held x.0) (picked 0 s.calls.hosts test) e.next in
      let told_where = delivered_where m s proto laws places declared (proto x.0) (declared x.0) (part m s proto e.held x.0) (slice_index c.words x.0) (picked 0 s.calls.hosts test)
      (picked_join m s laws proto (proto x.0) test 0 s.calls.hosts (λ h lt i. placed.0 h (below h lt) i) (omega arith)) e.next w t.ready (operand_of m s proto laws declared o e.next e.held w c t x.0 sees_x) in
      and_next m n _ _ _ (emits rest).acts_at
      (branch_orderly x tb eb placed.1 placed.2 guard _ _ told_where (told (proto x.0) (part m s proto e.held x.0) (picked 0 s.calls.hosts test) e.next)
      (told_apart (proto x.0) (part m s proto e.held x.0) (picked 0 s.calls.hosts test) e.next (picked_apart test 0 s.calls.hosts))
      (orderly tb o k first_row (and_right _ _ (and_left _ _ here)) fits.0 placed.1 _ _ c turn has is (λ h p. needs h (or_left _ _ (or_left _ _ p))) small inside.0.0 inside.0.1)
      (orderly eb o (k + length (slots tb)) other_row (and_right _ _ here) fits.1 placed.2 _ _ c turn has inside.1.2 (λ h p. needs h (or_left _ _ (or_right _ _ p))) small inside.1.0 inside.1.1))
      (rest_does rest (orderly rest) o o e _ (length (slots tb) + length (slots eb)) k w c _ turn has is (subst (λ z. InRow (k + z) (slots rest)) (length-append (slots tb) (slots eb)) row2) (and_right _ _ all) fits.2 placed.3
      (λ h p. needs h (or_right _ _ p)) small t ts a)
    where
      below : (h : ℕ) → h < 0 + s.calls.hosts → h < s.calls.hosts
      below h lt = omega (arith, lt)
  orderly (ForB count body rest) o k row all fits placed e w c turn has is needs small t ts =
      let row1 = row_front k (slots body) (slots rest) row in
      let row2 = row_back k (slots body) (slots rest) row in
      let comes = means m s proto laws declared body o k row1 (and_left _ _ all) fits.1 placed.0 in
      let covers = turns_act m s proto laws declared body in
      let a = loop_after m s proto laws declared o (sees body o).after (emits body) (effect_of body) (length (slots body)) k (turns_at m s proto body) comes covers e w c is t count fits.0 in
      let start = all_turns m s proto laws declared o (sees body o).after (emits body) (effect_of body) (length (slots body)) k (turns_at m s proto body) comes covers e w c is t 0 (omega arith) in
      let begun = begins m s proto laws declared o (sees body o).after (emits body) (effect_of body) (length (slots body)) k (turns_at m s proto body) comes covers e w c is t 0 (omega arith) start in
      let turned = turning m s proto laws declared o (sees body o).after (emits body) (effect_of body) (length (slots body)) k (turns_at m s proto body) comes covers e w c is t 0 start in
      let inner : E m s proto = record { next = after_loop_registers (emits body).acts_at 0 e.next; held = e.held; loop = e.next } in
      and_next m n _ _ (emits body).acts_at (emits rest).acts_at
      (loop_orderly (emits body).acts_at e.next count _ t.ready.known fits.0
      (orderly body o k row1 (and_left _ _ all) fits.1 placed.0 inner (m.begun (loop_registers (emits body).acts_at 0 e.next) 0 w) c 0 (emits body).acts_at is covers (omega arith) begun turned))
      (rest_does rest (orderly rest) o o e _ (length (slots body)) k w c _ turn has is row2 (and_right _ _ all) fits.2 placed.1 needs small t ts a)
