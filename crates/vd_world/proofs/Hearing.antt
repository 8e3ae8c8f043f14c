-- What a host wants, and what it is given.
use Rattle.std.proofs.Common.{◌≡◌, ℕ, ◌<◌, ◌≤◌, Bool, true, false, List, [], ◌∷◌, length, refl, sym, ap, ◌∙◌, arith, rules, ◌⊎◌, inl, inr}
use Rattle.std.specs.Prelude.{Some, None, slice_get, slice_index_or, nat_lt, if◌then◌else◌}
use Rattle.std.proofs.lemmas.Option.{slice_get_past}
use borrow.Author.Tests.{ltb-true}
use Rattle.vd_execution.specs.Step.{Source, Inputs, OwnWords, Triples, BitTriples, Pairs, Cursors, Need, Nothing, Item, Packet, Unequal, Ended, Given, answer}
use Rattle.vd_machine.specs.declared.lists.Lists.{Lists}
use Rattle.vd_machine.specs.declared.want.Want.{Want}
use Rattle.vd_machine.specs.declared.want.Want.TheVariants as want
use Rattle.vd_machine.specs.Machines.{items_of, item_or_none, or_empty, IsLeft, IsMet, words_for}
use Rattle.vd_machine.specs.Wants.{want_of, short, count_of}
use Rattle.vd_machine.proofs.Front.{get_there}
use Rattle.vd_base.specs.HostSets.{host}
use Rattle.vd_base.specs.declared.host_state.HostState.TheVariants as state
use Rattle.vd_execution.specs.States.{state_for, ready_or, short_of}
use Rattle.vd_world.specs.Hosts.{stuck_state}

-- ---- the items of a list

some_item : {X : Type 0} (f : X → List ℕ) (xs : List X) (i : ℕ) → i < length xs → item_or_none f (slice_get xs i) ≡ Some (or_empty (item_or_none f (slice_get xs i)))
some_item f [] i h = absurd (omega (arith, h))
some_item f (x ∷ xs) i h =
    let e : slice_get (x ∷ xs) i ≡ Some (slice_index_or (x ∷ xs) i x) = get_there (x ∷ xs) i x h in
    ap (item_or_none f) e ∙ ap (λ o. Some (or_empty (item_or_none f o))) (sym e)

item_there : (l : Lists) (s : Source) (i : ℕ) → i < count_of l s → items_of l s i ≡ Some (or_empty (items_of l s i))
item_there l Inputs i h = some_item _ l.inputs i h
item_there l OwnWords i h = some_item _ l.deal.own i h
item_there l (Triples p) i h = some_item _ _ i h
item_there l (BitTriples p) i h = some_item _ _ i h
item_there l (Pairs p) i h = some_item _ _ i h

item_left : (l : Lists) (s : Source) (i : ℕ) → i < count_of l s → IsLeft l s i
item_left l Inputs i h = h
item_left l OwnWords i h = h
item_left l (Triples p) i h = h
item_left l (BitTriples p) i h = h
item_left l (Pairs p) i h = h

item_past : (l : Lists) (s : Source) (i : ℕ) → count_of l s ≤ i → items_of l s i ≡ None
item_past l Inputs i h = ap (item_or_none _) (slice_get_past l.inputs i h)
item_past l OwnWords i h = ap (item_or_none _) (slice_get_past l.deal.own i h)
item_past l (Triples p) i h = ap (item_or_none _) (slice_get_past _ i h)
item_past l (BitTriples p) i h = ap (item_or_none _) (slice_get_past _ i h)
item_past l (Pairs p) i h = ap (item_or_none _) (slice_get_past _ i h)

-- ---- nothing is wanted

pub record Goes (g : Given) (l : Lists) (c : Cursors) (n : Need) (xs : List ℕ) : Type 0 where
  pub met : IsMet l c xs n
  pub given : answer g c n ≡ Some (words_for l c xs n)

short_is : (s : Source) (i j : ℕ) → want.Nothing ≡ short s i j → ⊥
short_is Inputs i j e = cc
short_is OwnWords i j e = cc
short_is (Triples p) i j e = cc
short_is (BitTriples p) i j e = cc
short_is (Pairs p) i j e = cc

is_left : (b : Bool) (s : Source) (i j : ℕ) → want.Nothing ≡ (if b then want.Nothing else short s i j) → b ≡ true
is_left true s i j e = refl
is_left false s i j e = absurd (short_is s i j e)

pub goes_alone : (g : Given) (l : Lists) (c : Cursors) (n : Need) → g.item ≡ items_of l → want.Nothing ≡ want_of l c n → Goes g l c n []
goes_alone g l c Nothing items e = record { met = refl; given = refl }
goes_alone g l c (Item s) items e =
    let less : c s < count_of l s = ltb-true (c s) (count_of l s) (is_left (nat_lt (c s) (count_of l s)) s (c s) (count_of l s) e) in
    record { met = (item_left l s (c s) less, refl); given = ap (λ f. f s (c s)) items ∙ item_there l s (c s) less }
goes_alone g l c (Packet p k) items e = absurd cc
goes_alone g l c (Unequal x y) items e = absurd cc
goes_alone g l c Ended items e = absurd cc

-- ---- nothing can be done

abbrev pub stops : Want → Bool
stops want.Nothing = false
stops (want.Words p n) = false
stops want.Ended = true
stops (want.ShortInput i j) = true
stops (want.ShortDeal kind i j) = true
stops (want.Unequal x y) = true

is_past : (b : Bool) (s : Source) (i j : ℕ) → stops (if b then want.Nothing else short s i j) ≡ true → b ≡ false
is_past true s i j e = absurd cc
is_past false s i j e = refl

pub stopped : (g : Given) (l : Lists) (c : Cursors) (n : Need) (w : Want) → g.item ≡ items_of l → w ≡ want_of l c n → stops w ≡ true → answer g c n ≡ None
stopped g l c n w items e stop = at n (ap stops (sym e) ∙ stop)
  where
    at : (m : Need) → stops (want_of l c m) ≡ true → answer g c m ≡ None
    at Nothing f = absurd cc
    at (Item s) f =
        let b = is_past (nat_lt (c s) (count_of l s)) s (c s) (count_of l s) f in
        let past : count_of l s ≤ c s = grind (arith, rules, b) in
        ap (λ h. h s (c s)) items ∙ item_past l s (c s) past
    at (Packet p k) f = absurd cc
    at (Unequal x y) f = refl
    at Ended f = refl

-- ---- how a host stands

short_state : (s : Source) (i j : ℕ) → stuck_state (short s i j) ≡ short_of s
short_state Inputs i j = refl
short_state OwnWords i j = refl
short_state (Triples p) i j = refl
short_state (BitTriples p) i j = refl
short_state (Pairs p) i j = refl

less_or_not : (m n : ℕ) → (m < n) ⊎ (n ≤ m)
less_or_not m n = grind arith

pub stands : (g : Given) (l : Lists) (c : Cursors) (n : Need) (w : Want) → g.item ≡ items_of l → w ≡ want_of l c n → answer g c n ≡ None → stuck_state w ≡ state_for g c n
stands g l c n w items e none = ap stuck_state e ∙ at n none
  where
    at : (m : Need) → answer g c m ≡ None → stuck_state (want_of l c m) ≡ state_for g c m
    at Nothing f = absurd cc
    at (Item s) f =
        elim (less_or_not (c s) (count_of l s)) [
          | inl less ↦ absurd (let z = sym (ap (λ h. h s (c s)) items) ∙ f in let y = item_there l s (c s) less in let x = sym y ∙ z in cc)
          | inr past ↦
              let b : nat_lt (c s) (count_of l s) ≡ false = grind (arith, rules, past) in
              ap (λ t. stuck_state (if t then want.Nothing else short s (c s) (count_of l s))) b ∙ short_state s (c s) (count_of l s) ∙ sym (ap (ready_or (short_of s)) f)
        ]
    at (Packet p k) f = sym (ap (ready_or (state.Waiting (host p))) f)
    at (Unequal x y) f = refl
    at Ended f = refl
