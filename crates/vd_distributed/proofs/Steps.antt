-- A host that is driven by itself, as one that goes on.
use Rattle.std.proofs.Common.{◌≡◌, ◌≢◌, ◌⊎◌, inl, inr, ℕ, zero, suc, ◌+◌, ◌<◌, nat_eq, if◌then◌else◌, Bool, true, false, List, [], ◌∷◌, ◌++◌, length, Option, Some, None, refl, sym, ap, ◌∙◌, subst, append_assoc, arith}
use Rattle.std.proofs.lemmas.List.{append-nil}
use Rattle.std.proofs.lemmas.Bool.{eq-eqb, ne_eqb}
use Rattle.std.specs.Prelude.{slice_get, nat_lt, flat_map}
use borrow.Author.Tests.{ltb-true}
use Rattle.vd_base.specs.HostSets.{host}
use Rattle.vd_execution.specs.declared.instructions.Action.{Action}
use Rattle.vd_execution.specs.declared.instructions.Action.TheVariants as action
use Rattle.vd_execution.specs.Registers.{Registers, put}
use Rattle.vd_execution.specs.Code.{Code, Finished, Then, Send, Recv, Choose, Repeat}
use Rattle.vd_execution.specs.Step.{Source, Inputs, OwnWords, Triples, BitTriples, Pairs, State, Cursors, Need, Nothing, Item, Packet, Unequal, Ended, Deed, Quiet, Said, Heard, Printed as Shows, need, need_of, need_of_action, next, deed, deed_of, deed_of_print, word_printed}
use Rattle.vd_execution.specs.World.{Local, World, Supply, done, moved_on, IsPrefixOf}
use Rattle.vd_execution.specs.Joint.{fresh, resting}
use Rattle.vd_execution.proofs.Front.{same_or_not, put_same, put_other}
use Rattle.vd_execution.proofs.Front.{done_state}
use Rattle.vd_machine.specs.declared.lists.Lists.{Lists}
use Rattle.vd_machine.specs.declared.want.Want.{Want}
use Rattle.vd_machine.specs.declared.want.Want.TheVariants as want
use Rattle.vd_machine.specs.Machines.{items_of, item_or_none, or_empty, words_for, list_of}
use Rattle.vd_machine.specs.Wants.{want_of, count_of, short}
use Rattle.vd_machine.specs.Kept.{at_start}
use Rattle.vd_machine.specs.Dids.{seen}
use Rattle.vd_engine.specs.Events.{Event, Received, Sent, Printed, Reached, AtStart, OneMore, IsHeard, received_in, shown, packet_from, packet_to, word_of, received_from, sent_to, printed}
use Rattle.vd_engine.specs.Hosts.{wants_with, next_with, seen_at}
use Rattle.vd_execution.specs.Histories.{GetsFor, Gets, Goes, gone, TakesSent, IsLinked}

-- ---- lists

flat_both : {X Y : Type 0} (f : X → List Y) (xs ys : List X) → flat_map f (xs ++ ys) ≡ flat_map f xs ++ flat_map f ys
flat_both f [] ys = refl
flat_both f (x ∷ xs) ys = ap (λ l. f x ++ l) (flat_both f xs ys) ∙ sym (append_assoc (f x) (flat_map f xs) (flat_map f ys))

at_length : {X : Type 0} (xs : List X) (x : X) (rest : List X) → slice_get (xs ++ x ∷ rest) (length xs) ≡ Some x
at_length [] x rest = refl
at_length (y ∷ xs) x rest = at_length xs x rest

length_both : {X : Type 0} (xs ys : List X) → length (xs ++ ys) ≡ length xs + length ys
length_both [] ys = omega arith
length_both (x ∷ xs) ys = let i = length_both xs ys in omega arith

some_at : {X : Type 0} (xs : List X) (i : ℕ) → i < length xs → (x : X) × (slice_get xs i ≡ Some x)
some_at [] i e = absurd (omega (arith, e))
some_at (x ∷ xs) zero e = (x, refl)
some_at (x ∷ xs) (suc i) e = some_at xs i (omega (arith, e))

item_there : {X : Type 0} (f : X → List ℕ) (xs : List X) (i : ℕ) → nat_lt i (length xs) ≡ true → item_or_none f (slice_get xs i) ≡ Some (or_empty (item_or_none f (slice_get xs i)))
item_there f xs i e =
    let t = some_at xs i (ltb-true i (length xs) e) in
    subst (λ o. item_or_none f o ≡ Some (or_empty (item_or_none f o))) (sym t.1) refl

items_there : (l : Lists) (source : Source) (i : ℕ) → nat_lt i (count_of l source) ≡ true → items_of l source i ≡ Some (or_empty (items_of l source i))
items_there l Inputs i e = item_there _ _ i e
items_there l OwnWords i e = item_there _ _ i e
items_there l (Triples p) i e = item_there _ _ i e
items_there l (BitTriples p) i e = item_there _ _ i e
items_there l (Pairs p) i e = item_there _ _ i e

-- ---- one step

-- what a step comes to, by what is needed, wanted and done
record Facts (s : Supply) (h : ℕ) (lists : Lists) (l : Local) (heard : List ℕ) (nd : Need) (w : Want) (d : Deed) (m : State) : Type 0 where
  gets : GetsFor (s h) l.state.cursors nd (words_for lists l.state.cursors heard nd)
  prints : (done l m d).printed ≡ l.printed ++ printed (received_in w heard ++ shown (seen d))
  sends : (p : ℕ) → (done l m d).sent p ≡ l.sent p ++ sent_to p (received_in w heard ++ shown (seen d))
  takes : (p : ℕ) → (done l m d).taken p ≡ l.taken p + length (received_from p (received_in w heard ++ shown (seen d)))
  links : (sent : ℕ → List (List ℕ)) → ((p : ℕ) (ys : List ℕ) → received_from p (received_in w heard ++ shown (seen d)) ≡ ys ∷ [] → slice_get (sent p) (l.taken p) ≡ Some ys)
      → TakesSent sent l nd (words_for lists l.state.cursors heard nd)

abbrev Given : Supply → ℕ → Lists → Type 0
Given s h lists = (source : Source) (i : ℕ) → s h source i ≡ items_of lists source i

quiet : (s : Supply) (h : ℕ) (lists : Lists) (l : Local) (heard : List ℕ) (m : State) → Facts s h lists l heard Nothing want.Nothing Quiet m
quiet s h lists l heard m = record {
  gets = refl;
  prints = sym (append-nil l.printed);
  sends = λ p. sym (append-nil (l.sent p));
  takes = λ p. omega arith;
  links = λ sent f. tt;
}

shows : (s : Supply) (h : ℕ) (lists : Lists) (l : Local) (heard : List ℕ) (m : State) (x : ℕ) → Facts s h lists l heard Nothing want.Nothing (Shows x) m
shows s h lists l heard m x = record {
  gets = refl;
  prints = refl;
  sends = λ p. sym (append-nil (l.sent p));
  takes = λ p. omega arith;
  links = λ sent f. tt;
}

sent_at : (l : Local) (q : ℕ) (ws : List ℕ) (p : ℕ) → put l.sent q (l.sent q ++ ws ∷ []) p ≡ l.sent p ++ ((if nat_eq q p then ws ∷ [] else []) ++ [])
sent_at l q ws p =
    elim (same_or_not p q) [
      | inl e ↦
          ap (λ i. put l.sent q (l.sent q ++ ws ∷ []) i) e ∙ put_same l.sent q (l.sent q ++ ws ∷ [])
          ∙ ap (λ i. l.sent i ++ ws ∷ []) (sym e) ∙ ap (λ b. l.sent p ++ ((if b then ws ∷ [] else []) ++ [])) (sym (eq-eqb q p (sym e)))
      | inr n ↦
          put_other l.sent q (l.sent q ++ ws ∷ []) p n ∙ sym (append-nil (l.sent p))
          ∙ ap (λ b. l.sent p ++ ((if b then ws ∷ [] else []) ++ [])) (sym (ne_eqb q p (λ i. n (sym i))))
    ]

says : (s : Supply) (h : ℕ) (lists : Lists) (l : Local) (heard : List ℕ) (m : State) (q : ℕ) (ws : List ℕ) → Facts s h lists l heard Nothing want.Nothing (Said q ws) m
says s h lists l heard m q ws = record {
  gets = refl;
  prints = sym (append-nil l.printed);
  sends = λ p. sent_at l q ws p;
  takes = λ p. omega arith;
  links = λ sent f. tt;
}

taken_at : (l : Local) (q : ℕ) (ws : List ℕ) (p : ℕ) → put l.taken q (suc (l.taken q)) p ≡ l.taken p + length ((if nat_eq q p then ws ∷ [] else []) ++ [])
taken_at l q ws p =
    elim (same_or_not p q) [
      | inl e ↦
          let a : put l.taken q (suc (l.taken q)) p ≡ suc (l.taken q) = ap (λ i. put l.taken q (suc (l.taken q)) i) e ∙ put_same l.taken q (suc (l.taken q)) in
          let b : l.taken p ≡ l.taken q = ap l.taken e in
          let c : length ((if nat_eq q p then ws ∷ [] else []) ++ []) ≡ 1 = ap (λ t. length ((if t then ws ∷ [] else []) ++ [])) (eq-eqb q p (sym e)) in
          omega (arith, a, b, c)
      | inr n ↦
          let a = put_other l.taken q (suc (l.taken q)) p n in
          let c : length ((if nat_eq q p then ws ∷ [] else []) ++ []) ≡ 0 = ap (λ t. length ((if t then ws ∷ [] else []) ++ [])) (ne_eqb q p (λ i. n (sym i))) in
          omega (arith, a, c)
    ]

hears : (s : Supply) (h : ℕ) (lists : Lists) (l : Local) (heard : List ℕ) (m : State) (q n : ℕ) → length heard ≡ n → Facts s h lists l heard (Packet q n) (want.Words (host q) n) (Heard q) m
hears s h lists l heard m q n counted = record {
  gets = counted;
  prints = sym (append-nil l.printed);
  sends = λ p. sym (append-nil (l.sent p));
  takes = λ p. taken_at l q heard p;
  links = λ sent f. f q heard (ap (λ t. (if t then heard ∷ [] else []) ++ []) (eq-eqb q q refl));
}

no_short : (source : Source) (i n : ℕ) (heard : List ℕ) → IsHeard (short source i n) heard → ⊥
no_short Inputs i n heard e = e
no_short OwnWords i n heard e = e
no_short (Triples p) i n heard e = e
no_short (BitTriples p) i n heard e = e
no_short (Pairs p) i n heard e = e

gives : (s : Supply) (h : ℕ) (lists : Lists) (l : Local) (heard : List ℕ) (m : State) (source : Source) → Given s h lists → (b : Bool) → nat_lt (l.state.cursors source) (count_of lists source) ≡ b
    → IsHeard (if b then want.Nothing else short source (l.state.cursors source) (count_of lists source)) heard
    → Facts s h lists l heard (Item source) (if b then want.Nothing else short source (l.state.cursors source) (count_of lists source)) Quiet m
gives s h lists l heard m source given true e i = record {
  gets = given source (l.state.cursors source) ∙ items_there lists source (l.state.cursors source) e;
  prints = sym (append-nil l.printed);
  sends = λ p. sym (append-nil (l.sent p));
  takes = λ p. omega arith;
  links = λ sent f. tt;
}
gives s h lists l heard m source given false e i = absurd (no_short source (l.state.cursors source) (count_of lists source) heard i)

compares : (s : Supply) (h : ℕ) (lists : Lists) (l : Local) (heard : List ℕ) (m : State) (x y : ℕ) (b : Bool) → IsHeard (want_of lists l.state.cursors (if b then Nothing else Unequal x y)) heard
    → Facts s h lists l heard (if b then Nothing else Unequal x y) (want_of lists l.state.cursors (if b then Nothing else Unequal x y)) Quiet m
compares s h lists l heard m x y true i = quiet s h lists l heard m
compares s h lists l heard m x y false i = absurd i

acts : (s : Supply) (h : ℕ) (lists : Lists) (l : Local) (heard : List ℕ) (m : State) → Given s h lists → (f : Registers) (a : Action) → IsHeard (want_of lists l.state.cursors (need_of_action f a)) heard
    → Facts s h lists l heard (need_of_action f a) (want_of lists l.state.cursors (need_of_action f a)) (deed_of_print (word_printed f a)) m
acts s h lists l heard m given f (action.Const r k) i = quiet s h lists l heard m
acts s h lists l heard m given f (action.Copy r x) i = quiet s h lists l heard m
acts s h lists l heard m given f (action.Apply o r x y) i = quiet s h lists l heard m
acts s h lists l heard m given f (action.Shl r x k) i = quiet s h lists l heard m
acts s h lists l heard m given f (action.Shr r x k) i = quiet s h lists l heard m
acts s h lists l heard m given f (action.Mux r c x y) i = quiet s h lists l heard m
acts s h lists l heard m given f (action.Own r) i = gives s h lists l heard m OwnWords given _ refl i
acts s h lists l heard m given f (action.Triple p a b c) i = gives s h lists l heard m (Triples p.0) given _ refl i
acts s h lists l heard m given f (action.Bits p a b c) i = gives s h lists l heard m (BitTriples p.0) given _ refl i
acts s h lists l heard m given f (action.Pair p a x) i = gives s h lists l heard m (Pairs p.0) given _ refl i
acts s h lists l heard m given f (action.Input r) i = gives s h lists l heard m Inputs given _ refl i
acts s h lists l heard m given f (action.Print r) i = shows s h lists l heard m (f r.0)
acts s h lists l heard m given f (action.Hash d n v) i = quiet s h lists l heard m
acts s h lists l heard m given f (action.Same x y) i = compares s h lists l heard m (f x.0) (f y.0) (nat_eq (f x.0) (f y.0)) i
acts s h lists l heard m given f (action.Zero r count) i = quiet s h lists l heard m
acts s h lists l heard m given f (action.Get r x count k) i = quiet s h lists l heard m
acts s h lists l heard m given f (action.Put x count k v) i = quiet s h lists l heard m

steps : (s : Supply) (h : ℕ) (lists : Lists) (l : Local) (heard : List ℕ) (m : State) → Given s h lists → (f : Registers) (c : Code) → IsHeard (want_of lists l.state.cursors (need_of f c)) heard
    → Facts s h lists l heard (need_of f c) (want_of lists l.state.cursors (need_of f c)) (deed_of f c) m
steps s h lists l heard m given f Finished i = absurd i
steps s h lists l heard m given f (Then a c) i = acts s h lists l heard m given f a i
steps s h lists l heard m given f (Send p rs c) i = says s h lists l heard m p _
steps s h lists l heard m given f (Recv p rs c) i = hears s h lists l heard m p (length rs) i.0
steps s h lists l heard m given f (Choose g first other c) i = quiet s h lists l heard m
steps s h lists l heard m given f (Repeat r turn count body c) i = quiet s h lists l heard m

-- ---- many steps

goes_more : (s : Supply) (h : ℕ) (l : Local) (words : List (List ℕ)) (xs : List ℕ) → Goes s h l words → Gets s h (gone l words) xs → Goes s h l (words ++ xs ∷ [])
goes_more s h l [] xs g e = (e, tt)
goes_more s h l (ws ∷ rest) xs g e = (g.0, goes_more s h (moved_on l ws) rest xs g.1 e)

gone_more : (l : Local) (words : List (List ℕ)) (xs : List ℕ) → gone l (words ++ xs ∷ []) ≡ moved_on (gone l words) xs
gone_more l [] xs = refl
gone_more l (ws ∷ rest) xs = gone_more (moved_on l ws) rest xs

linked_more : (sent : ℕ → List (List ℕ)) (l : Local) (words : List (List ℕ)) (xs : List ℕ) → IsLinked sent l words → TakesSent sent (gone l words) (need (gone l words).state) xs → IsLinked sent l (words ++ xs ∷ [])
linked_more sent l [] xs g e = (e, tt)
linked_more sent l (ws ∷ rest) xs g e = (g.0, linked_more sent (moved_on l ws) rest xs g.1 e)

-- steps with these events, as words with which the host goes on
pub record Trace (s : Supply) (h : ℕ) (start : Local) (events : List Event) (state : State) : Type 0 where
  pub words : List (List ℕ)
  pub goes : Goes s h start words
  pub state_is : (gone start words).state ≡ state
  pub prints : (gone start words).printed ≡ printed events
  pub sends : (p : ℕ) → (gone start words).sent p ≡ sent_to p events
  pub takes : (p : ℕ) → (gone start words).taken p ≡ length (received_from p events)
  pub links : (sent : ℕ → List (List ℕ)) → ((p : ℕ) → IsPrefixOf (received_from p events) (sent p)) → IsLinked sent start words

front_of_both : {X : Type 0} (xs ys zs : List X) → IsPrefixOf (xs ++ ys) zs → IsPrefixOf xs zs
front_of_both xs ys zs p = (ys ++ p.0, sym (append_assoc xs ys p.0) ∙ p.1)

place_of : {X : Type 0} (xs ys zs : List X) (x : X) → IsPrefixOf (xs ++ ys) zs → ys ≡ x ∷ [] → slice_get zs (length xs) ≡ Some x
place_of xs ys zs x p e =
    let f : zs ≡ xs ++ x ∷ p.0 = sym p.1 ∙ append_assoc xs ys p.0 ∙ ap (λ l. xs ++ (l ++ p.0)) e in
    ap (λ l. slice_get l (length xs)) f ∙ at_length xs x p.0

more_at : (s : Supply) (h : ℕ) (lists : Lists) (start : Local) (events : List Event) (words : List (List ℕ)) (heard : List ℕ) → Given s h lists → Goes s h start words
    → (gone start words).printed ≡ printed events → ((p : ℕ) → (gone start words).sent p ≡ sent_to p events) → ((p : ℕ) → (gone start words).taken p ≡ length (received_from p events))
    → ((sent : ℕ → List (List ℕ)) → ((p : ℕ) → IsPrefixOf (received_from p events) (sent p)) → IsLinked sent start words)
    → IsHeard (wants_with lists (gone start words).state) heard
    → Trace s h start (events ++ (received_in (wants_with lists (gone start words).state) heard ++ shown (seen_at (gone start words).state))) (next_with lists (gone start words).state heard)
more_at s h lists start events words heard given goes prints sends takes links i =
    let l = gone start words in
    let xs = words_for lists l.state.cursors heard (need l.state) in
    let f = steps s h lists l heard (next l.state xs) given l.state.registers l.state.pending i in
    let ev = received_in (wants_with lists l.state) heard ++ shown (seen_at l.state) in
    let same : gone start (words ++ xs ∷ []) ≡ moved_on l xs = gone_more start words xs in
    record {
      words = words ++ xs ∷ [];
      goes = goes_more s h start words xs goes f.gets;
      state_is = ap (λ (k : Local). k.state) same ∙ done_state l (next l.state xs) (deed l.state);
      prints = ap (λ (k : Local). k.printed) same ∙ f.prints ∙ ap (λ q. q ++ printed ev) prints ∙ sym (flat_both word_of events ev);
      sends = λ p. ap (λ (k : Local). k.sent p) same ∙ f.sends p ∙ ap (λ q. q ++ sent_to p ev) (sends p) ∙ sym (flat_both (packet_to p) events ev);
      takes = λ p. ap (λ (k : Local). k.taken p) same ∙ f.takes p ∙ ap (λ q. q + length (received_from p ev)) (takes p)
          ∙ sym (length_both (received_from p events) (received_from p ev)) ∙ ap length (sym (flat_both (packet_from p) events ev));
      links = λ sent all.
          let all' : (p : ℕ) → IsPrefixOf (received_from p events ++ received_from p ev) (sent p) = λ p. subst (λ q. IsPrefixOf q (sent p)) (flat_both (packet_from p) events ev) (all p) in
          linked_more sent start words xs (links sent (λ p. front_of_both _ _ _ (all' p)))
          (f.links sent (λ p ys e. ap (λ k. slice_get (sent p) k) (takes p) ∙ place_of (received_from p events) (received_from p ev) (sent p) ys (all' p) e));
    }

more : (s : Supply) (h : ℕ) (lists : Lists) (start : Local) (events : List Event) (m : State) (heard : List ℕ) → Given s h lists → Trace s h start events m → IsHeard (wants_with lists m) heard
    → Trace s h start (events ++ (received_in (wants_with lists m) heard ++ shown (seen_at m))) (next_with lists m heard)
more s h lists start events m heard given t i =
    subst (λ q. Trace s h start (events ++ (received_in (wants_with lists q) heard ++ shown (seen_at q))) (next_with lists q heard)) t.state_is
    (more_at s h lists start events t.words heard given t.goes t.prints t.sends t.takes t.links (subst (λ q. IsHeard (wants_with lists q) heard) (sym t.state_is) i))

pub traced : (s : Supply) (h : ℕ) (lists : Lists) (codes : ℕ → Code) → Given s h lists → (count : ℕ) (events : List Event) (m : State)
    → Reached (wants_with lists) (next_with lists) seen_at (at_start (codes h)) count events m → Trace s h (resting codes fresh h) events m
traced s h lists codes given _ _ _ AtStart = record { words = []; goes = tt; state_is = refl; prints = refl; sends = λ p. refl; takes = λ p. refl; links = λ sent all. tt }
traced s h lists codes given _ _ _ (OneMore count events m heard r i) = more s h lists (resting codes fresh h) events m heard given (traced s h lists codes given count events m r) i
