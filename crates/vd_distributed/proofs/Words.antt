-- What a host sends are words.
use Rattle.std.proofs.Common.{◌≡◌, ℕ, suc, ◌<◌, ◌^◌, nat_eq, nat_lt, if◌then◌else◌, Bool, true, false, List, [], ◌∷◌, ◌++◌, Option, Some, None, refl, sym, ap, ◌∙◌, subst, arith}
use Rattle.std.proofs.lemmas.Bool.Decides.{nat_tests}
use Rattle.vd_execution.specs.declared.instructions.Reg.{Reg}
use Rattle.vd_execution.specs.declared.instructions.Action.{Action}
use Rattle.vd_execution.specs.declared.instructions.Action.TheVariants as action
use Rattle.vd_execution.specs.Code.{Code, Finished, Then, Send, Recv, Choose, Repeat, followed_by}
use Rattle.vd_execution.specs.Registers.{Registers, put, put_each, written}
use Rattle.vd_execution.specs.Step.{Source, Inputs, OwnWords, Triples, BitTriples, Pairs, State, Cursors, Nothing, Unequal, Deed, Quiet, Said, Heard, Printed as Shows, need_of, need_of_action, deed_of, deed_of_print, word_printed, words_in, registers_after, pending_after}
use Rattle.vd_execution.proofs.Front.{AreItem, put_words, written_words}
use Rattle.vd_machine.specs.declared.lists.Lists.{Lists}
use Rattle.vd_machine.specs.declared.want.Want.{Want}
use Rattle.vd_machine.specs.declared.want.Want.TheVariants as want
use Rattle.vd_machine.specs.Dids.{seen}
use Rattle.vd_machine.specs.Machines.{items_of, or_empty, words_for}
use Rattle.vd_machine.specs.Wants.{want_of}
use Rattle.vd_base.specs.Words.{AreWords}
use Rattle.vd_link.specs.Laws.{ArePackets}
use Rattle.vd_engine.specs.Events.{Event, Reached, AtStart, OneMore, IsHeard, received_in, shown, packet_from, packet_to, received_from, sent_to}
use Rattle.vd_engine.specs.Hosts.{wants_with, next_with, seen_at}
use Rattle.vd_distributed.specs.Linked.{NumberIsWord, NumbersAreWords}
use Rattle.vd_distributed.proofs.Fronts.{flat_both}

abbrev HoldWords : Registers → Type 0
HoldWords f = (r : ℕ) → f r < 2 ^ 32

-- the items of a host's lists are words
abbrev pub AreItems : Lists → Type 0
AreItems lists = (source : Source) (i : ℕ) → AreItem (or_empty (items_of lists source i))

-- ---- packets

packets_both : (xs ys : List (List ℕ)) → ArePackets xs → ArePackets ys → ArePackets (xs ++ ys)
packets_both [] ys p q = q
packets_both (x ∷ xs) ys p q = (p.0, packets_both xs ys p.1 q)

one_or_none : (b : Bool) (words : List ℕ) → AreWords words → ArePackets ((if b then words ∷ [] else []) ++ [])
one_or_none true words p = (p, tt)
one_or_none false words p = tt

-- ---- one step

put_heard : (f : Registers) (rs : List Reg) (xs : List ℕ) → HoldWords f → AreWords xs → HoldWords (put_each f rs xs)
put_heard f [] xs all small = all
put_heard f (r ∷ rs) [] all small = all
put_heard f (r ∷ rs) (x ∷ xs) all small = put_heard (put f r.0 x) rs xs (put_words f r.0 x all small.0) small.1

said_words : (f : Registers) (rs : List Reg) → HoldWords f → AreWords (words_in f rs)
said_words f [] all = tt
said_words f (r ∷ rs) all = (all r.0, said_words f rs all)

nothing : AreItem []
nothing place = omega arith

compared : (lists : Lists) (k : Cursors) (heard : List ℕ) (x y : ℕ) (b : Bool) → AreItem (words_for lists k heard (if b then Nothing else Unequal x y))
compared lists k heard x y true = nothing
compared lists k heard x y false = nothing

item_for : (lists : Lists) (k : Cursors) (heard : List ℕ) → AreItems lists → (f : Registers) (a : Action) → AreItem (words_for lists k heard (need_of_action f a))
item_for lists k heard items f (action.Const r n) = nothing
item_for lists k heard items f (action.Copy r x) = nothing
item_for lists k heard items f (action.Apply o r x y) = nothing
item_for lists k heard items f (action.Shl r x n) = nothing
item_for lists k heard items f (action.Shr r x n) = nothing
item_for lists k heard items f (action.Mux r c x y) = nothing
item_for lists k heard items f (action.Own r) = items OwnWords (k OwnWords)
item_for lists k heard items f (action.Triple p a b c) = items (Triples p.0) (k (Triples p.0))
item_for lists k heard items f (action.Bits p a b c) = items (BitTriples p.0) (k (BitTriples p.0))
item_for lists k heard items f (action.Pair p a x) = items (Pairs p.0) (k (Pairs p.0))
item_for lists k heard items f (action.Input r) = items Inputs (k Inputs)
item_for lists k heard items f (action.Print r) = nothing
item_for lists k heard items f (action.Hash d n v) = nothing
item_for lists k heard items f (action.Same x y) = compared lists k heard (f x.0) (f y.0) (nat_eq (f x.0) (f y.0))
item_for lists k heard items f (action.Zero r count) = nothing
item_for lists k heard items f (action.Get r x count i) = nothing
item_for lists k heard items f (action.Put x count i v) = nothing

-- the same of the numbers of an action in the other crate's words
fits_too : (f : Registers) (a : Action) (xs : List ℕ) → NumberIsWord a → AreItem xs → HoldWords f → HoldWords (written f a xs)
fits_too f (action.Const r n) xs fits item all = written_words f (action.Const r n) xs fits item all
fits_too f (action.Copy r x) xs fits item all = written_words f (action.Copy r x) xs fits item all
fits_too f (action.Apply o r x y) xs fits item all = written_words f (action.Apply o r x y) xs fits item all
fits_too f (action.Shl r x n) xs fits item all = written_words f (action.Shl r x n) xs fits item all
fits_too f (action.Shr r x n) xs fits item all = written_words f (action.Shr r x n) xs fits item all
fits_too f (action.Mux r c x y) xs fits item all = written_words f (action.Mux r c x y) xs fits item all
fits_too f (action.Own r) xs fits item all = written_words f (action.Own r) xs fits item all
fits_too f (action.Triple p a b c) xs fits item all = written_words f (action.Triple p a b c) xs fits item all
fits_too f (action.Bits p a b c) xs fits item all = written_words f (action.Bits p a b c) xs fits item all
fits_too f (action.Pair p a x) xs fits item all = written_words f (action.Pair p a x) xs fits item all
fits_too f (action.Input r) xs fits item all = written_words f (action.Input r) xs fits item all
fits_too f (action.Print r) xs fits item all = written_words f (action.Print r) xs fits item all
fits_too f (action.Hash d n v) xs fits item all = written_words f (action.Hash d n v) xs fits item all
fits_too f (action.Same x y) xs fits item all = written_words f (action.Same x y) xs fits item all
fits_too f (action.Zero r count) xs fits item all = written_words f (action.Zero r count) xs fits item all
fits_too f (action.Get r x count i) xs fits item all = written_words f (action.Get r x count i) xs fits item all
fits_too f (action.Put x count i v) xs fits item all = written_words f (action.Put x count i v) xs fits item all

numbers_both : (c d : Code) → NumbersAreWords c → NumbersAreWords d → NumbersAreWords (followed_by c d)
numbers_both Finished d p q = q
numbers_both (Then a c) d p q = (p.0, numbers_both c d p.1 q)
numbers_both (Send peer rs c) d p q = numbers_both c d p q
numbers_both (Recv peer rs c) d p q = numbers_both c d p q
numbers_both (Choose g first other c) d p q = (p.0, (p.1.0, numbers_both c d p.1.1 q))
numbers_both (Repeat r turn count body c) d p q = (p.0, (p.1.0, numbers_both c d p.1.1 q))

chosen : (b : Bool) (first other rest : Code) → NumbersAreWords first → NumbersAreWords other → NumbersAreWords rest → NumbersAreWords (followed_by (if b then other else first) rest)
chosen true first other rest p q r = numbers_both other rest q r
chosen false first other rest p q r = numbers_both first rest p r

-- after a step registers hold words, and the numbers of what is pending are words
abbrev Fits : Registers → Code → Type 0
Fits f c = HoldWords f × NumbersAreWords c

turned : (b : Bool) (f : Registers) (r turn count : ℕ) (body rest : Code) → nat_lt turn count ≡ b → HoldWords f → NumbersAreWords (Repeat r turn count body rest)
    → Fits (if b then put f r turn else f) (if b then followed_by body (Repeat r (suc turn) count body rest) else rest)
turned true f r turn count body rest e all p = (
  put_words f r turn all (let lt : turn < count = grind (arith, nat_tests) in let low = p.0 in omega (arith, lt, low)),
  numbers_both body (Repeat r (suc turn) count body rest) p.1.0 p,
)
turned false f r turn count body rest e all p = (all, p.1.1)

fits_next : (lists : Lists) (k : Cursors) (heard : List ℕ) → AreItems lists → (f : Registers) (c : Code) → Fits f c → IsHeard (want_of lists k (need_of f c)) heard
    → Fits (registers_after f c (words_for lists k heard (need_of f c))) (pending_after f c)
fits_next lists k heard items f Finished fits i = absurd i
fits_next lists k heard items f (Then a rest) fits i = (fits_too f a _ fits.1.0 (item_for lists k heard items f a) fits.0, fits.1.1)
fits_next lists k heard items f (Send p rs rest) fits i = fits
fits_next lists k heard items f (Recv p rs rest) fits i = (put_heard f rs heard fits.0 i.1, fits.1)
fits_next lists k heard items f (Choose g first other rest) fits i = (fits.0, chosen (nat_eq (f g) 0) first other rest fits.1.0 fits.1.1.0 fits.1.1.1)
fits_next lists k heard items f (Repeat r turn count body rest) fits i = turned (nat_lt turn count) f r turn count body rest refl fits.0 fits.1

-- ---- what is seen of it

abbrev SaysWords : Deed → Type 0
SaysWords (Said peer words) = AreWords words
SaysWords other = Unit {0}

print_says : (o : Option ℕ) → SaysWords (seen (deed_of_print o))
print_says None = tt
print_says (Some x) = tt

says_words : (f : Registers) (c : Code) → HoldWords f → SaysWords (seen (deed_of f c))
says_words f Finished all = tt
says_words f (Then a rest) all = print_says (word_printed f a)
says_words f (Send p rs rest) all = said_words f rs all
says_words f (Recv p rs rest) all = tt
says_words f (Choose g first other rest) all = tt
says_words f (Repeat r turn count body rest) all = tt

shown_sent : (d : Deed) (p : ℕ) → SaysWords d → ArePackets (sent_to p (shown d))
shown_sent Quiet p w = tt
shown_sent (Said peer words) p w = one_or_none (nat_eq peer p) words w
shown_sent (Heard peer) p w = tt
shown_sent (Shows x) p w = tt

shown_received : (d : Deed) (p : ℕ) → received_from p (shown d) ≡ []
shown_received Quiet p = refl
shown_received (Said peer words) p = refl
shown_received (Heard peer) p = refl
shown_received (Shows x) p = refl

in_sent : (w : Want) (heard : List ℕ) (p : ℕ) → sent_to p (received_in w heard) ≡ []
in_sent want.Nothing heard p = refl
in_sent (want.Words host count) heard p = refl
in_sent want.Ended heard p = refl
in_sent (want.ShortInput i n) heard p = refl
in_sent (want.ShortDeal kind i n) heard p = refl
in_sent (want.Unequal x y) heard p = refl

in_received : (w : Want) (heard : List ℕ) (p : ℕ) → IsHeard w heard → ArePackets (received_from p (received_in w heard))
in_received want.Nothing heard p i = tt
in_received (want.Words host count) heard p i = one_or_none (nat_eq host.0 p) heard i.1
in_received want.Ended heard p i = tt
in_received (want.ShortInput n m) heard p i = tt
in_received (want.ShortDeal kind n m) heard p i = tt
in_received (want.Unequal x y) heard p i = tt

-- ---- many steps

pub record AreSound (events : List Event) (m : State) : Type 0 where
  pub fits : HoldWords m.registers
  pub numbers : NumbersAreWords m.pending
  pub sent : (p : ℕ) → ArePackets (sent_to p events)
  pub received : (p : ℕ) → ArePackets (received_from p events)

sound_next : (lists : Lists) → AreItems lists → (events : List Event) (m : State) (heard : List ℕ) → AreSound events m → IsHeard (wants_with lists m) heard
    → AreSound (events ++ (received_in (wants_with lists m) heard ++ shown (seen_at m))) (next_with lists m heard)
sound_next lists items events m heard s i =
    let w = wants_with lists m in
    let d = seen_at m in
    let next = fits_next lists m.cursors heard items m.registers m.pending (s.fits, s.numbers) i in
    record {
      fits = next.0;
      numbers = next.1;
      sent = λ p. subst ArePackets (sym (flat_both (packet_to p) events (received_in w heard ++ shown d)))
          (packets_both (sent_to p events) (sent_to p (received_in w heard ++ shown d)) (s.sent p)
          (subst ArePackets (sym (flat_both (packet_to p) (received_in w heard) (shown d) ∙ ap (λ l. l ++ sent_to p (shown d)) (in_sent w heard p)))
          (shown_sent d p (says_words m.registers m.pending s.fits))));
      received = λ p. subst ArePackets (sym (flat_both (packet_from p) events (received_in w heard ++ shown d)))
          (packets_both (received_from p events) (received_from p (received_in w heard ++ shown d)) (s.received p)
          (subst ArePackets (sym (flat_both (packet_from p) (received_in w heard) (shown d)))
          (packets_both (received_from p (received_in w heard)) (received_from p (shown d)) (in_received w heard p i) (subst ArePackets (sym (shown_received d p)) tt))));
    }

pub sound_from : (lists : Lists) → AreItems lists → (start : State) → HoldWords start.registers → NumbersAreWords start.pending → (steps : ℕ) (events : List Event) (m : State)
    → Reached (wants_with lists) (next_with lists) seen_at start steps events m → AreSound events m
sound_from lists items start fits numbers _ _ _ AtStart = record { fits = fits; numbers = numbers; sent = λ p. tt; received = λ p. tt }
sound_from lists items start fits numbers _ _ _ (OneMore steps events m heard r i) =
    sound_next lists items events m heard (sound_from lists items start fits numbers steps events m r) i
