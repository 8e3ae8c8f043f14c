-- What a host's machine wants and does, and what its code keeps.
use Rattle.std.proofs.Common.{◌≡◌, ◌<◌, ◌≤◌, ℕ, suc, ◌-◌, Bool, true, false, cond, List, [], length, map, Option, Some, None, refl, sym, ap, subst, ◌∙◌, arith}
use Rattle.std.specs.Prelude.{nat_eq, nat_lt, if◌then◌else◌}
use Rattle.std.proofs.lemmas.List.{length-map}
use borrow.Author.Tests.{ltb-true}
use Rattle.vd_base.specs.HostSets.{host}
use Rattle.vd_base.specs.Packets.{packet_words}
use Rattle.vd_base.specs.declared.ids.HostId.{HostId}
use Rattle.vd_execution.specs.declared.instructions.Reg.{Reg}
use Rattle.vd_execution.specs.Code.{Code, Finished, Then, Send, Recv, Choose, Repeat, followed_by, weight}
use Rattle.vd_execution.specs.Registers.{Registers}
use Rattle.vd_execution.specs.Step.{Source, Inputs, OwnWords, Triples, BitTriples, Pairs, Cursors, Need, Nothing, Item, Packet, Unequal, Ended, Deed, Said, Heard, need_of, deed_of, deed_of_print, word_printed, pending_after}
use Rattle.vd_machine.specs.declared.did.Did.{Did}
use Rattle.vd_machine.specs.declared.did.Did.TheVariants as did
use Rattle.vd_machine.specs.declared.lists.Lists.{Lists}
use Rattle.vd_machine.specs.declared.want.Want.{Want}
use Rattle.vd_machine.specs.declared.want.Want.TheVariants as want
use Rattle.vd_machine.specs.Dids.{deed_of_did, seen}
use Rattle.vd_machine.specs.Machines.{IsLeft, IsMet}
use Rattle.vd_machine.specs.Wants.{want_of, short, count_of}
use Rattle.vd_engine.specs.Events.{IsHeard, shown}
use Rattle.vd_engine.specs.Hosts.{CanShow, IsPacketWith, PacketsAreWith}
use Rattle.vd_execution.proofs.Front.{weight_falls}
use Rattle.vd_machine.proofs.Front.{acts_alone, wants_words}

-- ---- what is wanted

item_left : (l : Lists) (s : Source) (i : ℕ) → i < count_of l s → IsLeft l s i
item_left l Inputs i h = h
item_left l OwnWords i h = h
item_left l (Triples p) i h = h
item_left l (BitTriples p) i h = h
item_left l (Pairs p) i h = h

short_is_unheard : (s : Source) (i j : ℕ) (heard : List ℕ) → IsHeard (short s i j) heard → ⊥
short_is_unheard Inputs i j heard h = h
short_is_unheard OwnWords i j heard h = h
short_is_unheard (Triples p) i j heard h = h
short_is_unheard (BitTriples p) i j heard h = h
short_is_unheard (Pairs p) i j heard h = h

item_met : (b : Bool) (s : Source) (i j : ℕ) (heard : List ℕ) → IsHeard (if b then want.Nothing else short s i j) heard → (b ≡ true) × (heard ≡ [])
item_met true s i j heard h = (refl, h)
item_met false s i j heard h = absurd (short_is_unheard s i j heard h)

-- where these words are what is wanted, the need is met
met : (l : Lists) (c : Cursors) (n : Need) (heard : List ℕ) → IsHeard (want_of l c n) heard → IsMet l c heard n
met l c Nothing heard h = h
met l c (Item s) heard h =
    let both = item_met (nat_lt (c s) (count_of l s)) s (c s) (count_of l s) heard h in
    (item_left l s (c s) (ltb-true (c s) (count_of l s) both.0), both.1)
met l c (Packet p k) heard h = h.0
met l c (Unequal x y) heard h = h
met l c Ended heard h = h

pub met_alone : (l : Lists) (c : Cursors) (n : Need) → want_of l c n ≡ want.Nothing → IsMet l c [] n
met_alone l c n is = met l c n [] (subst (λ (w : Want). IsHeard w []) (sym is) refl)

-- ---- a packet that is wanted

-- a code that wants a packet: nothing is shown, and the packet is one of its packets
pub record Awaits (holds : ℕ → Type 0) (peer count : ℕ) (does : Deed) : Type 0 where
  pub stands : holds peer
  pub some : 1 ≤ count
  pub most : count ≤ 16
  pub quiet : shown (seen does) ≡ []

awaited : (holds : ℕ → Type 0) (q p : ℕ) (rs : List Reg) (n : ℕ) → IsPacketWith holds q rs → Packet q (length rs) ≡ Packet p n → Awaits holds p n (Heard q)
awaited holds q p rs n is e =
    let peers : q ≡ p = cc in
    let counts : length rs ≡ n = cc in
    record {
      stands = subst holds peers is.0;
      some = let low = is.1 in omega (arith, low, counts);
      most = let high = is.2 in omega (arith, high, counts);
      quiet = refl;
    }

awaits_code : (holds : ℕ → Type 0) (f : Registers) (c : Code) (p n : ℕ) → PacketsAreWith holds c → need_of f c ≡ Packet p n → Awaits holds p n (deed_of f c)
awaits_code holds f Finished p n are e = absurd cc
awaits_code holds f (Then a c) p n are e = absurd (acts_alone f a p n e)
awaits_code holds f (Send q rs c) p n are e = absurd cc
awaits_code holds f (Recv q rs c) p n are e = awaited holds q p rs n are.0 e
awaits_code holds f (Choose g first other c) p n are e = absurd cc
awaits_code holds f (Repeat r turn count body c) p n are e = absurd cc

pub awaits : (holds : ℕ → Type 0) (l : Lists) (cursors : Cursors) (f : Registers) (c : Code) (p : HostId) (k : ℕ) → PacketsAreWith holds c → want_of l cursors (need_of f c) ≡ want.Words p k → Awaits holds p.0 k (deed_of f c)
awaits holds l cursors f c p k are is = awaits_code holds f c p.0 k are (wants_words l cursors (need_of f c) p k (sym is))

-- ---- what is shown

prints_no_packet : (o : Option ℕ) (p : ℕ) (words : List ℕ) → Said p words ≡ seen (deed_of_print o) → ⊥
prints_no_packet None p words e = cc
prints_no_packet (Some x) p words e = cc

sent : (holds : ℕ → Type 0) (f : Registers) (q p : ℕ) (rs : List Reg) (words : List ℕ) → IsPacketWith holds q rs → Said p words ≡ Said q (map (λ r. f r.0) rs) → holds p × (0 < length words)
sent holds f q p rs words is e =
    let peers : q ≡ p = cc in
    let same : words ≡ map (λ r. f r.0) rs = cc in
    (subst holds peers is.0, let some = is.1 in let count = ap length same ∙ length-map rs (λ (r : Reg). f r.0) in omega (arith, some, count))

said_of : (holds : ℕ → Type 0) (f : Registers) (c : Code) (p : ℕ) (words : List ℕ) → PacketsAreWith holds c → Said p words ≡ seen (deed_of f c) → holds p × (0 < length words)
said_of holds f Finished p words are e = absurd cc
said_of holds f (Then a c) p words are e = absurd (prints_no_packet (word_printed f a) p words e)
said_of holds f (Send q rs c) p words are e = sent holds f q p rs words are.0 e
said_of holds f (Recv q rs c) p words are e = absurd cc
said_of holds f (Choose g first other c) p words are e = absurd cc
said_of holds f (Repeat r turn count body c) p words are e = absurd cc

-- what is seen of a step can be passed on
pub can_show : (holds : ℕ → Type 0) (f : Registers) (c : Code) (d : Did) → PacketsAreWith holds c → deed_of_did d ≡ seen (deed_of f c) → CanShow holds d
can_show holds f c did.Quiet are e = tt
can_show holds f c (did.Say p packet) are e = said_of holds f c p.0 (packet_words packet) are e
can_show holds f c (did.Print x) are e = tt

-- ---- what is left

both_with : (holds : ℕ → Type 0) (c d : Code) → PacketsAreWith holds c → PacketsAreWith holds d → PacketsAreWith holds (followed_by c d)
both_with holds Finished d a b = b
both_with holds (Then act c) d a b = both_with holds c d a b
both_with holds (Send p rs c) d a b = (a.0, both_with holds c d a.1 b)
both_with holds (Recv p rs c) d a b = (a.0, both_with holds c d a.1 b)
both_with holds (Choose g first other c) d a b = (a.0, (a.1.0, both_with holds c d a.1.1 b))
both_with holds (Repeat r turn count body c) d a b = (a.0, both_with holds c d a.1 b)

chosen_with : (holds : ℕ → Type 0) (b : Bool) (first other rest : Code) → PacketsAreWith holds first → PacketsAreWith holds other → PacketsAreWith holds rest
    → PacketsAreWith holds (followed_by (cond b other first) rest)
chosen_with holds true first other rest x y z = both_with holds other rest y z
chosen_with holds false first other rest x y z = both_with holds first rest x z

turned_with : (holds : ℕ → Type 0) (b : Bool) (r turn count : ℕ) (body rest : Code) → PacketsAreWith holds body → PacketsAreWith holds rest
    → PacketsAreWith holds (cond b (followed_by body (Repeat r (suc turn) count body rest)) rest)
turned_with holds true r turn count body rest x y = both_with holds body (Repeat r (suc turn) count body rest) x (x, y)
turned_with holds false r turn count body rest x y = y

-- a step leaves no other packets
pub still_with : (holds : ℕ → Type 0) (f : Registers) (c : Code) → PacketsAreWith holds c → PacketsAreWith holds (pending_after f c)
still_with holds f Finished are = tt
still_with holds f (Then a c) are = are
still_with holds f (Send p rs c) are = are.1
still_with holds f (Recv p rs c) are = are.1
still_with holds f (Choose g first other c) are = chosen_with holds (nat_eq (f g) 0) first other c are.0 are.1.0 are.1.1
still_with holds f (Repeat r turn count body c) are = turned_with holds (nat_lt turn count) r turn count body c are.0 are.1

packet_with : (holds later : ℕ → Type 0) (p : ℕ) (rs : List Reg) → ((host : ℕ) → holds host → later host) → IsPacketWith holds p rs → IsPacketWith later p rs
packet_with holds later p rs goes is = (goes p is.0, is.1, is.2)

-- and what held of their hosts may hold in another way
pub also_with : (holds later : ℕ → Type 0) (c : Code) → ((host : ℕ) → holds host → later host) → PacketsAreWith holds c → PacketsAreWith later c
also_with holds later Finished goes are = tt
also_with holds later (Then a c) goes are = also_with holds later c goes are
also_with holds later (Send p rs c) goes are = (packet_with holds later p rs goes are.0, also_with holds later c goes are.1)
also_with holds later (Recv p rs c) goes are = (packet_with holds later p rs goes are.0, also_with holds later c goes are.1)
also_with holds later (Choose g first other c) goes are = (also_with holds later first goes are.0, (also_with holds later other goes are.1.0, also_with holds later c goes are.1.1))
also_with holds later (Repeat r turn count body c) goes are = (also_with holds later body goes are.0, also_with holds later c goes are.1)

-- ---- each step makes what is pending less

ended_is_unheard : (l : Lists) (cursors : Cursors) (n : Need) (heard : List ℕ) → IsHeard (want_of l cursors n) heard → n ≡ Ended → ⊥
ended_is_unheard l cursors n heard h is = subst (λ (m : Need). IsHeard (want_of l cursors m) heard) is h

pub falls : (l : Lists) (cursors : Cursors) (f : Registers) (c : Code) (heard : List ℕ) → IsHeard (want_of l cursors (need_of f c)) heard → weight (pending_after f c) < weight c
falls l cursors f c heard h = weight_falls f c (ended_is_unheard l cursors (need_of f c) heard h)
