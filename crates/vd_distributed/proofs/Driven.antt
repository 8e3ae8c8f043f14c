-- One host that was driven, as steps that explain all that went over its links and into its output.
use Rattle.std.proofs.Common.{◌≡◌, ◌⊎◌, inl, inr, ◌+◌, ℕ, nat_eq, nat_lt, if◌then◌else◌, Bool, true, false, IsTrue, List, [], ◌∷◌, ◌++◌, length, Option, Some, None, Result, Ok, Err, refl, sym, ap, ◌∙◌, subst}
use Rattle.std.proofs.lemmas.List.{append-nil}
use Rattle.std.proofs.lemmas.Bool.{eq-eqb}
use Rattle.std.specs.Prelude.{IfSome, take}
use Rattle.vd_outside.specs.Sink.{SinkView}
use Rattle.vd_execution.specs.declared.instructions.Action.{Action}
use Rattle.vd_execution.specs.declared.instructions.Action.TheVariants as action
use Rattle.vd_execution.specs.Code.{Code, Finished, Then, Send, Recv, Choose, Repeat}
use Rattle.vd_execution.specs.Registers.{Registers}
use Rattle.vd_execution.specs.Step.{Source, Inputs, OwnWords, Triples, BitTriples, Pairs, State, Cursors, Need, Nothing, Item, Packet, Unequal, Ended, Deed, Quiet, Said, Heard, Printed as Shows, need, need_of, need_of_action}
use Rattle.vd_execution.specs.World.{IsPrefixOf}
use Rattle.vd_execution.proofs.Front.{same_or_not}
use Rattle.vd_machine.specs.declared.lists.Lists.{Lists}
use Rattle.vd_machine.specs.declared.want.Want.{Want}
use Rattle.vd_machine.specs.declared.want.Want.TheVariants as want
use Rattle.vd_machine.specs.Wants.{want_of, count_of, short}
use Rattle.vd_link.specs.Frames.{frame, frames}
use Rattle.vd_link.specs.Receiving.{IsBadByte}
use Rattle.vd_link.specs.Sessions.{offset_after}
use Rattle.vd_engine.specs.Drives.{At, Breaks, CarriesAt, CarriesAll, CarriesOthers, Drives, EndsAt, FailsAt, IsDriven, NoPacket, Prints, SaysTo, SessionView, Sessions, TakesFrom, Writes, lines, offset_behind}
use Rattle.vd_engine.specs.Enough.{AreTold}
use Rattle.vd_engine.specs.Events.{Event, Reached, OneMore, IsHeard, received_in, shown, packet_from, packet_to, word_of, received_from, sent_to, printed}
use Rattle.vd_engine.specs.Hosts.{wants_with, next_with, seen_at}
use Rattle.vd_engine.specs.declared.engine.Ended.{Ended as Done}
use Rattle.vd_engine.specs.declared.fault.EngineFault.{EngineFault}
use Rattle.vd_engine.specs.declared.fault.EngineFault.TheVariants as fault
use Rattle.vd_distributed.specs.Linked.{bytes_to_come, bytes_sent, Takes}
use Rattle.vd_distributed.proofs.Fronts.{added, flat_both, flat_front, front_both, front_same, front_trans, taken_front}

-- ---- what wants say of needs

short_is_not : (source : Source) (i n x y : ℕ) → short source i n ≡ want.Unequal x y → ⊥
short_is_not Inputs i n x y e = cc
short_is_not OwnWords i n x y e = cc
short_is_not (Triples p) i n x y e = cc
short_is_not (BitTriples p) i n x y e = cc
short_is_not (Pairs p) i n x y e = cc

item_differs : (source : Source) (b : Bool) (i n x y : ℕ) → (if b then want.Nothing else short source i n) ≡ want.Unequal x y → ⊥
item_differs source true i n x y e = cc
item_differs source false i n x y e = short_is_not source i n x y e

unequal_need : (lists : Lists) (c : Cursors) (n : Need) (x y : ℕ) → want_of lists c n ≡ want.Unequal x y → n ≡ Unequal x y
unequal_need lists c Nothing x y e = cc
unequal_need lists c (Item source) x y e = absurd (item_differs source (nat_lt (c source) (count_of lists source)) (c source) (count_of lists source) x y e)
unequal_need lists c (Packet p n) x y e = cc
unequal_need lists c (Unequal a b) x y e = cc
unequal_need lists c Ended x y e = cc

short_not_ended : (source : Source) (i n : ℕ) → short source i n ≡ want.Ended → ⊥
short_not_ended Inputs i n e = cc
short_not_ended OwnWords i n e = cc
short_not_ended (Triples p) i n e = cc
short_not_ended (BitTriples p) i n e = cc
short_not_ended (Pairs p) i n e = cc

item_not_ended : (source : Source) (b : Bool) (i n : ℕ) → (if b then want.Nothing else short source i n) ≡ want.Ended → ⊥
item_not_ended source true i n e = cc
item_not_ended source false i n e = short_not_ended source i n e

ended_need : (lists : Lists) (c : Cursors) (n : Need) → want_of lists c n ≡ want.Ended → n ≡ Ended
ended_need lists c Nothing e = cc
ended_need lists c (Item source) e = absurd (item_not_ended source (nat_lt (c source) (count_of lists source)) (c source) (count_of lists source) e)
ended_need lists c (Packet p n) e = cc
ended_need lists c (Unequal a b) e = cc
ended_need lists c Ended e = refl

action_needs : (f : Registers) (a : Action) → need_of_action f a ≡ Ended → ⊥
action_needs f (action.Same x y) e = at (nat_eq (f x.0) (f y.0)) e
  where
    at : (b : Bool) → (if b then Nothing else Unequal (f x.0) (f y.0)) ≡ Ended → ⊥
    at true d = cc
    at false d = cc
action_needs f a e = cc

code_ended : (f : Registers) (c : Code) → need_of f c ≡ Ended → c ≡ Finished
code_ended f Finished e = refl
code_ended f (Then a rest) e = absurd (action_needs f a e)
code_ended f (Send p rs rest) e = cc
code_ended f (Recv p rs rest) e = cc
code_ended f (Choose g first other rest) e = cc
code_ended f (Repeat r turn count body rest) e = cc

pub ended_pending : (lists : Lists) (m : State) → wants_with lists m ≡ want.Ended → m.pending ≡ Finished
ended_pending lists m e = code_ended m.registers m.pending (ended_need lists m.cursors (need m) e)

short_takes : (source : Source) (i n host count : ℕ) → TakesFrom (short source i n) host count → ⊥
short_takes Inputs i n host count e = e
short_takes OwnWords i n host count e = e
short_takes (Triples p) i n host count e = e
short_takes (BitTriples p) i n host count e = e
short_takes (Pairs p) i n host count e = e

item_takes : (source : Source) (b : Bool) (i n host count : ℕ) → TakesFrom (if b then want.Nothing else short source i n) host count → ⊥
item_takes source true i n host count e = e
item_takes source false i n host count e = short_takes source i n host count e

pub takes_need : (lists : Lists) (c : Cursors) (n : Need) (host count : ℕ) → TakesFrom (want_of lists c n) host count → n ≡ Packet host count
takes_need lists c Nothing host count e = absurd e
takes_need lists c (Item source) host count e = absurd (item_takes source (nat_lt (c source) (count_of lists source)) (c source) (count_of lists source) host count e)
takes_need lists c (Packet p n) host count e = let a = e.0 in let b = e.1 in cc
takes_need lists c (Unequal a b) host count e = absurd e
takes_need lists c Ended host count e = absurd e

-- ---- sessions

came_of : (p : ℕ) (events : List Event) (before now : Option SessionView) → IfSome now (λ session. IsTrue session.link.told) → CarriesAt p events before now
    → IsPrefixOf (frames (received_from p events)) (bytes_to_come before)
came_of p events None None told c = front_same _ _ (ap frames c.0)
came_of p events (Some before) (Some now) told c = (now.link.coming, sym (c.came told))
came_of p events None (Some now) told c = absurd c
came_of p events (Some before) None told c = absurd c

went_of : (p : ℕ) (events : List Event) (before now : Option SessionView) → IfSome now (λ session. IsTrue session.link.told) → CarriesAt p events before now
    → bytes_sent before now ≡ frames (sent_to p events)
went_of p events None None told c = sym (ap frames c.1)
went_of p events (Some before) (Some now) told c = added before.link.sent (frames (sent_to p events)) now.link.sent (c.went told)
went_of p events None (Some now) told c = absurd c
went_of p events (Some before) None told c = absurd c

-- ---- a host's steps

-- what the answer says of the last state
abbrev pub EndsSo : (come : ℕ → List ℕ) → Lists → List Event → State → SinkView → SinkView → Result Done EngineFault → Type 0
EndsSo come lists events m ob on (Ok done) = (m.pending ≡ Finished) × (IsTrue on.told → Takes ob on (lines (printed events)))
EndsSo come lists events m ob on (Err (fault.BadFrame host offset byte)) =
    (count : ℕ) × (need m ≡ Packet host.0 count) × (rest : List ℕ) × (come host.0 ≡ frames (received_from host.0 events) ++ rest)
    × (at : ℕ) × IsBadByte 0x56 count at (offset_after at 1) offset byte rest
EndsSo come lists events m ob on (Err (fault.Unequal left right)) = need m ≡ Unequal left right
EndsSo come lists events m ob on (Err cause) = Unit {0}

-- steps that explain what came and went
pub record Made (lists : Lists) (start : State) (come went : ℕ → List ℕ) : Type 0 where
  pub steps : ℕ
  pub events : List Event
  pub state : State
  pub reached : Reached (wants_with lists) (next_with lists) seen_at start steps events state
  pub came : (p : ℕ) → IsPrefixOf (frames (received_from p events)) (come p)
  pub sent : (p : ℕ) → IsPrefixOf (went p) (frames (sent_to p events))

-- and what was written
pub record Ran (lists : Lists) (start : State) (come went : ℕ → List ℕ) (ob on : SinkView) (result : Result Done EngineFault) : Type 0 where
  pub made : Made lists start come went
  pub written : IsTrue on.told → (front : List ℕ) × IsPrefixOf front (lines (printed made.events)) × Takes ob on front
  pub was_told : IsTrue on.told → IsTrue ob.told
  pub ends : EndsSo come lists made.events made.state ob on result

-- one step more that takes nothing
one_step : (lists : Lists) (start m : State) (steps : ℕ) (events : List Event) → wants_with lists m ≡ want.Nothing → Reached (wants_with lists) (next_with lists) seen_at start steps events m
    → Reached (wants_with lists) (next_with lists) seen_at start (steps + 1) (events ++ shown (seen_at m)) (next_with lists m [])
one_step lists start m steps events is r =
    subst (λ (w : Want). Reached (wants_with lists) (next_with lists) seen_at start (steps + 1) (events ++ (received_in w [] ++ shown (seen_at m))) (next_with lists m [])) is
    (OneMore steps events m [] r (subst (λ (w : Want). IsHeard w []) (sym is) refl))

no_more_received : (p : ℕ) (d : Deed) → received_from p (shown d) ≡ []
no_more_received p Quiet = refl
no_more_received p (Said q words) = refl
no_more_received p (Heard q) = refl
no_more_received p (Shows x) = refl

still_received : (p : ℕ) (events : List Event) (d : Deed) → received_from p (events ++ shown d) ≡ received_from p events
still_received p events d = flat_both (packet_from p) events (shown d) ∙ ap (λ l. received_from p events ++ l) (no_more_received p d) ∙ append-nil (received_from p events)

more_sent : (p : ℕ) (events more : List Event) → IsPrefixOf (frames (sent_to p events)) (frames (sent_to p (events ++ more)))
more_sent p events more = flat_front frame _ _ (flat_front (packet_to p) events (events ++ more) (more, refl))

more_printed : (events more : List Event) → IsPrefixOf (lines (printed events)) (lines (printed (events ++ more)))
more_printed events more = flat_front _ _ _ (flat_front word_of events (events ++ more) (more, refl))

-- a packet that went out in part is the next one
part_sent : (host : ℕ) (events : List Event) (d : Deed) (words : List ℕ) (front : ℕ) → SaysTo d host words
    → IsPrefixOf (frames (sent_to host events) ++ take front (frame words)) (frames (sent_to host (events ++ shown d)))
part_sent host events (Said to packet) words front says =
    let is : sent_to host (events ++ shown (Said to packet)) ≡ sent_to host events ++ words ∷ [] =
    flat_both (packet_to host) events (shown (Said to packet)) ∙ ap (λ l. sent_to host events ++ l) (to_it to packet says) in
    let all : frames (sent_to host (events ++ shown (Said to packet))) ≡ frames (sent_to host events) ++ (frame words ++ []) = ap frames is ∙ flat_both frame (sent_to host events) (words ∷ []) in
    subst (λ l. IsPrefixOf (frames (sent_to host events) ++ take front (frame words)) l) (sym all)
    (front_both (frames (sent_to host events)) (take front (frame words)) (frame words ++ []) (front_trans _ (frame words) _ (taken_front front (frame words)) ([], refl)))
  where
    itself : (host : ℕ) (words : List ℕ) → (if nat_eq host host then words ∷ [] else []) ++ [] ≡ words ∷ []
    itself host words = ap (λ (b : Bool). (if b then words ∷ [] else []) ++ []) (eq-eqb host host refl)

    to_it : (to : ℕ) (packet : List ℕ) → (to ≡ host) × (packet ≡ words) → (if nat_eq to host then packet ∷ [] else []) ++ [] ≡ words ∷ []
    to_it to packet e = subst (λ (t : ℕ). (if nat_eq t host then packet ∷ [] else []) ++ [] ≡ words ∷ []) (sym e.0) (subst (λ (w : List ℕ). (if nat_eq host host then w ∷ [] else []) ++ [] ≡ words ∷ []) (sym e.1) (itself host words))
part_sent host events Quiet words front says = absurd says
part_sent host events (Heard q) words front says = absurd says
part_sent host events (Shows x) words front says = absurd says

part_printed : (events : List Event) (d : Deed) (word : ℕ) (front : ℕ) → Prints d word
    → IsPrefixOf (lines (printed events) ++ take front (lines (word ∷ []))) (lines (printed (events ++ shown d)))
part_printed events (Shows x) word front says =
    let is : printed (events ++ shown (Shows x)) ≡ printed events ++ word ∷ [] = flat_both word_of events (shown (Shows x)) ∙ ap (λ (w : ℕ). printed events ++ w ∷ []) says in
    let all : lines (printed (events ++ shown (Shows x))) ≡ lines (printed events) ++ lines (word ∷ []) = ap lines is ∙ flat_both _ (printed events) (word ∷ []) in
    subst (λ l. IsPrefixOf (lines (printed events) ++ take front (lines (word ∷ []))) l) (sym all)
    (front_both (lines (printed events)) (take front (lines (word ∷ []))) (lines (word ∷ [])) (taken_front front (lines (word ∷ []))))
part_printed events Quiet word front says = absurd says
part_printed events (Said q words) word front says = absurd says
part_printed events (Heard q) word front says = absurd says

-- ---- from what `drive` says

module _ (lists : Lists) (start : State) (before now : Sessions) (ob on : SinkView) (told : AreTold now) where
  abbrev come : ℕ → List ℕ
  come p = bytes_to_come (before p)

  abbrev went : ℕ → List ℕ
  went p = bytes_sent (before p) (now p)

  abbrev Reaches : ℕ → List Event → State → Type 0
  Reaches steps events m = Reached (wants_with lists) (next_with lists) seen_at start steps events m

  came_all : (events : List Event) → CarriesAll events before now → (p : ℕ) → IsPrefixOf (frames (received_from p events)) (come p)
  came_all events c p = came_of p events (before p) (now p) (told p) (c p)

  went_all : (events : List Event) → CarriesAll events before now → (p : ℕ) → IsPrefixOf (went p) (frames (sent_to p events))
  went_all events c p = front_same _ _ (went_of p events (before p) (now p) (told p) (c p))

  whole : (steps : ℕ) (events : List Event) (m : State) (result : Result Done EngineFault) → Reaches steps events m → CarriesAll events before now → Writes events ob on
      → EndsSo come lists events m ob on result → Ran lists start come went ob on result
  whole steps events m result r c w e = record {
    made = record {
      steps = steps;
      events = events;
      state = m;
      reached = r;
      came = came_all events c;
      sent = went_all events c;
    };
    written = λ t. (lines (printed events), front_same _ _ refl, w.taken t);
    was_told = w.was_told;
    ends = e;
  }

  -- one link broke: of the others all is known
  broken_came : (host : ℕ) (events : List Event) (x y : Option SessionView) → IfSome y (λ session. IsTrue session.link.told) → At (Breaks host events) x y
      → IsPrefixOf (frames (received_from host events)) (bytes_to_come x)
  broken_came host events (Some x) (Some y) t b = (b.rest, sym (b.came t))
  broken_came host events None y t b = absurd b
  broken_came host events (Some x) None t b = absurd b

  others_came : (host : ℕ) (events : List Event) → CarriesOthers host events before now → IsPrefixOf (frames (received_from host events)) (come host) → (p : ℕ)
      → IsPrefixOf (frames (received_from p events)) (come p)
  others_came host events c here p =
      elim (same_or_not p host) [
        | inl same ↦ subst (λ (q : ℕ). IsPrefixOf (frames (received_from q events)) (come q)) (sym same) here
        | inr other ↦ came_of p events (before p) (now p) (told p) (c p other)
      ]

  others_went : (host : ℕ) (events more : List Event) → CarriesOthers host events before now → IsPrefixOf (went host) (frames (sent_to host (events ++ more))) → (p : ℕ)
      → IsPrefixOf (went p) (frames (sent_to p (events ++ more)))
  others_went host events more c here p =
      elim (same_or_not p host) [
        | inl same ↦ subst (λ (q : ℕ). IsPrefixOf (went q) (frames (sent_to q (events ++ more)))) (sym same) here
        | inr other ↦ front_trans _ _ _ (front_same _ _ (went_of p events (before p) (now p) (told p) (c p other))) (more_sent p events more)
      ]

  breaks_of : (host : ℕ) (events : List Event) (w : Want) (d : Deed) (x y : Option SessionView) → At (FailsAt host events w d) x y → At (Breaks host events) x y
  breaks_of host events w d (Some x) (Some y) f = f.breaks
  breaks_of host events w d None y f = absurd f
  breaks_of host events w d (Some x) None f = absurd f

  -- the link broke as a packet was to come
  stopped : (host : ℕ) (steps : ℕ) (events : List Event) (m : State) (result : Result Done EngineFault) → Reaches steps events m → CarriesOthers host events before now → Writes events ob on
      → At (Breaks host events) (before host) (now host) → went host ≡ frames (sent_to host events) → EndsSo come lists events m ob on result → Ran lists start come went ob on result
  stopped host steps events m result r c w b here e = record {
    made = record {
      steps = steps;
      events = events;
      state = m;
      reached = r;
      came = others_came host events c (broken_came host events (before host) (now host) (told host) b);
      sent = λ p. subst (λ (l : List Event). IsPrefixOf (went p) (frames (sent_to p l))) (append-nil events)
          (others_went host events [] c (front_trans _ _ _ (front_same _ _ here) (more_sent host events [])) p);
    };
    written = λ t. (lines (printed events), front_same _ _ refl, w.taken t);
    was_told = w.was_told;
    ends = e;
  }

  -- or as one was sent
  cut : (host : ℕ) (steps : ℕ) (events : List Event) (m : State) (cause : EngineFault) → Reaches steps events m → CarriesOthers host events before now → Writes events ob on
      → At (Breaks host events) (before host) (now host) → (words : List ℕ) (front : ℕ) → wants_with lists m ≡ want.Nothing → SaysTo (seen_at m) host words
      → went host ≡ frames (sent_to host events) ++ take front (frame words) → EndsSo come lists (events ++ shown (seen_at m)) (next_with lists m []) ob on (Err cause)
      → Ran lists start come went ob on (Err cause)
  cut host steps events m cause r c w b words front none says here e =
      let more = shown (seen_at m) in
      record {
        made = record {
          steps = steps + 1;
          events = events ++ more;
          state = next_with lists m [];
          reached = one_step lists start m steps events none r;
          came = λ p. subst (λ l. IsPrefixOf (frames l) (come p)) (sym (still_received p events (seen_at m)))
              (others_came host events c (broken_came host events (before host) (now host) (told host) b) p);
          sent = others_went host events more c (front_trans _ _ _ (front_same _ _ here) (part_sent host events (seen_at m) words front says));
        };
        written = λ t. (lines (printed events), more_printed events more, w.taken t);
        was_told = w.was_told;
        ends = e;
      }

  went_so : (host : ℕ) (events : List Event) (w : Want) (d : Deed) (x y : Option SessionView) → IfSome y (λ session. IsTrue session.link.told) → At (FailsAt host events w d) x y
      → (bytes_sent x y ≡ frames (sent_to host events))
      ⊎ ((words : List ℕ) × (front : ℕ) × (w ≡ want.Nothing) × SaysTo d host words × (bytes_sent x y ≡ frames (sent_to host events) ++ take front (frame words)))
  went_so host events w d (Some x) (Some y) t f =
      let is : bytes_sent (Some x) (Some y) ≡ frames (sent_to host events) ++ f.breaks.more = added x.link.sent (frames (sent_to host events) ++ f.breaks.more) y.link.sent (f.breaks.went t) in
      elim f.next [
        | inl nothing ↦ inl (is ∙ ap (λ l. frames (sent_to host events) ++ l) nothing.2 ∙ append-nil (frames (sent_to host events)))
        | inr some ↦ inr (some.0, some.1, some.2, some.3, is ∙ ap (λ l. frames (sent_to host events) ++ l) some.4)
      ]
  went_so host events w d None y t f = absurd f
  went_so host events w d (Some x) None t f = absurd f

  failed : (host : ℕ) (steps : ℕ) (events : List Event) (m : State) (cause : EngineFault) → ((e : List Event) (s : State) → EndsSo come lists e s ob on (Err cause)) → Reaches steps events m
      → CarriesOthers host events before now → Writes events ob on → At (FailsAt host events (wants_with lists m) (seen_at m)) (before host) (now host) → Ran lists start come went ob on (Err cause)
  failed host steps events m cause any r c w f =
      let b = breaks_of host events (wants_with lists m) (seen_at m) (before host) (now host) f in
      elim (went_so host events (wants_with lists m) (seen_at m) (before host) (now host) (told host) f) [
        | inl here ↦ stopped host steps events m (Err cause) r c w b here (any events m)
        | inr so ↦ cut host steps events m cause r c w b so.0 so.1 so.2 so.3 so.4 (any (events ++ shown (seen_at m)) (next_with lists m []))
      ]

  -- no packet came
  none_breaks : (host : ℕ) (events : List Event) (w : Want) (offset byte : ℕ) (x y : Option SessionView) → At (NoPacket host events w offset byte) x y → At (Breaks host events) x y
  none_breaks host events w offset byte (Some x) (Some y) f = f.breaks
  none_breaks host events w offset byte None y f = absurd f
  none_breaks host events w offset byte (Some x) None f = absurd f

  none_went : (host : ℕ) (events : List Event) (w : Want) (offset byte : ℕ) (x y : Option SessionView) → IfSome y (λ session. IsTrue session.link.told) → At (NoPacket host events w offset byte) x y
      → bytes_sent x y ≡ frames (sent_to host events)
  none_went host events w offset byte (Some x) (Some y) t f =
      added x.link.sent (frames (sent_to host events) ++ f.breaks.more) y.link.sent (f.breaks.went t) ∙ ap (λ l. frames (sent_to host events) ++ l) f.nothing_more ∙ append-nil (frames (sent_to host events))
  none_went host events w offset byte None y t f = absurd f
  none_went host events w offset byte (Some x) None t f = absurd f

  none_ends : (host : ℕ) (events : List Event) (m : State) (offset byte : ℕ) (x y : Option SessionView) → IfSome y (λ session. IsTrue session.link.told) → At (NoPacket host events (wants_with lists m) offset byte) x y
      → (count : ℕ) × (need m ≡ Packet host count) × (rest : List ℕ) × (bytes_to_come x ≡ frames (received_from host events) ++ rest)
      × (at : ℕ) × IsBadByte 0x56 count at (offset_after at 1) offset byte rest
  none_ends host events m offset byte (Some x) (Some y) t f =
      (f.count, takes_need lists m.cursors (need m) host f.count f.next, f.breaks.rest, f.breaks.came t, offset_behind host events x, f.wrong t)
  none_ends host events m offset byte None y t f = absurd f
  none_ends host events m offset byte (Some x) None t f = absurd f

  end_breaks : (host : ℕ) (events : List Event) (w : Want) (x y : Option SessionView) → At (EndsAt host events w) x y → At (Breaks host events) x y
  end_breaks host events w (Some x) (Some y) f = f.breaks
  end_breaks host events w None y f = absurd f
  end_breaks host events w (Some x) None f = absurd f

  end_went : (host : ℕ) (events : List Event) (w : Want) (x y : Option SessionView) → IfSome y (λ session. IsTrue session.link.told) → At (EndsAt host events w) x y → bytes_sent x y ≡ frames (sent_to host events)
  end_went host events w (Some x) (Some y) t f =
      added x.link.sent (frames (sent_to host events) ++ f.breaks.more) y.link.sent (f.breaks.went t) ∙ ap (λ l. frames (sent_to host events) ++ l) f.nothing_more ∙ append-nil (frames (sent_to host events))
  end_went host events w None y t f = absurd f
  end_went host events w (Some x) None t f = absurd f

  ran : (steps : ℕ) (events : List Event) (m : State) (result : Result Done EngineFault) → Reaches steps events m → IsDriven events (wants_with lists m) (seen_at m) before now ob on result
      → Ran lists start come went ob on result
  ran steps events m (Ok done) r d = whole steps events m (Ok done) r d.2 d.3 (ended_pending lists m d.0, d.3.taken)
  ran steps events m (Err (fault.Peer host)) r d = failed host.0 steps events m (fault.Peer host) (λ e s. tt) r d.1 d.2 d.0
  ran steps events m (Err fault.Write) r d =
      let word = d.0 in
      let more = shown (seen_at m) in
      let w = d.4 in
      record {
        made = record {
          steps = steps + 1;
          events = events ++ more;
          state = next_with lists m [];
          reached = one_step lists start m steps events d.1 r;
          came = λ p. subst (λ l. IsPrefixOf (frames l) (come p)) (sym (still_received p events (seen_at m))) (came_all events d.3 p);
          sent = λ p. front_trans _ _ _ (went_all events d.3 p) (more_sent p events more);
        };
        written = λ t. (lines (printed events) ++ take w.front (lines (word ∷ [])), part_printed events (seen_at m) word w.front d.2, w.taken t);
        was_told = w.was_told;
        ends = tt;
      }
  ran steps events m (Err (fault.BadFrame host offset byte)) r d =
      stopped host.0 steps events m (Err (fault.BadFrame host offset byte)) r d.1 d.2 (none_breaks host.0 events _ offset byte (before host.0) (now host.0) d.0)
      (none_went host.0 events _ offset byte (before host.0) (now host.0) (told host.0) d.0) (none_ends host.0 events m offset byte (before host.0) (now host.0) (told host.0) d.0)
  ran steps events m (Err (fault.Unequal left right)) r d = whole steps events m (Err (fault.Unequal left right)) r d.1 d.2 (unequal_need lists m.cursors (need m) left right d.0)
  ran steps events m (Err (fault.ShortInput cursor length)) r d = whole steps events m (Err (fault.ShortInput cursor length)) r d.1 d.2 tt
  ran steps events m (Err (fault.ShortDeal kind cursor length)) r d = whole steps events m (Err (fault.ShortDeal kind cursor length)) r d.1 d.2 tt
  ran steps events m (Err (fault.EndOfLink host)) r d =
      stopped host.0 steps events m (Err (fault.EndOfLink host)) r d.1 d.2 (end_breaks host.0 events _ (before host.0) (now host.0) d.0)
      (end_went host.0 events _ (before host.0) (now host.0) (told host.0) d.0) tt

pub driven_ran : (lists : Lists) (start : State) (before now : Sessions) (ob on : SinkView) (result : Result Done EngineFault) → AreTold now
    → Drives (wants_with lists) (next_with lists) seen_at start before now ob on result
    → Ran lists start (λ p. bytes_to_come (before p)) (λ p. bytes_sent (before p) (now p)) ob on result
driven_ran lists start before now ob on result told d = ran lists start before now ob on told d.steps d.events d.machine result d.reached d.driven

-- ---- sessions stand or do not, and what was sent grows

abbrev pub BothStand : Option SessionView → Option SessionView → Type 0
BothStand None None = Unit {0}
BothStand (Some before) (Some now) = Unit {0}
BothStand before now = ⊥

abbrev pub Grown : Option SessionView → Option SessionView → Type 0
Grown (Some before) (Some now) = (more : List ℕ) × (now.link.sent ≡ before.link.sent ++ more)
Grown before now = Unit {0}

carried_stand : (p : ℕ) (events : List Event) (x y : Option SessionView) → CarriesAt p events x y → BothStand x y
carried_stand p events None None c = tt
carried_stand p events (Some x) (Some y) c = tt
carried_stand p events None (Some y) c = absurd c
carried_stand p events (Some x) None c = absurd c

carried_grown : (p : ℕ) (events : List Event) (x y : Option SessionView) → IfSome y (λ session. IsTrue session.link.told) → CarriesAt p events x y → Grown x y
carried_grown p events None None t c = tt
carried_grown p events (Some x) (Some y) t c = (frames (sent_to p events), c.went t)
carried_grown p events None (Some y) t c = tt
carried_grown p events (Some x) None t c = tt

at_stand : (holds : SessionView → SessionView → Type 0) (x y : Option SessionView) → At holds x y → BothStand x y
at_stand holds (Some x) (Some y) c = tt
at_stand holds None y c = absurd c
at_stand holds (Some x) None c = absurd c

broken_grown : (p : ℕ) (events : List Event) (x y : Option SessionView) → IfSome y (λ session. IsTrue session.link.told) → At (Breaks p events) x y → Grown x y
broken_grown p events (Some x) (Some y) t b = (frames (sent_to p events) ++ b.more, b.went t)
broken_grown p events None y t b = absurd b
broken_grown p events (Some x) None t b = absurd b

module _ (events : List Event) (w : Want) (d : Deed) (before now : Sessions) where
  others_stand : (host : ℕ) → CarriesOthers host events before now → BothStand (before host) (now host) → (p : ℕ) → BothStand (before p) (now p)
  others_stand host c here p =
      elim (same_or_not p host) [
        | inl same ↦ subst (λ (q : ℕ). BothStand (before q) (now q)) (sym same) here
        | inr other ↦ carried_stand p events (before p) (now p) (c p other)
      ]

  pub stand : (ob on : SinkView) (result : Result Done EngineFault) → IsDriven events w d before now ob on result → (p : ℕ) → BothStand (before p) (now p)
  stand ob on (Ok done) r p = carried_stand p events (before p) (now p) (r.2 p)
  stand ob on (Err (fault.Peer host)) r p = others_stand host.0 r.1 (at_stand _ (before host.0) (now host.0) r.0) p
  stand ob on (Err fault.Write) r p = carried_stand p events (before p) (now p) (r.3 p)
  stand ob on (Err (fault.BadFrame host offset byte)) r p = others_stand host.0 r.1 (at_stand _ (before host.0) (now host.0) r.0) p
  stand ob on (Err (fault.Unequal left right)) r p = carried_stand p events (before p) (now p) (r.1 p)
  stand ob on (Err (fault.ShortInput cursor length)) r p = carried_stand p events (before p) (now p) (r.1 p)
  stand ob on (Err (fault.ShortDeal kind cursor length)) r p = carried_stand p events (before p) (now p) (r.1 p)
  stand ob on (Err (fault.EndOfLink host)) r p = others_stand host.0 r.1 (at_stand _ (before host.0) (now host.0) r.0) p

  module _ (told : AreTold now) where
    others_grown : (host : ℕ) → CarriesOthers host events before now → Grown (before host) (now host) → (p : ℕ) → Grown (before p) (now p)
    others_grown host c here p =
        elim (same_or_not p host) [
          | inl same ↦ subst (λ (q : ℕ). Grown (before q) (now q)) (sym same) here
          | inr other ↦ carried_grown p events (before p) (now p) (told p) (c p other)
        ]

    failed_breaks : (host : ℕ) (x y : Option SessionView) → At (FailsAt host events w d) x y → At (Breaks host events) x y
    failed_breaks host (Some x) (Some y) f = f.breaks
    failed_breaks host None y f = absurd f
    failed_breaks host (Some x) None f = absurd f

    packet_breaks : (host offset byte : ℕ) (x y : Option SessionView) → At (NoPacket host events w offset byte) x y → At (Breaks host events) x y
    packet_breaks host offset byte (Some x) (Some y) f = f.breaks
    packet_breaks host offset byte None y f = absurd f
    packet_breaks host offset byte (Some x) None f = absurd f

    over_breaks : (host : ℕ) (x y : Option SessionView) → At (EndsAt host events w) x y → At (Breaks host events) x y
    over_breaks host (Some x) (Some y) f = f.breaks
    over_breaks host None y f = absurd f
    over_breaks host (Some x) None f = absurd f

    all_grown : CarriesAll events before now → (p : ℕ) → Grown (before p) (now p)
    all_grown c p = carried_grown p events (before p) (now p) (told p) (c p)

    at_host : (host : ℕ) → At (Breaks host events) (before host) (now host) → Grown (before host) (now host)
    at_host host b = broken_grown host events (before host) (now host) (told host) b

    pub grown : (ob on : SinkView) (result : Result Done EngineFault) → IsDriven events w d before now ob on result → (p : ℕ) → Grown (before p) (now p)
    grown ob on (Ok done) r = all_grown r.2
    grown ob on (Err (fault.Peer host)) r = others_grown host.0 r.1 (at_host host.0 (failed_breaks host.0 (before host.0) (now host.0) r.0))
    grown ob on (Err fault.Write) r = all_grown r.3
    grown ob on (Err (fault.BadFrame host offset byte)) r = others_grown host.0 r.1 (at_host host.0 (packet_breaks host.0 offset byte (before host.0) (now host.0) r.0))
    grown ob on (Err (fault.Unequal left right)) r = all_grown r.1
    grown ob on (Err (fault.ShortInput cursor length)) r = all_grown r.1
    grown ob on (Err (fault.ShortDeal kind cursor length)) r = all_grown r.1
    grown ob on (Err (fault.EndOfLink host)) r = others_grown host.0 r.1 (at_host host.0 (over_breaks host.0 (before host.0) (now host.0) r.0))

-- a link that tells its bytes afterwards told them before
abbrev pub WasTold : Option SessionView → Option SessionView → Type 0
WasTold (Some before) (Some now) = IsTrue now.link.told → IsTrue before.link.told
WasTold before now = Unit {0}

carried_told : (p : ℕ) (events : List Event) (x y : Option SessionView) → CarriesAt p events x y → WasTold x y
carried_told p events None None c = tt
carried_told p events (Some x) (Some y) c = c.was_told
carried_told p events None (Some y) c = tt
carried_told p events (Some x) None c = tt

module _ (events : List Event) (w : Want) (d : Deed) (before now : Sessions) where
  others_told : (host : ℕ) → CarriesOthers host events before now → WasTold (before host) (now host) → (p : ℕ) → WasTold (before p) (now p)
  others_told host c here p =
      elim (same_or_not p host) [
        | inl same ↦ subst (λ (q : ℕ). WasTold (before q) (now q)) (sym same) here
        | inr other ↦ carried_told p events (before p) (now p) (c p other)
      ]

  peer_told : (host : ℕ) (x y : Option SessionView) → At (FailsAt host events w d) x y → WasTold x y
  peer_told host (Some x) (Some y) f = f.breaks.was_told
  peer_told host None y f = absurd f
  peer_told host (Some x) None f = absurd f

  packet_told : (host offset byte : ℕ) (x y : Option SessionView) → At (NoPacket host events w offset byte) x y → WasTold x y
  packet_told host offset byte (Some x) (Some y) f = f.breaks.was_told
  packet_told host offset byte None y f = absurd f
  packet_told host offset byte (Some x) None f = absurd f

  over_told : (host : ℕ) (x y : Option SessionView) → At (EndsAt host events w) x y → WasTold x y
  over_told host (Some x) (Some y) f = f.breaks.was_told
  over_told host None y f = absurd f
  over_told host (Some x) None f = absurd f

  pub was_told : (ob on : SinkView) (result : Result Done EngineFault) → IsDriven events w d before now ob on result → (p : ℕ) → WasTold (before p) (now p)
  was_told ob on (Ok done) r p = carried_told p events (before p) (now p) (r.2 p)
  was_told ob on (Err (fault.Peer host)) r p = others_told host.0 r.1 (peer_told host.0 (before host.0) (now host.0) r.0) p
  was_told ob on (Err fault.Write) r p = carried_told p events (before p) (now p) (r.3 p)
  was_told ob on (Err (fault.BadFrame host offset byte)) r p = others_told host.0 r.1 (packet_told host.0 offset byte (before host.0) (now host.0) r.0) p
  was_told ob on (Err (fault.Unequal left right)) r p = carried_told p events (before p) (now p) (r.1 p)
  was_told ob on (Err (fault.ShortInput cursor length)) r p = carried_told p events (before p) (now p) (r.1 p)
  was_told ob on (Err (fault.ShortDeal kind cursor length)) r p = carried_told p events (before p) (now p) (r.1 p)
  was_told ob on (Err (fault.EndOfLink host)) r p = others_told host.0 r.1 (over_told host.0 (before host.0) (now host.0) r.0) p
