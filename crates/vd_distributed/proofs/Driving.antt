-- Every world that steps lead to from the start is one of hosts that are driven, each by itself; so what they send are words.
use Rattle.std.proofs.Common.{◌≡◌, inl, inr, ℕ, zero, suc, ◌+◌, ◌<◌, nat_eq, if◌then◌else◌, Bool, List, [], ◌∷◌, ◌++◌, length, Option, Some, None, refl, sym, ap, ◌∙◌, subst, arith}
use Rattle.std.proofs.lemmas.Bool.{eq-eqb, lt-ltb, ne_eqb}
use Rattle.std.proofs.lemmas.List.{append-nil}
use Rattle.std.specs.Prelude.{slice_get}
use Rattle.vd_execution.specs.Registers.{put}
use Rattle.vd_execution.specs.Step.{Source, Inputs, OwnWords, Triples, BitTriples, Pairs, State, Cursors, Need, Nothing, Item, Packet, Unequal, Ended, Given, Deed, Quiet, Said, Heard, Printed as Shows, answer, need, next, deed}
use Rattle.vd_execution.specs.Schedule.{Steps}
use Rattle.vd_execution.specs.World.{Local, World, Supply, done, given, step, moved_on, or_zeros}
use Rattle.vd_execution.specs.Joint.{Joint, code_of, started}
use Rattle.vd_execution.proofs.Front.{same_or_not, put_same, put_other, AreItem}
use Rattle.vd_execution.proofs.Front.{steps_keep, stepped, done_state}
use Rattle.vd_machine.specs.declared.lists.Lists.{Lists}
use Rattle.vd_machine.specs.declared.want.Want.{Want}
use Rattle.vd_machine.specs.declared.want.Want.TheVariants as want
use Rattle.vd_machine.specs.Dids.{seen}
use Rattle.vd_machine.specs.Kept.{at_start}
use Rattle.vd_machine.specs.Machines.{item_or_none, items_of, or_empty, words_for}
use Rattle.vd_machine.specs.Wants.{count_of, short, want_of}
use Rattle.vd_base.specs.Words.{AreWords}
use Rattle.vd_link.specs.Laws.{ArePackets}
use Rattle.vd_engine.specs.Events.{Event, Reached, AtStart, OneMore, IsHeard, received_in, shown, packet_to, sent_to}
use Rattle.vd_engine.specs.Hosts.{wants_with, next_with, seen_at}
use Rattle.vd_distributed.specs.Linked.{AreOwnHosts}
use Rattle.vd_distributed.proofs.Fronts.{flat_both}
use Rattle.vd_distributed.proofs.Words.{AreItems, sound_from}
use Rattle.vd_distributed.proofs.Passing.{of_that_length}

-- ---- items that are there

place_below : {X : Type 0} (f : X → List ℕ) (xs : List X) (i : ℕ) (ys : List ℕ) → item_or_none f (slice_get xs i) ≡ Some ys → i < length xs
place_below f [] i ys e = absurd (cc e)
place_below f (x ∷ xs) zero ys e = omega arith
place_below f (x ∷ xs) (suc i) ys e = let below = place_below f xs i ys e in omega (arith, below)

item_below : (l : Lists) (source : Source) (i : ℕ) (ys : List ℕ) → items_of l source i ≡ Some ys → i < count_of l source
item_below l Inputs i ys e = place_below _ _ i ys e
item_below l OwnWords i ys e = place_below _ _ i ys e
item_below l (Triples p) i ys e = place_below _ _ i ys e
item_below l (BitTriples p) i ys e = place_below _ _ i ys e
item_below l (Pairs p) i ys e = place_below _ _ i ys e

-- an item that is there is no want
pub wants_nothing : (P : Want → Type 0) (l : Lists) (c : Cursors) (source : Source) (ys : List ℕ) → items_of l source (c source) ≡ Some ys → P want.Nothing → P (want_of l c (Item source))
wants_nothing P l c source ys e p =
    let below = lt-ltb (c source) (count_of l source) (item_below l source (c source) ys e) in
    subst (λ (b : Bool). P (if b then want.Nothing else short source (c source) (count_of l source))) (sym below) p

-- ---- what is heard

record Hears (l : Lists) (c : Cursors) (x : Need) (xs : List ℕ) : Type 0 where
  heard : List ℕ
  is : IsHeard (want_of l c x) heard
  gives : words_for l c heard x ≡ xs

hears : (l : Lists) (g : Given) (c : Cursors) (x : Need) (xs : List ℕ) → ((source : Source) (i : ℕ) → g.item source i ≡ items_of l source i) → ((p : ℕ) → g.front p ≡ Some xs → AreWords xs)
    → answer g c x ≡ Some xs → Hears l c x xs
hears l g c Nothing xs items words e = record { heard = []; is = refl; gives = cc }
hears l g c (Item source) xs items words e =
    let there : items_of l source (c source) ≡ Some xs = sym (items source (c source)) ∙ e in
    record { heard = []; is = wants_nothing (λ w. IsHeard w []) l c source xs there refl; gives = ap or_empty there }
hears l g c (Packet p n) xs items words e =
    let o = of_that_length n (g.front p) xs e in
    record { heard = xs; is = (o.1, words p o.0); gives = refl }
hears l g c (Unequal x y) xs items words e = absurd (cc e)
hears l g c Ended xs items words e = absurd (cc e)

-- ---- what is sent

nothing_sent : (w : Want) (heard : List ℕ) (p : ℕ) → sent_to p (received_in w heard) ≡ []
nothing_sent want.Nothing heard p = refl
nothing_sent (want.Words host count) heard p = refl
nothing_sent want.Ended heard p = refl
nothing_sent (want.ShortInput i n) heard p = refl
nothing_sent (want.ShortDeal kind i n) heard p = refl
nothing_sent (want.Unequal x y) heard p = refl

said_to : (sent : ℕ → List (List ℕ)) (q p : ℕ) (words : List ℕ) → put sent q (sent q ++ words ∷ []) p ≡ sent p ++ ((if nat_eq q p then words ∷ [] else []) ++ [])
said_to sent q p words =
    elim (same_or_not p q) [
      | inl same ↦
          ap (λ (i : ℕ). put sent q (sent q ++ words ∷ []) i) same ∙ put_same sent q (sent q ++ words ∷ []) ∙ ap (λ (i : ℕ). sent i ++ words ∷ []) (sym same)
          ∙ ap (λ (b : Bool). sent p ++ ((if b then words ∷ [] else []) ++ [])) (sym (eq-eqb q p (sym same)))
      | inr other ↦
          put_other sent q (sent q ++ words ∷ []) p other ∙ sym (append-nil (sent p))
          ∙ ap (λ (b : Bool). sent p ++ ((if b then words ∷ [] else []) ++ [])) (sym (ne_eqb q p (λ e. other (sym e))))
    ]

done_sends : (l : Local) (m : State) (d : Deed) (p : ℕ) → (done l m d).sent p ≡ l.sent p ++ sent_to p (shown (seen d))
done_sends l m Quiet p = sym (append-nil (l.sent p))
done_sends l m (Said q words) p = said_to l.sent q p words
done_sends l m (Heard q) p = sym (append-nil (l.sent p))
done_sends l m (Shows x) p = sym (append-nil (l.sent p))

packet_at : (packets : List (List ℕ)) (i : ℕ) (xs : List ℕ) → ArePackets packets → slice_get packets i ≡ Some xs → AreWords xs
packet_at [] i xs are e = absurd (cc e)
packet_at (x ∷ packets) zero xs are e = let same : x ≡ xs = cc e in subst AreWords same are.0
packet_at (x ∷ packets) (suc i) xs are e = packet_at packets i xs are.1 e

-- ---- hosts that were driven to where they stand

pub record Driven (lists : Lists) (start : State) (l : Local) : Type 0 where
  pub steps : ℕ
  pub events : List Event
  pub reached : Reached (wants_with lists) (next_with lists) seen_at start steps events l.state
  pub sends : (p : ℕ) → sent_to p events ≡ l.sent p

item_words : (source : Source) (o : Option (List ℕ)) → AreItem (or_zeros source o) → AreItem (or_empty o)
item_words source None all = λ place. omega arith
item_words source (Some xs) all = all

module _ (s : Supply) (j : Joint) (lists : ℕ → Lists) (hosts : AreOwnHosts s j) (supplied : (g : ℕ) (source : Source) (i : ℕ) → s g source i ≡ items_of (lists g) source i) where
  abbrev pub start : ℕ → State
  start h = at_start (code_of h j)

  abbrev pub AllDriven : World → Type 0
  AllDriven w = (h : ℕ) → Driven (lists h) (start h) (w h)

  pub items : (h : ℕ) → AreItems (lists h)
  items h source i = item_words source (items_of (lists h) source i) (subst (λ (o : Option (List ℕ)). AreItem (or_zeros source o)) (supplied h source i) (hosts.deal.words h source i))

  pub packets : (w : World) → AllDriven w → (p h : ℕ) → ArePackets ((w p).sent h)
  packets w all p h =
      let d = all p in
      subst ArePackets (d.sends h) ((sound_from (lists p) (items p) (start p) (λ r. omega arith) (hosts.numbers p) d.steps d.events (w p).state d.reached).sent h)

  one_driven : (w : World) (g : ℕ) (xs : List ℕ) → AllDriven w → answer (given s w g (w g)) (w g).state.cursors (need (w g).state) ≡ Some xs → Driven (lists g) (start g) (moved_on (w g) xs)
  one_driven w g xs all able =
      let l = w g in
      let d = all g in
      let h = hears (lists g) (given s w g l) l.state.cursors (need l.state) xs (supplied g) (λ p e. packet_at ((w p).sent g) (l.taken p) xs (packets w all p g) e) able in
      let wants = wants_with (lists g) l.state in
      let added = received_in wants h.heard ++ shown (seen_at l.state) in
      record {
        steps = d.steps + 1;
        events = d.events ++ added;
        reached = subst (Reached (wants_with (lists g)) (next_with (lists g)) seen_at (start g) (d.steps + 1) (d.events ++ added))
            (ap (next l.state) h.gives ∙ sym (done_state l (next l.state xs) (deed l.state))) (OneMore d.steps d.events l.state h.heard d.reached h.is);
        sends = λ p.
            flat_both (packet_to p) d.events added
            ∙ ap (λ (q : List (List ℕ)). q ++ sent_to p added) (d.sends p)
            ∙ ap (λ (q : List (List ℕ)). l.sent p ++ q) (flat_both (packet_to p) (received_in wants h.heard) (shown (seen_at l.state))
            ∙ ap (λ (q : List (List ℕ)). q ++ sent_to p (shown (seen_at l.state))) (nothing_sent wants h.heard p))
            ∙ sym (done_sends l (next l.state xs) (deed l.state) p);
      }

  driven_by : (g : ℕ) (w u : World) → step s g w ≡ Some u → AllDriven w → AllDriven u
  driven_by g w u e all h =
      let a = stepped s g w u e in
      elim (same_or_not h g) [
        | inl same ↦
            let there : u h ≡ moved_on (w h) a.words =
            ap (λ (x : World). x h) a.made ∙ ap (λ (q : ℕ). put w g (moved_on (w g) a.words) q) same ∙ put_same w g (moved_on (w g) a.words) ∙ ap (λ (q : ℕ). moved_on (w q) a.words) (sym same) in
            let able = subst (λ (q : ℕ). answer (given s w q (w q)) (w q).state.cursors (need (w q).state) ≡ Some a.words) (sym same) a.able in
            subst (Driven (lists h) (start h)) (sym there) (one_driven w h a.words all able)
        | inr other ↦ subst (Driven (lists h) (start h)) (sym (ap (λ (x : World). x h) a.made ∙ put_other w g (moved_on (w g) a.words) h other)) (all h)
      ]

  at_first : AllDriven (started j)
  at_first h = record { steps = 0; events = []; reached = AtStart; sends = λ p. refl }

  pub all_driven : (n : ℕ) (v : World) → Steps (step s) n (started j) v → AllDriven v
  all_driven n v t = steps_keep (step s) AllDriven driven_by n (started j) v t at_first
