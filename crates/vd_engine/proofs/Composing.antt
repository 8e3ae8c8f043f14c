-- Steps after steps.
use Rattle.std.proofs.Common.{arith, ◌≡◌, ◌+◌, ℕ, List, [], ◌∷◌, ◌++◌, length, take, Option, Some, None, Err, refl, sym, ap, subst, ◌∙◌, append_assoc, length-append}
use Rattle.std.proofs.lemmas.List.{append-nil}
use Rattle.std.proofs.lemmas.Grind.{flat_map-append}
use Rattle.std.specs.List.{flat_map}
use Rattle.std.specs.Prelude.{decimal, codes}
use Rattle.vd_outside.specs.Sink.{SinkView}
use Rattle.vd_link.specs.Frames.{frame, frames}
use Rattle.vd_link.specs.Sessions.{IsLinkFault, offset_after}
use Rattle.vd_link.specs.declared.faults.LinkFault.TheVariants as link_fault
use Rattle.vd_engine.specs.Events.{Event, packet_from, packet_to, word_of, received_from, sent_to, printed}
use Rattle.vd_engine.specs.Drives.{SessionView, Sessions, Carries, CarriesAt, CarriesAll, CarriesOthers, Breaks, FailsAt, NoPacket, EndsAt, At, Writes, WritesPart, IsDriven, lines}
use Rattle.vd_machine.specs.declared.want.Want.{Want}
use Rattle.vd_execution.specs.Step.{Deed}
use Rattle.vd_engine.specs.declared.fault.EngineFault.{EngineFault}
use Rattle.vd_engine.specs.declared.fault.EngineFault.TheVariants as fault

received_both : (host : ℕ) (first second : List Event) → frames (received_from host (first ++ second)) ≡ frames (received_from host first) ++ frames (received_from host second)
received_both host first second = ap frames (flat_map-append (packet_from host) first second) ∙ flat_map-append frame (received_from host first) (received_from host second)

sent_both : (host : ℕ) (first second : List Event) → frames (sent_to host (first ++ second)) ≡ frames (sent_to host first) ++ frames (sent_to host second)
sent_both host first second = ap frames (flat_map-append (packet_to host) first second) ∙ flat_map-append frame (sent_to host first) (sent_to host second)

printed_both : (first second : List Event) → lines (printed (first ++ second)) ≡ lines (printed first) ++ lines (printed second)
printed_both first second = ap lines (flat_map-append word_of first second) ∙ flat_map-append (λ word. decimal word ++ codes "\n") (printed first) (printed second)

offsets : (start a b mid end : ℕ) → mid ≡ offset_after start a → end ≡ offset_after mid b → end ≡ offset_after start (a + b)
offsets start a b mid end is_mid is_end = omega (arith, is_mid, is_end)

carries_both : (host : ℕ) (first second : List Event) (before mid now : SessionView) → Carries host first before mid → Carries host second mid now → Carries host (first ++ second) before now
carries_both host first second before mid now a b = record {
  later = let x = a.later in let y = b.later in omega arith;
  was_told = λ told. a.was_told (b.was_told told);
  came = λ told. a.came (b.was_told told)
      ∙ ap (λ (l : List ℕ). frames (received_from host first) ++ l) (b.came told)
      ∙ sym (append_assoc (frames (received_from host first)) (frames (received_from host second)) now.link.coming)
      ∙ ap (λ (l : List ℕ). l ++ now.link.coming) (sym (received_both host first second));
  went = λ told. b.went told
      ∙ ap (λ (l : List ℕ). l ++ frames (sent_to host second)) (a.went (b.was_told told))
      ∙ append_assoc before.link.sent (frames (sent_to host first)) (frames (sent_to host second))
      ∙ ap (λ (l : List ℕ). before.link.sent ++ l) (sym (sent_both host first second));
  offset = offsets before.received (length (frames (received_from host first))) (length (frames (received_from host second))) mid.received now.received a.offset b.offset
      ∙ ap (λ (n : ℕ). offset_after before.received n) (sym (ap length (received_both host first second) ∙ length-append (frames (received_from host first)) (frames (received_from host second))));
  sound = b.sound;
}

nothing_both : {A B : Type 0} (f : A → List B) (first second : List A) → flat_map f first ≡ [] → flat_map f second ≡ [] → flat_map f (first ++ second) ≡ []
nothing_both f first second a b = flat_map-append f first second ∙ rw (a, b) refl

carries_at_both : (host : ℕ) (first second : List Event) (before mid now : Option SessionView) → CarriesAt host first before mid → CarriesAt host second mid now → CarriesAt host (first ++ second) before now
carries_at_both host first second None None None a b = (nothing_both (packet_from host) first second a.0 b.0, nothing_both (packet_to host) first second a.1 b.1)
carries_at_both host first second None None (Some now) a b = absurd b
carries_at_both host first second None (Some mid) now a b = absurd a
carries_at_both host first second (Some before) None now a b = absurd a
carries_at_both host first second (Some before) (Some mid) None a b = absurd b
carries_at_both host first second (Some before) (Some mid) (Some now) a b = carries_both host first second before mid now a b

-- what was kept by these events and then by those
pub carries_all_both : (first second : List Event) (before mid now : Sessions) → CarriesAll first before mid → CarriesAll second mid now → CarriesAll (first ++ second) before now
carries_all_both first second before mid now a b = λ host. carries_at_both host first second (before host) (mid host) (now host) (a host) (b host)

carries_others_after : (failing : ℕ) (events : List Event) (before mid now : Sessions) → CarriesAll events before mid → CarriesOthers failing [] mid now → CarriesOthers failing events before now
carries_others_after failing events before mid now a b = λ host differs.
    subst (λ (e : List Event). CarriesAt host e (before host) (now host)) (append-nil events) (carries_at_both host events [] (before host) (mid host) (now host) (a host) (b host differs))

carries_all_after : (events : List Event) (before mid now : Sessions) → CarriesAll events before mid → CarriesAll [] mid now → CarriesAll events before now
carries_all_after events before mid now a b = λ host.
    subst (λ (e : List Event). CarriesAt host e (before host) (now host)) (append-nil events) (carries_at_both host events [] (before host) (mid host) (now host) (a host) (b host))

pub writes_both : (first second : List Event) (before mid now : SinkView) → Writes first before mid → Writes second mid now → Writes (first ++ second) before now
writes_both first second before mid now a b = record {
  later = let x = a.later in let y = b.later in omega arith;
  was_told = λ told. a.was_told (b.was_told told);
  taken = λ told. b.taken told
      ∙ ap (λ (l : List ℕ). l ++ lines (printed second)) (a.taken (b.was_told told))
      ∙ append_assoc before.taken (lines (printed first)) (lines (printed second))
      ∙ ap (λ (l : List ℕ). before.taken ++ l) (sym (printed_both first second));
}

writes_after : (events : List Event) (before mid now : SinkView) → Writes events before mid → Writes [] mid now → Writes events before now
writes_after events before mid now a b = subst (λ (e : List Event). Writes e before now) (append-nil events) (writes_both events [] before mid now a b)

writes_part_after : (events : List Event) (word : ℕ) (before mid now : SinkView) → Writes events before mid → WritesPart [] word mid now → WritesPart events word before now
writes_part_after events word before mid now a b = record {
  rose = let x = a.later in let y = b.rose in omega arith;
  was_told = λ told. a.was_told (b.was_told told);
  front = b.front;
  taken = λ told. b.taken told
      ∙ ap (λ (l : List ℕ). l ++ take b.front (lines (word ∷ []))) (a.taken (b.was_told told))
      ∙ append_assoc before.taken (lines (printed events)) (take b.front (lines (word ∷ [])));
}

breaks_after : (host : ℕ) (events : List Event) (before mid now : SessionView) → Carries host events before mid → Breaks host [] mid now → Breaks host events before now
breaks_after host events before mid now a b = record {
  later = let x = a.later in let y = b.later in omega arith;
  was_told = λ told. a.was_told (b.was_told told);
  rest = b.rest;
  came = λ told. a.came (b.was_told told) ∙ ap (λ (l : List ℕ). frames (received_from host events) ++ l) (b.came told);
  failed = b.failed;
  more = b.more;
  went = λ told. b.went told ∙ ap (λ (l : List ℕ). l ++ b.more) (a.went (b.was_told told)) ∙ append_assoc before.link.sent (frames (sent_to host events)) b.more;
}

fails_after : (host : ℕ) (events : List Event) (wants : Want) (does : Deed) (before mid now : SessionView) → Carries host events before mid → FailsAt host [] wants does mid now → FailsAt host events wants does before now
unfolding breaks_after
fails_after host events wants does before mid now a b = record {
  breaks = breaks_after host events before mid now a b.breaks;
  rose = let x = a.later in let y = b.rose in omega arith;
  next = b.next;
}

no_packet_after : (host : ℕ) (events : List Event) (wants : Want) (offset byte : ℕ) (before mid now : SessionView) → Carries host events before mid → NoPacket host [] wants offset byte mid now → NoPacket host events wants offset byte before now
unfolding breaks_after
no_packet_after host events wants offset byte before mid now a b = record {
  breaks = breaks_after host events before mid now a b.breaks;
  count = b.count;
  next = b.next;
  nothing_more = b.nothing_more;
  wrong = λ told. subst (λ (n : ℕ). IsLinkFault b.count n b.breaks.rest (link_fault.BadFrame offset byte)) same (b.wrong told);
}
  where
    same : offset_after mid.received 0 ≡ offset_after before.received (length (frames (received_from host events)))
    same = let is = a.offset in omega (arith, is)

ends_after : (host : ℕ) (events : List Event) (wants : Want) (before mid now : SessionView) → Carries host events before mid → EndsAt host [] wants mid now → EndsAt host events wants before now
unfolding breaks_after
ends_after host events wants before mid now a b = record {
  breaks = breaks_after host events before mid now a b.breaks;
  count = b.count;
  next = b.next;
  nothing_more = b.nothing_more;
  told_end = b.told_end;
  short = b.short;
}

at_after : (host : ℕ) (events : List Event) (holds later : SessionView → SessionView → Type 0) (before mid now : Option SessionView) → ((x y z : SessionView) → Carries host events x y → holds y z → later x z) → CarriesAt host events before mid → At holds mid now → At later before now
at_after host events holds later (Some before) (Some mid) (Some now) step a b = step before mid now a b
at_after host events holds later (Some before) (Some mid) None step a b = absurd b
at_after host events holds later (Some before) None now step a b = absurd a
at_after host events holds later None (Some mid) now step a b = absurd a
at_after host events holds later None None now step a b = absurd b

-- a fault after these events
pub driven_after : (events : List Event) (wants : Want) (does : Deed) (before mid now : Sessions) (out_before out_mid out_now : SinkView) (cause : EngineFault)
    → CarriesAll events before mid → Writes events out_before out_mid → IsDriven [] wants does mid now out_mid out_now (Err cause) → IsDriven events wants does before now out_before out_now (Err cause)
driven_after events wants does before mid now ob om on (fault.Peer host) a w d = (
  at_after host.0 events (FailsAt host.0 [] wants does) (FailsAt host.0 events wants does) (before host.0) (mid host.0) (now host.0) (λ x y z. fails_after host.0 events wants does x y z) (a host.0) d.0,
  carries_others_after host.0 events before mid now a d.1,
  writes_after events ob om on w d.2,
)
driven_after events wants does before mid now ob om on fault.Write a w d =
    (d.0, d.1, d.2, carries_all_after events before mid now a d.3, writes_part_after events d.0 ob om on w d.4)
driven_after events wants does before mid now ob om on (fault.BadFrame host offset byte) a w d = (
  at_after host.0 events (NoPacket host.0 [] wants offset byte) (NoPacket host.0 events wants offset byte) (before host.0) (mid host.0) (now host.0) (λ x y z. no_packet_after host.0 events wants offset byte x y z) (a host.0) d.0,
  carries_others_after host.0 events before mid now a d.1,
  writes_after events ob om on w d.2,
)
driven_after events wants does before mid now ob om on (fault.Unequal left right) a w d = (d.0, carries_all_after events before mid now a d.1, writes_after events ob om on w d.2)
driven_after events wants does before mid now ob om on (fault.ShortInput cursor length) a w d = (d.0, carries_all_after events before mid now a d.1, writes_after events ob om on w d.2)
driven_after events wants does before mid now ob om on (fault.ShortDeal kind cursor length) a w d = (d.0, carries_all_after events before mid now a d.1, writes_after events ob om on w d.2)
driven_after events wants does before mid now ob om on (fault.EndOfLink host) a w d = (
  at_after host.0 events (EndsAt host.0 [] wants) (EndsAt host.0 events wants) (before host.0) (mid host.0) (now host.0) (λ x y z. ends_after host.0 events wants x y z) (a host.0) d.0,
  carries_others_after host.0 events before mid now a d.1,
  writes_after events ob om on w d.2,
)
