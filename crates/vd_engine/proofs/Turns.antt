-- What one turn carries.
use Rattle.std.proofs.Common.{arith, ◌≡◌, ◌≢◌, ◌<◌, ◌+◌, ◌*◌, ◌^◌, inl, inr, ⊎_elim, ℕ, Bool, true, false, List, [], ◌∷◌, ◌++◌, length, take, Option, Some, None, Result, Ok, Err, IsTrue, IfSome, refl, sym, ap, subst, ◌∙◌, if◌then◌else◌, nat_eq}
use Rattle.std.proofs.lemmas.List.{append-nil}
use Rattle.std.proofs.lemmas.Bool.Decides.{eqb_tells}
use Rattle.std.specs.Prelude.{decimal, codes}
use Rattle.vd_base.specs.Packets.{packet_words}
use Rattle.vd_base.specs.declared.ids.HostId.{HostId}
use Rattle.vd_base.specs.declared.packet.Packet.{Packet}
use Rattle.vd_base.specs.declared.faults.Failed.{Failed}
use Rattle.vd_outside.specs.Sink.{SinkView, WritesAll}
use Rattle.vd_link.specs.Frames.{frame, frames}
use Rattle.vd_base.specs.Words.{AreWords}
use Rattle.vd_link.specs.Sessions.{IsLinkFault, Takes, offset_after}
use Rattle.vd_link.specs.declared.faults.LinkFault.{LinkFault}
use Rattle.vd_link.specs.declared.faults.LinkFault.TheVariants as link_fault
use Rattle.vd_link.proofs.Front.{length_words}
use Rattle.vd_engine.specs.Events.{IsHeard, received_in, shown, Event, Received, Sent, Printed, received_from, sent_to, printed}
use Rattle.vd_engine.specs.Drives.{SessionView, Sessions, CarriesAt, CarriesAll, CarriesOthers, Breaks, FailsAt, NoPacket, EndsAt, At, Writes, IsDriven, IsSound}
use Rattle.vd_engine.specs.Turning.{Goes, Hears, HearsOver, IsDone, IsTurn, Says, SaysOver, engine_fault}
use Rattle.vd_machine.specs.declared.want.Want.{Want}
use Rattle.vd_machine.specs.declared.want.Want.TheVariants as want
use Rattle.vd_execution.specs.Step.{Deed, Quiet, Said, Printed as Shows}
use Rattle.vd_engine.specs.declared.engine.Turn.{Turn}
use Rattle.vd_engine.specs.declared.engine.Turn.TheVariants as turn
use Rattle.vd_engine.specs.declared.fault.EngineFault.{EngineFault}
use Rattle.vd_engine.specs.declared.fault.EngineFault.TheVariants as fault

abbrev SoundSession : SessionView → Type 0
SoundSession session = (session.failed ≡ false) × (session.received < 2 ^ 64)

-- a host of whose packets these events say nothing
quiet_at : (host : ℕ) (events : List Event) (x : Option SessionView) → received_from host events ≡ [] → sent_to host events ≡ [] → IfSome x SoundSession → CarriesAt host events x x
quiet_at host events None none_taken none_said sound = (none_taken, none_said)
quiet_at host events (Some session) none_taken none_said sound = record {
  later = omega arith;
  was_told = λ told. told;
  came = λ told. sym (ap (λ (packets : List (List ℕ)). frames packets ++ session.link.coming) none_taken);
  went = λ told. sym (append-nil session.link.sent) ∙ ap (λ (packets : List (List ℕ)). session.link.sent ++ frames packets) (sym none_said);
  offset = (let below = sound.1 in let same : session.received ≡ offset_after session.received 0 = omega (arith, below) in same)
      ∙ ap (λ (packets : List (List ℕ)). offset_after session.received (length (frames packets))) (sym none_taken);
  sound = sound.0;
}

-- nothing happened
pub carries_none : (sessions : Sessions) → IsSound sessions → CarriesAll [] sessions sessions
carries_none sessions sound = λ host. quiet_at host [] (sessions host) refl refl (sound host)

-- a word was printed and no packet came or went
carries_printed : (word : ℕ) (sessions : Sessions) → IsSound sessions → CarriesAll (Printed word ∷ []) sessions sessions
carries_printed word sessions sound = λ host. quiet_at host (Printed word ∷ []) (sessions host) refl refl (sound host)

pub writes_none : (out : SinkView) → Writes [] out out
writes_none out = record { later = omega arith; was_told = λ told. told; taken = λ told. sym (append-nil out.taken) }

-- packets alone were taken or put out
writes_received : (host : ℕ) (words : List ℕ) (out : SinkView) → Writes (Received host words ∷ []) out out
writes_received host words out = record { later = omega arith; was_told = λ told. told; taken = λ told. sym (append-nil out.taken) }

writes_sent : (host : ℕ) (words : List ℕ) (out : SinkView) → Writes (Sent host words ∷ []) out out
writes_sent host words out = record { later = omega arith; was_told = λ told. told; taken = λ told. sym (append-nil out.taken) }

sound_of : (host : ℕ) (events : List Event) (before now : Option SessionView) → CarriesAt host events before now → IfSome now SoundSession
sound_of host events None None carries = tt
sound_of host events None (Some now) carries = absurd carries
sound_of host events (Some before) None carries = tt
sound_of host events (Some before) (Some now) carries = (carries.sound, let is = carries.offset in omega (arith, is))

-- sessions that were kept are sound
pub sound_after : (events : List Event) (before now : Sessions) → CarriesAll events before now → IsSound now
sound_after events before now carries = λ host. sound_of host events (before host) (now host) (carries host)

one_packet : (packet : List ℕ) → frames (packet ∷ []) ≡ frame packet
one_packet packet = append-nil (frame packet)

chosen : {A : Type 0} (test : Bool) (packet : List A) → test ≡ true → (if test then packet ∷ [] else []) ++ [] ≡ packet ∷ []
chosen test packet is = ap (λ (b : Bool). (if b then packet ∷ [] else []) ++ []) is

not_chosen : {A : Type 0} (test : Bool) (packet : List A) → test ≡ false → (if test then packet ∷ [] else []) ++ [] ≡ []
not_chosen test packet is = ap (λ (b : Bool). (if b then packet ∷ [] else []) ++ []) is

-- this host or another
choose_host : (host other : ℕ) (P : Type 0) → (nat_eq host other ≡ true → host ≡ other → P) → (nat_eq host other ≡ false → host ≢ other → P) → P
choose_host host other P same differs = ⊎_elim (λ h. same h.0 h.1) (λ h. differs h.0 h.1) (eqb_tells host other)

sent_at : (host other : ℕ) (words : List ℕ) (x y : Option SessionView) → nat_eq host other ≡ true → IfSome x SoundSession
    → At (SaysOver {E = Failed} words (Ok tt)) x y → CarriesAt other (Sent host words ∷ []) x y
sent_at host other words None y same sound at = absurd at
sent_at host other words (Some b) None same sound at = absurd at
sent_at host other words (Some b) (Some n) same sound at = record {
  later = at.0.later;
  was_told = at.0.was_told;
  came = λ told. sym (at.0.coming told);
  went = λ told. at.0.whole told ∙ ap (λ (l : List ℕ). b.link.sent ++ l) (sym (ap frames (chosen (nat_eq host other) words same) ∙ one_packet words));
  offset = let is = at.1.0 in let below = sound.1 in omega (arith, is, below);
  sound = at.1.1;
}

-- a packet went out
carries_sent : (host : ℕ) (words : List ℕ) (before now : Sessions) → IsSound before → Says {E = Failed} host words before now (Ok tt) → CarriesAll (Sent host words ∷ []) before now
carries_sent host words before now sound says = λ other. choose_host host other (CarriesAt other (Sent host words ∷ []) (before other) (now other))
    (λ test is. sent_at host other words (before other) (now other) test (sound other) (subst (λ (h : ℕ). At (SaysOver {E = Failed} words (Ok tt)) (before h) (now h)) is says.at))
    (λ test differs. subst (λ (x : Option SessionView). CarriesAt other (Sent host words ∷ []) (before other) x) (sym (says.others other (λ is. differs (sym is)))) (quiet_at other (Sent host words ∷ []) (before other) refl (not_chosen (nat_eq host other) words test) (sound other)))

received_at : (host other count : ℕ) (packet : Packet) (x y : Option SessionView) → nat_eq host other ≡ true
    → At (HearsOver count (Ok packet)) x y → CarriesAt other (Received host (packet_words packet) ∷ []) x y
received_at host other count packet None y same at = absurd at
received_at host other count packet (Some b) None same at = absurd at
received_at host other count packet (Some b) (Some n) same at = record {
  later = at.0.later;
  was_told = λ told. subst IsTrue at.0.still_told told;
  came = λ told. at.0.came told ∙ ap (λ (l : List ℕ). l ++ n.link.coming) (sym framed);
  went = λ told. at.0.sent told ∙ sym (append-nil b.link.sent);
  offset = at.1.0 ∙ ap (λ (k : ℕ). offset_after b.received k) size;
  sound = at.1.1;
}
  where
    framed : frames (received_from other (Received host (packet_words packet) ∷ [])) ≡ frame (packet_words packet)
    framed = ap frames (chosen (nat_eq host other) (packet_words packet) same) ∙ one_packet (packet_words packet)

    size : 2 + 4 * count ≡ length (frames (received_from other (Received host (packet_words packet) ∷ [])))
    size = (let c = at.0.count_is in let l = length_words (packet_words packet) in let s : 2 + 4 * count ≡ length (frame (packet_words packet)) = omega (arith, c, l) in s) ∙ sym (ap length framed)

-- a packet came
carries_received : (host count : ℕ) (packet : Packet) (before now : Sessions) → IsSound before → Hears host count before now (Ok packet) → CarriesAll (Received host (packet_words packet) ∷ []) before now
carries_received host count packet before now sound hears = λ other. choose_host host other (CarriesAt other (Received host (packet_words packet) ∷ []) (before other) (now other))
    (λ test is. received_at host other count packet (before other) (now other) test (subst (λ (h : ℕ). At (HearsOver count (Ok packet)) (before h) (now h)) is hears.at))
    (λ test differs. subst (λ (x : Option SessionView). CarriesAt other (Received host (packet_words packet) ∷ []) (before other) x) (sym (hears.others other (λ is. differs (sym is)))) (quiet_at other (Received host (packet_words packet) ∷ []) (before other) (not_chosen (nat_eq host other) (packet_words packet) test) refl (sound other)))

others_kept : (host : ℕ) (before now : Sessions) → IsSound before → ((other : ℕ) → other ≢ host → now other ≡ before other) → CarriesOthers host [] before now
others_kept host before now sound same = λ other differs. subst (λ (x : Option SessionView). CarriesAt other [] (before other) x) (sym (same other differs)) (quiet_at other [] (before other) refl refl (sound other))

-- a packet did not come
breaks_of : (host count : ℕ) (b n : SessionView) (cause : LinkFault) → Takes count b.received b.link n.link (Err cause) → n.failed ≡ true → Breaks host [] b n
breaks_of host count b n cause takes failed = record {
  later = takes.later;
  was_told = λ told. subst IsTrue takes.still_told told;
  rest = b.link.coming;
  came = λ told. refl;
  failed = failed;
  more = [];
  went = λ told. takes.sent told ∙ sym (append-nil b.link.sent);
}

at_map : (holds later : SessionView → SessionView → Type 0) (x y : Option SessionView) → IfSome x SoundSession → ((b n : SessionView) → SoundSession b → holds b n → later b n) → At holds x y → At later x y
at_map holds later (Some b) (Some n) sound step at = step b n sound at
at_map holds later (Some b) None sound step at = absurd at
at_map holds later None y sound step at = absurd at

not_heard : (host : HostId) (count : ℕ) (does : Deed) (before now : Sessions) (out : SinkView) (cause : LinkFault) → IsSound before → Hears host.0 count before now (Err cause)
    → IsDriven [] (want.Words host count) does before now out out (Err (engine_fault host cause))
unfolding breaks_of
not_heard host count does before now out link_fault.Peer sound hears = (
  at_map (HearsOver count (Err link_fault.Peer)) (FailsAt host.0 [] (want.Words host count) does) (before host.0) (now host.0) (sound host.0)
      (λ b n sound_b takes. record { breaks = breaks_of host.0 count b n link_fault.Peer takes.0 takes.2; rose = takes.0.failed refl; next = inl (count, (refl, refl), refl) }) hears.at,
  others_kept host.0 before now sound hears.others,
  writes_none out,
)
not_heard host count does before now out (link_fault.BadFrame offset byte) sound hears = (
  at_map (HearsOver count (Err (link_fault.BadFrame offset byte))) (NoPacket host.0 [] (want.Words host count) offset byte) (before host.0) (now host.0) (sound host.0)
      (λ b n sound_b takes. record {
        breaks = breaks_of host.0 count b n (link_fault.BadFrame offset byte) takes.0 takes.2;
        count = count;
        next = (refl, refl);
        nothing_more = refl;
        wrong = λ told. subst (λ (k : ℕ). IsLinkFault count k b.link.coming (link_fault.BadFrame offset byte)) (let below = sound_b.1 in let s : b.received ≡ offset_after b.received 0 = omega (arith, below) in s) (takes.0.fault told);
      }) hears.at,
  others_kept host.0 before now sound hears.others,
  writes_none out,
)
not_heard host count does before now out link_fault.End sound hears = (
  at_map (HearsOver count (Err link_fault.End)) (EndsAt host.0 [] (want.Words host count)) (before host.0) (now host.0) (sound host.0)
      (λ b n sound_b takes. record { breaks = breaks_of host.0 count b n link_fault.End takes.0 takes.2; count = count; next = (refl, refl); nothing_more = refl; told_end = takes.0.ended refl; short = λ told. takes.0.fault told }) hears.at,
  others_kept host.0 before now sound hears.others,
  writes_none out,
)

-- what is done about a quiet step
pub done_quiet : (sessions : Sessions) (out : SinkView) → IsSound sessions → IsDone Quiet sessions sessions out out (Ok turn.Quiet)
done_quiet sessions out sound = (carries_none sessions sound, writes_none out, refl)

pub done_sent : (host : ℕ) (words : List ℕ) (before now : Sessions) (out : SinkView) → IsSound before → Says {E = Failed} host words before now (Ok tt) → IsDone (Said host words) before now out out (Ok turn.Quiet)
done_sent host words before now out sound says = (carries_sent host words before now sound says, writes_sent host words out, refl)

-- what is so where a fact is told
front_of : (told : Bool) (P : ℕ → Type 0) → (IsTrue told → (count : ℕ) × P count) → (count : ℕ) × (IsTrue told → P count)
front_of true P part = ((part refl).0, λ t. (part refl).1)
front_of false P part = (0, λ t. absurd (cc t))

fails_of : (host : HostId) (words : List ℕ) (b n : SessionView) (e : Failed) → SaysOver {E = Failed} words (Err e) b n → FailsAt host.0 [] want.Nothing (Said host.0 words) b n
fails_of host words b n e says =
    let sends = says.0 in
    let front : (count : ℕ) × (IsTrue n.link.told → n.link.sent ≡ b.link.sent ++ take count (frame words)) = front_of n.link.told (λ count. n.link.sent ≡ b.link.sent ++ take count (frame words)) sends.part in
    record {
      breaks = record { later = sends.later; was_told = sends.was_told; rest = b.link.coming; came = λ told. refl; failed = says.2; more = take front.0 (frame words); went = front.1 };
      rose = sends.failed;
      next = inr (words, front.0, refl, (refl, refl), refl);
    }

pub not_sent : (host : HostId) (words : List ℕ) (before now : Sessions) (out : SinkView) (e : Failed) → IsSound before → Says {E = Failed} host.0 words before now (Err e) → IsDone (Said host.0 words) before now out out (Err (fault.Peer host))
not_sent host words before now out e sound says = (
  at_map (SaysOver {E = Failed} words (Err e)) (FailsAt host.0 [] want.Nothing (Said host.0 words)) (before host.0) (now host.0) (sound host.0)
      (λ b n sound_b sends. fails_of host words b n e sends) says.at,
  others_kept host.0 before now sound says.others,
  writes_none out,
)

pub done_printed : (word : ℕ) (sessions : Sessions) (before now : SinkView) → IsSound sessions → WritesAll {E = Failed} (decimal word ++ codes "\n") before now (Ok tt) → IsDone (Shows word) sessions sessions before now (Ok turn.Printed)
done_printed word sessions before now sound w =
    (carries_printed word sessions sound, record { later = w.later; was_told = w.was_told; taken = λ told. w.whole told ∙ ap (λ (l : List ℕ). before.taken ++ l) (sym (append-nil (decimal word ++ codes "\n"))) }, refl)

pub not_printed : (word : ℕ) (sessions : Sessions) (before now : SinkView) (e : Failed) → IsSound sessions → WritesAll {E = Failed} (decimal word ++ codes "\n") before now (Err e) → IsDone (Shows word) sessions sessions before now (Err fault.Write)
not_printed word sessions before now e sound w =
    let front : (count : ℕ) × (IsTrue now.told → now.taken ≡ before.taken ++ take count (decimal word ++ codes "\n")) = front_of now.told (λ count. now.taken ≡ before.taken ++ take count (decimal word ++ codes "\n")) w.part in (
      word,
      refl,
      refl,
      carries_none sessions sound,
      record {
        rose = w.failed;
        was_told = w.was_told;
        front = front.0;
        taken = λ told. front.1 told ∙ ap (λ (l : List ℕ). before.taken ++ take front.0 l) (sym (append-nil (decimal word ++ codes "\n")));
      },
    )

heard_count : (count : ℕ) (packet : Packet) (x y : Option SessionView) → At (HearsOver count (Ok packet)) x y → length (packet_words packet) ≡ count
heard_count count packet (Some b) (Some n) at = at.0.count_is
heard_count count packet (Some b) None at = absurd at
heard_count count packet None y at = absurd at

-- a turn that took a packet
pub goes_heard : {M : Type 0} (wants : M → Want) (next : M → List ℕ → M) (does : M → Deed) (start end : M) (host : HostId) (count : ℕ) (packet : Packet) (before now : Sessions) (out : SinkView)
    → wants start ≡ want.Words host count → shown (does start) ≡ [] → IsSound before → Hears host.0 count before now (Ok packet) → end ≡ next start (packet_words packet) → AreWords (packet_words packet) → Goes wants next does start end before now out out 0
goes_heard wants next does start end host count packet before now out is quiet sound hears moved words = record {
  heard = packet_words packet;
  wanted = subst (λ (w : Want). IsHeard w (packet_words packet)) (sym is) (heard_count count packet (before host.0) (now host.0) hears.at, words);
  moved = moved;
  kept = subst (λ (e : List Event). CarriesAll e before now) (sym events) (carries_received host.0 count packet before now sound hears);
  written = subst (λ (e : List Event). Writes e out out) (sym events) (writes_received host.0 (packet_words packet) out);
  counted = ap (λ (e : List Event). length (printed e)) events;
}
  where
    events : received_in (wants start) (packet_words packet) ++ shown (does start) ≡ Received host.0 (packet_words packet) ∷ []
    events = ap (λ (w : Want). received_in w (packet_words packet) ++ shown (does start)) is ∙ ap (λ (l : List Event). (Received host.0 (packet_words packet) ∷ []) ++ l) quiet

alone : {M : Type 0} (wants : M → Want) (does : M → Deed) (start : M) → wants start ≡ want.Nothing → received_in (wants start) [] ++ shown (does start) ≡ shown (does start)
alone wants does start is = ap (λ (w : Want). received_in w [] ++ shown (does start)) is

-- a turn on no words
pub goes_alone : {M : Type 0} (wants : M → Want) (next : M → List ℕ → M) (does : M → Deed) (start end : M) (before now : Sessions) (out_before out_now : SinkView) (result : Result Turn EngineFault)
    → wants start ≡ want.Nothing → end ≡ next start [] → IsDone (does start) before now out_before out_now result → IsTurn wants next does start end before now out_before out_now result
goes_alone wants next does start end before now ob on (Ok turn.Over) is moved done = absurd done
goes_alone wants next does start end before now ob on (Ok turn.Quiet) is moved done = record {
  heard = [];
  wanted = subst (λ (w : Want). IsHeard w []) (sym is) refl;
  moved = moved;
  kept = subst (λ (e : List Event). CarriesAll e before now) (sym (alone wants does start is)) done.0;
  written = subst (λ (e : List Event). Writes e ob on) (sym (alone wants does start is)) done.1;
  counted = ap (λ (e : List Event). length (printed e)) (alone wants does start is) ∙ done.2;
}
goes_alone wants next does start end before now ob on (Ok turn.Printed) is moved done = record {
  heard = [];
  wanted = subst (λ (w : Want). IsHeard w []) (sym is) refl;
  moved = moved;
  kept = subst (λ (e : List Event). CarriesAll e before now) (sym (alone wants does start is)) done.0;
  written = subst (λ (e : List Event). Writes e ob on) (sym (alone wants does start is)) done.1;
  counted = ap (λ (e : List Event). length (printed e)) (alone wants does start is) ∙ done.2;
}
goes_alone wants next does start end before now ob on (Err cause) is moved done = subst (λ (w : Want). IsDriven [] w (does start) before now ob on (Err cause)) (sym is) done

-- a turn whose packet did not come
pub stops_unheard : {M : Type 0} (wants : M → Want) (does : M → Deed) (start : M) (host : HostId) (count : ℕ) (before now : Sessions) (out : SinkView) (cause : LinkFault)
    → wants start ≡ want.Words host count → IsSound before → Hears host.0 count before now (Err cause) → IsDriven [] (wants start) (does start) before now out out (Err (engine_fault host cause))
stops_unheard wants does start host count before now out cause is sound hears =
    subst (λ (w : Want). IsDriven [] w (does start) before now out out (Err (engine_fault host cause))) (sym is) (not_heard host count (does start) before now out cause sound hears)
