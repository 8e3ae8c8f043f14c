-- Turns after turns.
use Rattle.std.proofs.Common.{rules, arith, ◌≡◌, ◌+◌, ℕ, List, [], ◌++◌, length, Option, Some, None, IsSome, Ok, Err, refl, sym, ap, subst, ◌∙◌, length-append, option_map}
use Rattle.std.proofs.lemmas.List.{append-nil}
use Rattle.std.proofs.lemmas.Grind.{flat_map-append}
use Rattle.vd_outside.specs.Link.{LinkView}
use Rattle.vd_outside.specs.Sink.{SinkView}
use Rattle.vd_link.specs.declared.session.Session.{Session}
use Rattle.vd_link.specs.declared.session.Greeted.{Greeted}
use Rattle.vd_engine.specs.Events.{Event, Reached, AtStart, OneMore, received_in, shown, word_of, printed}
use Rattle.vd_engine.specs.Links.{session_at}
use Rattle.vd_engine.specs.Drives.{Sessions, CarriesAt, CarriesAll, Writes, IsDriven, IsSound, Drives, session_view, sessions_of}
use Rattle.vd_engine.specs.Turning.{Goes}
use Rattle.vd_engine.specs.declared.links.Links.{Links}
use Rattle.vd_machine.specs.declared.want.Want.{Want}
use Rattle.vd_machine.specs.declared.want.Want.TheVariants as want
use Rattle.vd_execution.specs.Step.{Deed}
use Rattle.vd_engine.specs.declared.engine.Turn.TheVariants as turn
use Rattle.vd_engine.specs.declared.fault.EngineFault.{EngineFault}
use Rattle.vd_engine.proofs.Turns.{sound_after}
use Rattle.vd_engine.proofs.Composing.{carries_all_both, writes_both, driven_after}

-- how far a machine was driven
pub record Driven {M : Type 0} (wants : M → Want) (next : M → List ℕ → M) (does : M → Deed) (start machine : M) (before now : Sessions) (out_before out_now : SinkView) (count : ℕ) : Type 0 where
  pub steps : ℕ
  pub events : List Event
  pub reached : Reached wants next does start steps events machine
  pub kept : CarriesAll events before now
  pub written : Writes events out_before out_now
  pub counted : length (printed events) ≡ count

pub driven_none : {M : Type 0} (wants : M → Want) (next : M → List ℕ → M) (does : M → Deed) (start : M) (sessions : Sessions) (out : SinkView) → CarriesAll [] sessions sessions → Writes [] out out → Driven wants next does start start sessions sessions out out 0
driven_none wants next does start sessions out kept written = record { steps = 0; events = []; reached = AtStart; kept = kept; written = written; counted = refl }

pub driven_more : {M : Type 0} (wants : M → Want) (next : M → List ℕ → M) (does : M → Deed) (start mid end : M) (before now later : Sessions) (ob om on : SinkView) (count more : ℕ)
    → Driven wants next does start mid before now ob om count → Goes wants next does mid end now later om on more → Driven wants next does start end before later ob on (count + more)
driven_more {M = M} wants next does start mid end before now later ob om on count more d g = record {
  steps = d.steps + 1;
  events = d.events ++ (received_in (wants mid) g.heard ++ shown (does mid));
  reached = subst (λ (m : M). Reached wants next does start (d.steps + 1) (d.events ++ (received_in (wants mid) g.heard ++ shown (does mid))) m) (sym g.moved) (OneMore d.steps d.events mid g.heard d.reached g.wanted);
  kept = carries_all_both d.events (received_in (wants mid) g.heard ++ shown (does mid)) before now later d.kept g.kept;
  written = writes_both d.events (received_in (wants mid) g.heard ++ shown (does mid)) ob om on d.written g.written;
  counted = ap length (flat_map-append word_of d.events (received_in (wants mid) g.heard ++ shown (does mid))) ∙ length-append (printed d.events) (printed (received_in (wants mid) g.heard ++ shown (does mid)))
      ∙ ap (λ (n : ℕ). n + length (printed (received_in (wants mid) g.heard ++ shown (does mid)))) d.counted ∙ ap (λ (n : ℕ). count + n) g.counted;
}

pub drives_fault : {M : Type 0} (wants : M → Want) (next : M → List ℕ → M) (does : M → Deed) (start mid : M) (before now later : Sessions) (ob om on : SinkView) (count : ℕ) (cause : EngineFault)
    → Driven wants next does start mid before now ob om count → IsDriven [] (wants mid) (does mid) now later om on (Err cause) → Drives wants next does start before later ob on (Err cause)
drives_fault wants next does start mid before now later ob om on count cause d f = record {
  steps = d.steps;
  events = d.events;
  machine = mid;
  reached = d.reached;
  driven = driven_after d.events (wants mid) (does mid) before now later ob om on cause d.kept d.written f;
}

pub drives_over : {M : Type 0} (wants : M → Want) (next : M → List ℕ → M) (does : M → Deed) (start mid : M) (before now later : Sessions) (ob om on : SinkView) (count : ℕ)
    → Driven wants next does start mid before now ob om count → (wants mid ≡ want.Ended) × CarriesAll [] now later × Writes [] om on → Drives wants next does start before later ob on (Ok (record { printed = count }))
drives_over wants next does start mid before now later ob om on count d over = record {
  steps = d.steps;
  events = d.events;
  machine = mid;
  reached = d.reached;
  driven = (
    over.0,
    sym d.counted,
    subst (λ (e : List Event). CarriesAll e before later) (append-nil d.events) (carries_all_both d.events [] before now later d.kept over.1),
    subst (λ (e : List Event). Writes e ob on) (append-nil d.events) (writes_both d.events [] ob om on d.written over.2),
  );
}

stands_at : {L : Type 0} (view : L → LinkView) (host : ℕ) (events : List Event) (x y : Option (Session L Greeted)) → CarriesAt host events (option_map (session_view view) x) (option_map (session_view view) y) → IsSome x → IsSome y
stands_at view host events (Some x) (Some y) carries some = search rules
stands_at view host events (Some x) None carries some = absurd carries
stands_at view host events None y carries some = absurd (cc some)

-- a session that stands goes on standing
pub still_stands : {L : Type 0} (view : L → LinkView) (links later : Links L) (events : List Event) (host : ℕ) → CarriesAll events (sessions_of view links) (sessions_of view later) → IsSome (session_at links host) → IsSome (session_at later host)
still_stands view links later events host carries some = stands_at view host events (session_at links host) (session_at later host) (carries host) some

pub same_count : {M : Type 0} (wants : M → Want) (next : M → List ℕ → M) (does : M → Deed) (start end : M) (before later : Sessions) (ob on : SinkView) (count : ℕ)
    → Driven wants next does start end before later ob on (count + 0) → Driven wants next does start end before later ob on count
same_count wants next does start end before later ob on count d = subst (λ (n : ℕ). Driven wants next does start end before later ob on n) (let s : count + 0 ≡ count = omega arith in s) d

pub goes_sound : {M : Type 0} (wants : M → Want) (next : M → List ℕ → M) (does : M → Deed) (mid end : M) (now later : Sessions) (om on : SinkView) (count : ℕ) → Goes wants next does mid end now later om on count → IsSound later
goes_sound wants next does mid end now later om on count goes = sound_after (received_in (wants mid) goes.heard ++ shown (does mid)) now later goes.kept
