-- How far a host's machine was driven.
use Rattle.std.proofs.Common.{arith, ◌≡◌, ◌<◌, ◌≤◌, ◌+◌, ◌++◌, ℕ, [], Ok, Err, refl, sym, ap, subst, ◌∙◌}
use Rattle.vd_execution.specs.Code.{Code, weight}
use Rattle.vd_execution.specs.Step.{State, pending_after}
use Rattle.vd_machine.specs.Kept.{Kept, state_of}
use Rattle.vd_machine.specs.declared.lists.Lists.{Lists}
use Rattle.vd_outside.specs.Link.{LinkView}
use Rattle.vd_outside.specs.Sink.{SinkView}
use Rattle.vd_engine.specs.Drives.{AreSound, DrivesHost, IsDriven, sessions_of}
use Rattle.vd_engine.specs.Events.{received_in, shown}
use Rattle.vd_engine.specs.Hosts.{PacketsAreWith, next_with, seen_at, stands_in, wants_with}
use Rattle.vd_engine.specs.Turning.{Goes, IsTurn, IsTurnOf}
use Rattle.vd_engine.specs.declared.engine.Turn.TheVariants as turn
use Rattle.vd_engine.specs.declared.fault.EngineFault.{EngineFault}
use Rattle.vd_engine.specs.declared.links.Links.{Links}
use Rattle.vd_engine.proofs.Codes.{also_with, falls, still_with}
use Rattle.vd_engine.proofs.Driving.{Driven, driven_more, driven_none, drives_fault, drives_over, goes_sound, still_stands}
use Rattle.vd_engine.proofs.Turns.{carries_none, writes_none}

-- a host was driven from its start to here, and printed so many words
pub record Going {L : Type 0} (view : L → LinkView) (start host : Kept) (first links : Links L) (ob om : SinkView) (count : ℕ) : Type 0 where
  pub lists : host.lists ≡ start.lists
  pub driven : Driven (wants_with start.lists) (next_with start.lists) seen_at (state_of start) (state_of host) (sessions_of view first) (sessions_of view links) ob om count
  pub packets : PacketsAreWith (stands_in links) (state_of host).pending
  pub sound : AreSound view links
  pub fuel : count + weight (state_of host).pending ≤ weight (state_of start).pending

pub goes_none : {L : Type 0} (view : L → LinkView) (host : Kept) (links : Links L) (out : SinkView) → PacketsAreWith (stands_in links) (state_of host).pending → AreSound view links → Going view host host links links out out 0
goes_none view host links out packets sound = record {
  lists = refl;
  driven = driven_none (wants_with host.lists) (next_with host.lists) seen_at (state_of host) (sessions_of view links) out (carries_none (sessions_of view links) sound) (writes_none out);
  packets = packets;
  sound = sound;
  fuel = omega arith;
}

-- a turn that goes on makes what is pending less
pub turn_falls : {L : Type 0} (view : L → LinkView) (host after : Kept) (links later : Links L) (om on : SinkView) (more : ℕ)
    → Goes (wants_with host.lists) (next_with host.lists) seen_at (state_of host) (state_of after) (sessions_of view links) (sessions_of view later) om on more
    → weight (state_of after).pending < weight (state_of host).pending
turn_falls view host after links later om on more goes =
    let less : weight (pending_after (state_of host).registers (state_of host).pending) < weight (state_of host).pending = falls host.lists (state_of host).cursors (state_of host).registers (state_of host).pending goes.heard goes.wanted in
    let is : weight (state_of after).pending ≡ weight (pending_after (state_of host).registers (state_of host).pending) = ap (λ (s : State). weight s.pending) goes.moved in
    omega (arith, less, is)

goes_on : {L : Type 0} (view : L → LinkView) (start host after : Kept) (first links later : Links L) (ob om on : SinkView) (count more : ℕ) → more ≤ 1
    → Going view start host first links ob om count → after.lists ≡ host.lists
    → Goes (wants_with host.lists) (next_with host.lists) seen_at (state_of host) (state_of after) (sessions_of view links) (sessions_of view later) om on more
    → Going view start after first later ob on (count + more)
goes_on view start host after first links later ob om on count more few going same goes = record {
  lists = same ∙ going.lists;
  driven = driven_more (wants_with start.lists) (next_with start.lists) seen_at (state_of start) (state_of host) (state_of after) (sessions_of view first) (sessions_of view links) (sessions_of view later) ob om on count more going.driven
      (subst (λ (lists : Lists). Goes (wants_with lists) (next_with lists) seen_at (state_of host) (state_of after) (sessions_of view links) (sessions_of view later) om on more) going.lists goes);
  packets = subst (λ (c : Code). PacketsAreWith (stands_in later) c) (sym (ap (λ (s : State). s.pending) goes.moved))
      (also_with (stands_in links) (stands_in later) (pending_after (state_of host).registers (state_of host).pending)
      (λ peer some. still_stands view links later (received_in (wants_with host.lists (state_of host)) goes.heard ++ shown (seen_at (state_of host))) peer goes.kept some)
      (still_with (stands_in links) (state_of host).registers (state_of host).pending going.packets));
  sound = goes_sound (wants_with host.lists) (next_with host.lists) seen_at (state_of host) (state_of after) (sessions_of view links) (sessions_of view later) om on more goes;
  fuel = (let less = turn_falls view host after links later om on more goes in let fuel = going.fuel in omega (arith, less, fuel, few));
}

-- a turn that printed nothing
pub goes_quietly : {L : Type 0} (view : L → LinkView) (start host after : Kept) (first links later : Links L) (ob om on : SinkView) (count : ℕ)
    → Going view start host first links ob om count → after.lists ≡ host.lists → IsTurnOf view host after links later om on (Ok turn.Quiet) → Going view start after first later ob on count
goes_quietly view start host after first links later ob om on count going same goes =
    subst (λ (n : ℕ). Going view start after first later ob on n) (let s : count + 0 ≡ count = omega arith in s) (goes_on view start host after first links later ob om on count 0 (omega arith) going same goes)

pub goes_printing : {L : Type 0} (view : L → LinkView) (start host after : Kept) (first links later : Links L) (ob om on : SinkView) (count : ℕ)
    → Going view start host first links ob om count → after.lists ≡ host.lists → IsTurnOf view host after links later om on (Ok turn.Printed) → Going view start after first later ob on (count + 1)
goes_printing view start host after first links later ob om on count going same goes = goes_on view start host after first links later ob om on count 1 (omega arith) going same goes

-- a turn that ended all
pub goes_over : {L : Type 0} (view : L → LinkView) (start host after : Kept) (first links later : Links L) (ob om on : SinkView) (count : ℕ)
    → Going view start host first links ob om count → IsTurnOf view host after links later om on (Ok turn.Over) → DrivesHost view start first later ob on (Ok (record { printed = count }))
goes_over view start host after first links later ob om on count going over =
    drives_over (wants_with start.lists) (next_with start.lists) seen_at (state_of start) (state_of host) (sessions_of view first) (sessions_of view links) (sessions_of view later) ob om on count going.driven
    (subst (λ (lists : Lists). IsTurn (wants_with lists) (next_with lists) seen_at (state_of host) (state_of after) (sessions_of view links) (sessions_of view later) om on (Ok turn.Over)) going.lists over)

pub goes_wrong : {L : Type 0} (view : L → LinkView) (start host after : Kept) (first links later : Links L) (ob om on : SinkView) (count : ℕ) (cause : EngineFault)
    → Going view start host first links ob om count → IsTurnOf view host after links later om on (Err cause) → DrivesHost view start first later ob on (Err cause)
goes_wrong view start host after first links later ob om on count cause going wrong =
    drives_fault (wants_with start.lists) (next_with start.lists) seen_at (state_of start) (state_of host) (sessions_of view first) (sessions_of view links) (sessions_of view later) ob om on count cause going.driven
    (subst (λ (lists : Lists). IsDriven [] (wants_with lists (state_of host)) (seen_at (state_of host)) (sessions_of view links) (sessions_of view later) om on (Err cause)) going.lists wrong)
