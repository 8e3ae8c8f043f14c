-- A host that has enough never ends for want of an input or of an item.
use Rattle.std.proofs.Common.{◌≡◌, ◌∙◌, ℕ, ◌+◌, ◌<◌, ◌≤◌, nat_lt, Bool, true, false, if◌then◌else◌, List, [], ◌∷◌, ◌++◌, length, Result, Ok, Err, refl, sym, ap, subst, arith}
use Rattle.std.proofs.lemmas.Bool.{ltb-false}
use Rattle.vd_base.specs.declared.faults.CallFault.{CallFault}
use Rattle.vd_base.specs.declared.faults.CallFault.TheVariants as call_fault
use Rattle.vd_execution.specs.Code.{Code}
use Rattle.vd_execution.specs.Step.{Source, Inputs, OwnWords, Triples, BitTriples, Pairs, State, Need, Nothing, Item, Packet, Unequal, Ended, need, next}
use Rattle.vd_machine.specs.Kept.{Kept, state_of}
use Rattle.vd_machine.specs.Machines.{list_of, words_for}
use Rattle.vd_machine.specs.Wants.{count_of, short, want_of}
use Rattle.vd_machine.specs.declared.lists.Lists.{Lists}
use Rattle.vd_machine.specs.declared.want.Want.{Want}
use Rattle.vd_machine.specs.declared.want.Want.TheVariants as want
use Rattle.vd_tape.specs.declared.deal_items.deal.Deal.{Deal}
use Rattle.vd_outside.specs.Net.{NetView}
use Rattle.vd_outside.specs.Sink.{SinkView}
use Rattle.vd_link.specs.declared.faults.GreetFault.{GreetFault}
use Rattle.vd_link.specs.declared.faults.GreetFault.TheVariants as greet_fault
use Rattle.vd_engine.specs.Drives.{Sessions}
use Rattle.vd_engine.specs.Events.{AtStart, Event, OneMore, Reached}
use Rattle.vd_engine.specs.Hosts.{next_with, seen_at, wants_with}
use Rattle.vd_engine.specs.declared.engine.Ended.{Ended as Done}
use Rattle.vd_engine.specs.declared.fault.EngineFault.{EngineFault}
use Rattle.vd_engine.specs.declared.fault.EngineFault.TheVariants as engine_fault
use Rattle.vd_host_session.specs.Histories.{DrivesOver, call_status, engine_status, greet_status}
use Rattle.vd_host_session.specs.Peers.{Peer, peer_at}
use Rattle.vd_host_session.specs.Plays.{Driven, DrivesAndTells, NoRoom, NotAnnounced, NotGiven, NotGreeted, NotListening, Plays, Stopped, Told, Untold}
use Rattle.vd_host_session.specs.declared.fault.HostFault.{HostFault}
use Rattle.vd_host_session.specs.declared.fault.HostFault.TheVariants as fault
use Rattle.vd_host_session.specs.declared.task.Task.{Task}
use Rattle.vd_deal_needs.specs.Counted.{code_in}
use Rattle.vd_deal_needs.specs.DealNeedsLawsNeeds.{at_start, counts, stepped}
use Rattle.vd_deal_needs.proofs.Front.{enough_alone, of_can_run}
use Rattle.vd_cmd_plan.specs.declared.status.Status.{Status}
use Rattle.vd_cmd_host.specs.CheckLaws.{HasEnough, HostsWithEnoughAreNotShort, IsShortage}
use Rattle.vd_cmd_host.specs.Hosts.{NotReady, RanWell, RanWrong, RunsLoaded}
use Rattle.vd_cmd_host.specs.Statuses.{status_of}

-- ---- no want is short

abbrev IsShort : Want → Type 0
IsShort want.Nothing = ⊥
IsShort (want.Words host count) = ⊥
IsShort want.Ended = ⊥
IsShort (want.ShortInput at count) = Unit {0}
IsShort (want.ShortDeal kind at count) = Unit {0}
IsShort (want.Unequal left right) = ⊥

stepped_more : (m : State) (words : List (List ℕ)) (xs : List ℕ) → stepped m (words ++ xs ∷ []) ≡ next (stepped m words) xs
stepped_more m [] xs = refl
stepped_more m (ys ∷ words) xs = stepped_more (next m ys) words xs

module _ (lists : Lists) (code : Code) (has_all : (list : Source) → counts code list ≤ count_of lists list) where
  -- where a host comes to, it comes on some words
  on_words : {steps : ℕ} {events : List Event} {state : State} → Reached (wants_with lists) (next_with lists) seen_at (at_start code) steps events state
      → (words : List (List ℕ)) × (state ≡ stepped (at_start code) words)
  on_words AtStart = ([], refl)
  on_words (OneMore steps events machine heard before is_heard) =
      let w = on_words before in
      let xs = words_for lists machine.cursors heard (need machine) in
      (w.0 ++ xs ∷ [], ap (λ (m : State). next m xs) w.1 ∙ sym (stepped_more (at_start code) w.0 xs))

  below : (state : State) (words : List (List ℕ)) (list : Source) → state ≡ stepped (at_start code) words → need state ≡ Item list → state.cursors list < count_of lists list
  below state words list is needs =
      let there = enough_alone code words list (subst (λ (m : State). need m ≡ Item list) is needs) in
      let here = subst (λ (m : State). m.cursors list < counts code list) (sym is) there in
      let all = has_all list in
      omega (arith, here, all)

  item_there : (state : State) (list : Source) (b : Bool) → nat_lt (state.cursors list) (count_of lists list) ≡ b → state.cursors list < count_of lists list
      → IsShort (if b then want.Nothing else short list (state.cursors list) (count_of lists list)) → ⊥
  item_there state list true is lt is_short = is_short
  item_there state list false is lt is_short = let most = ltb-false (state.cursors list) (count_of lists list) is in omega (arith, lt, most)

  not_short : (state : State) (words : List (List ℕ)) (n : Need) → state ≡ stepped (at_start code) words → need state ≡ n → IsShort (want_of lists state.cursors n) → ⊥
  not_short state words Nothing is needs is_short = is_short
  not_short state words (Item list) is needs is_short =
      item_there state list (nat_lt (state.cursors list) (count_of lists list)) refl (below state words list is needs) is_short
  not_short state words (Packet p n) is needs is_short = is_short
  not_short state words (Unequal x y) is needs is_short = is_short
  not_short state words Ended is needs is_short = is_short

  pub wants_nothing_short : {steps : ℕ} {events : List Event} {state : State} → Reached (wants_with lists) (next_with lists) seen_at (at_start code) steps events state
      → IsShort (wants_with lists state) → ⊥
  wants_nothing_short {state = state} reached is_short = let w = on_words reached in not_short state w.0 (need state) w.1 refl is_short

-- ---- no end of a host is one

abbrev IsShortFault : HostFault → Type 0
IsShortFault (fault.ShortInput cursor count) = Unit {0}
IsShortFault (fault.ShortDeal kind cursor count) = Unit {0}
IsShortFault other = ⊥

abbrev IsFine : {T : Type 0} → Result T HostFault → Type 0
IsFine (Ok value) = Unit {0}
IsFine (Err f) = IsShortFault f → ⊥

no_call : (peer : Peer) (cause : CallFault) → IsShortFault (call_status peer cause) → ⊥
no_call peer call_fault.Failed is_short = is_short
no_call peer call_fault.Memory is_short = is_short

no_greeting : (peer : Peer) (refusal : GreetFault) → IsShortFault (greet_status peer refusal) → ⊥
no_greeting peer greet_fault.Peer is_short = is_short
no_greeting peer (greet_fault.BadFrame offset byte) is_short = is_short
no_greeting peer (greet_fault.WrongProgram ours theirs) is_short = is_short
no_greeting peer (greet_fault.WrongHost wanted named) is_short = is_short
no_greeting peer greet_fault.End is_short = is_short

module _ (machine : Kept) (code : Code) (starts : state_of machine ≡ at_start code) (has_all : (list : Source) → counts code list ≤ count_of machine.lists list) where
  no_drive : (before now : Sessions) (out out_now : SinkView) (cause : EngineFault) → DrivesOver machine before now out out_now (Err cause) → IsShortFault (engine_status cause) → ⊥
  no_drive before now out out_now (engine_fault.Peer peer) drives is_short = is_short
  no_drive before now out out_now engine_fault.Write drives is_short = is_short
  no_drive before now out out_now (engine_fault.BadFrame peer offset byte) drives is_short = is_short
  no_drive before now out out_now (engine_fault.Unequal left right) drives is_short = is_short
  no_drive before now out out_now (engine_fault.ShortInput cursor count) drives is_short =
      wants_nothing_short machine.lists code has_all
      (subst (λ (m : State). Reached (wants_with machine.lists) (next_with machine.lists) seen_at m drives.steps drives.events drives.machine) starts drives.reached)
      (subst IsShort (sym drives.driven.0) tt)
  no_drive before now out out_now (engine_fault.ShortDeal kind cursor count) drives is_short =
      wants_nothing_short machine.lists code has_all
      (subst (λ (m : State). Reached (wants_with machine.lists) (next_with machine.lists) seen_at m drives.steps drives.events drives.machine) starts drives.reached)
      (subst IsShort (sym drives.driven.0) tt)
  no_drive before now out out_now (engine_fault.EndOfLink peer) drives is_short = is_short

  tells : {result : Result Done HostFault} (before now : Sessions) (out out_now : SinkView) → DrivesAndTells machine before now out out_now result → IsFine result
  tells before now out out_now (Told between done drives writes) = tt
  tells before now out out_now (Untold between done failed drives writes) = λ is_short. is_short
  tells before now out out_now (Stopped cause drives) = no_drive before now out out_now cause drives

  plays : (task : Task) {result : Result Done HostFault} (net net_now : NetView) (out out_now : SinkView) → Plays machine task net net_now out out_now result → IsFine result
  plays task net net_now out out_now (NotListening count between cause lt listened listens same) = no_call (peer_at task (task.me.0 + count)) cause
  plays task net net_now out out_now (NotAnnounced failed announces) = λ is_short. is_short
  plays task net net_now out out_now (NotGiven count sessions met between cause meets lt gets back) = no_call (peer_at task count) cause
  plays task net net_now out out_now (NoRoom count sessions met between back given meets lt gets handed hangs) = λ is_short. is_short
  plays task net net_now out out_now (NotGreeted count sessions met between back given link refusal meets lt gets greets handed hangs) = no_greeting (peer_at task count) refusal
  plays task net net_now out out_now (Driven sessions later met between result meets drives handed) = tells sessions later between out_now drives

-- ---- so no status is one

shortage_of : (names : List (List ℕ)) (f : HostFault) → IsShortage (status_of names f) → IsShortFault f
shortage_of names fault.Memory is_short = is_short
shortage_of names fault.Write is_short = is_short
shortage_of names (fault.Peer peer) is_short = is_short
shortage_of names (fault.BadFrame offset byte) is_short = is_short
shortage_of names (fault.Unequal left right) is_short = is_short
shortage_of names (fault.WrongProgram peer ours theirs) is_short = is_short
shortage_of names (fault.WrongHost wanted named) is_short = is_short
shortage_of names (fault.ShortInput cursor count) is_short = tt
shortage_of names (fault.ShortDeal kind cursor count) is_short = tt
shortage_of names (fault.EndOfLink peer) is_short = is_short

-- the lists of a machine are as long as those that it was given
as_long : (l : Lists) (inputs : List ℕ) (deal : Deal) → l.inputs ≡ inputs → l.deal ≡ deal → (list : Source) → count_of (record { inputs = inputs; deal = deal }) list ≡ count_of l list
as_long l inputs deal same_inputs same_deal Inputs = ap (λ (xs : List ℕ). length xs) (sym same_inputs)
as_long l inputs deal same_inputs same_deal OwnWords = ap (λ (d : Deal). length d.own) (sym same_deal)
as_long l inputs deal same_inputs same_deal (Triples p) = ap (λ (d : Deal). length (list_of d.triples d.me.0 p)) (sym same_deal)
as_long l inputs deal same_inputs same_deal (BitTriples p) = ap (λ (d : Deal). length (list_of d.bits d.me.0 p)) (sym same_deal)
as_long l inputs deal same_inputs same_deal (Pairs p) = ap (λ (d : Deal). length (list_of d.pairs d.me.0 p)) (sym same_deal)

abbrev IsFineEnd : Result (Unit {0}) Status → Type 0
IsFineEnd (Ok done) = Unit {0}
IsFineEnd (Err end) = IsShortage end → ⊥

pub never_short : HostsWithEnoughAreNotShort
never_short words loaded net net_now out out_now end is_read enough runs = by runs
  where
    by : {result : Result (Unit {0}) Status} → RunsLoaded words loaded net net_now out out_now result → IsFineEnd result
    by (NotReady same same_out) = λ is_short. is_short
    by (RanWell ready done starts can _) = tt
    by (RanWrong ready f starts can played) = λ is_short.
        let code = code_in loaded.program.code in
        let state = starts.state code (of_can_run loaded.program is_read.code).nested in
        let all = λ (list : Source). subst (λ (n : ℕ). counts code list ≤ n) (as_long ready.machine.lists loaded.inputs loaded.dealt.deal starts.inputs_are starts.deal_is list) (enough list) in
        plays ready.machine code state all ready.task _ _ _ _ played (shortage_of loaded.program.hosts f is_short)
