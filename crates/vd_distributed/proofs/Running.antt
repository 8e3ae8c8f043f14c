-- All hosts of a source over their links.
use Rattle.std.proofs.Common.{◌≡◌, ◌≢◌, ◌⊎◌, inl, inr, ◌+◌, ◌<◌, ◌≤◌, ℕ, zero, suc, nat_eq, if◌then◌else◌, Bool, true, false, IsTrue, List, [], ◌∷◌, ◌++◌, length, Option, Some, None, Result, Ok, Err, refl, sym, ap, ◌∙◌, subst, append_assoc, arith, map}
use Rattle.std.proofs.lemmas.Bool.{cases_lt, ne_eqb}
use Rattle.std.proofs.lemmas.List.{append-nil}
use Rattle.std.proofs.lemmas.List.FromFn.{get_or-map-range_with_len, length-map-range_with_len}
use Rattle.std.specs.List.{range_with_len}
use Rattle.std.specs.Prelude.{drop, slice_get, slice_index_or}
use Rattle.vd_base.specs.declared.protocols.Proto.{Proto}
use Rattle.vd_base.specs.HostSets.{host}
use Rattle.vd_base.specs.declared.ids.HostId.{HostId}
use Rattle.vd_base.specs.Holders.{proto_in}
use Rattle.vd_core.specs.declared.normal.NormalForm.{NormalForm}
use Rattle.vd_semantics.specs.ProgramMeaning.{program_outputs}
use Rattle.vd_semantics.specs.SourceMeaning.{source_outputs}
use Rattle.vd_tape.specs.declared.deal_items.deal.Deal.{Deal}
use Rattle.vd_outside.specs.Link.{LinkView}
use Rattle.vd_outside.specs.Net.{NetView}
use Rattle.vd_outside.specs.Sink.{SinkView}
use Rattle.vd_execution.specs.declared.instructions.Instr.{Instr}
use Rattle.vd_execution.specs.Code.{Code, Finished}
use Rattle.vd_execution.specs.Joint.{Joint, code_of, fresh, resting}
use Rattle.vd_execution.specs.Step.{Source as List_of, Inputs, OwnWords, Triples, BitTriples, Pairs, State, Cursors, Need, Nothing, Item, Packet, Unequal, Ended as NoNeed, need, need_of}
use Rattle.vd_execution.specs.Text.{IsCodeOf, Reading, text}
use Rattle.vd_execution.specs.World.{Local, Supply, IsPrefixOf, IsShortAt, Tape, followed_by_zeros, or_zeros}
use Rattle.vd_execution.specs.Claims.{RunsWell, Suffices, last_of}
use Rattle.vd_execution.proofs.Front.{same_or_not, AreItem}
use Rattle.vd_backend_laws.specs.Whole.{RunsAsToldBy, inputs_of}
use Rattle.vd_machine.specs.Kept.{Kept, at_start, state_of}
use Rattle.vd_machine.specs.Machines.{item_or_none, items_of}
use Rattle.vd_machine.specs.declared.lists.Lists.{Lists}
use Rattle.vd_world.specs.Supplies.{items_for, lists_for, supply_of_files}
use Rattle.vd_world.proofs.Front.{files_are_valid}
use Rattle.vd_projection.specs.Programs.{joint_of}
use Rattle.vd_projection.proofs.Front.{runnable_over, codes_can_be_loaded, codes_run_as_told, codes_run_well, ended_past}
use Rattle.vd_hostcode.specs.declared.host_text.program.Digest.{Digest}
use Rattle.vd_projection.specs.Stored.{CanBeStored, stored_program}
use Rattle.vd_projection.proofs.Front.{stored_programs_stand_in_files}
use Rattle.vd_link.specs.Frames.{frames, greeting}
use Rattle.vd_base.specs.Words.{AreWords}
use Rattle.vd_link.specs.Receiving.{IsBadByte}
use Rattle.vd_link.specs.Sessions.{Greeting, IsGreetFault, IsLinkFault}
use Rattle.vd_link.specs.declared.faults.GreetFault.{GreetFault}
use Rattle.vd_link.specs.declared.faults.GreetFault.TheVariants as greet_fault
use Rattle.vd_link.specs.declared.faults.LinkFault.TheVariants as link_fault
use Rattle.vd_link.proofs.Front.{no_greet_fault, no_fault}
use Rattle.vd_engine.specs.Drives.{Sessions, lines}
use Rattle.vd_engine.specs.Events.{AtStart, Event, printed, received_from, sent_to}
use Rattle.vd_engine.specs.declared.engine.Ended.{Ended}
use Rattle.vd_engine.specs.declared.fault.EngineFault.{EngineFault}
use Rattle.vd_engine.specs.declared.fault.EngineFault.TheVariants as engine_fault
use Rattle.vd_host_session.specs.Histories.{Held, ended, listening}
use Rattle.vd_host_session.specs.Peers.{Peer, number_at, peer_at}
use Rattle.vd_host_session.specs.Plays.{Driven, NoRoom, NotAnnounced, NotGiven, NotGreeted, NotListening, Plays}
use Rattle.vd_host_session.specs.declared.fault.HostFault.{HostFault}
use Rattle.vd_host_session.specs.declared.fault.HostFault.TheVariants as fault
use Rattle.vd_host_session.specs.declared.task.Task.{Task}
use Rattle.vd_host_session.proofs.Front.{earlier_number, later_number, less_or_least, number_apart}
use Rattle.vd_reorder.specs.Hastening.{AreHastened, IsHastened}
use Rattle.vd_reorder.proofs.Front.{hastened_never_short}
use Rattle.vd_reorder.specs.Hastened.{AreHistoriesFrom, stand_from}
use Rattle.vd_reorder.proofs.Front.{reached_from}
use Rattle.vd_distributed.specs.AllHosts.{AreDriven, AreTold, WaitsFor}
use Rattle.vd_distributed.proofs.Steps.{Trace}
use Rattle.vd_distributed.proofs.Told.{all_traced, waiting_ended}
use Rattle.vd_distributed.proofs.Driven.{Made}
use Rattle.vd_distributed.proofs.Fronts.{flat_front, front_both, front_same, front_trans, next_there, packets_front}
use Rattle.vd_distributed.proofs.Joined.{driven, never_bad, sound, tells}
use Rattle.vd_distributed.proofs.Words.{AreItems, AreSound}
use Rattle.vd_distributed.specs.Linked.{AreHosts, NumbersAreWords}
use Rattle.vd_distributed.specs.Ending.{GoesThrough, RunningHostsEnd}
use Rattle.vd_distributed.specs.Links.{Used, bytes_that_came, bytes_that_went, link_to, used_by, used_in, used_or}
use Rattle.vd_distributed.specs.Running.{AreRunOverLinks, BlamesNobody, Run, RunningHostsTellTheSource, WritesUpTo, WritesWhatItIsTold, text_of}
use Rattle.vd_distributed.proofs.Courses.{BadBytes, Course, EndsAs, course, drop_front, ends}
use Rattle.vd_distributed.proofs.Exchanged.{hastened_small}
use Rattle.vd_distributed.proofs.Numbers.{numbers_small}
use Rattle.vd_distributed.proofs.Printing.{item_words, printed_words}
use Rattle.vd_distributed.proofs.Stages.{IsGreetedBy, Refused, Stage, Waits, WasDriven, stage}

-- ---- who is no peer has no link

abbrev IsStranger : Task → ℕ → Type 0
IsStranger task p = (place : ℕ) → place < length task.addresses → number_at task.me.0 place ≢ p

not_used : (task : Task) (later : Sessions) (p : ℕ) → IsStranger task p → (all : List Held) (k count : ℕ) → k + count ≤ length task.addresses
    → map (λ held. held.peer) all ≡ map (peer_at task) (range_with_len k count) → used_in all later p ≡ None
not_used task later p strange [] k count few is = refl
not_used task later p strange (held ∷ all) k zero few is = absurd cc
not_used task later p strange (held ∷ all) k (suc count) few is =
    let first : held.peer ≡ peer_at task k = cc in
    let rest : map (λ held. held.peer) all ≡ map (peer_at task) (range_with_len (k + 1) count) = cc in
    let differs : nat_eq held.peer.number p ≡ false = ne_eqb held.peer.number p (λ e. strange k (omega (arith, few)) (sym (ap (λ (q : Peer). q.number) first) ∙ e)) in
    ap (λ (b : Bool). if b then used_by held.given (later p) else used_in all later p) differs
    ∙ not_used task later p strange all (k + 1) count (omega (arith, few)) rest

not_used_or : (task : Task) (p count : ℕ) (given back : LinkView) (others : Option Used) → IsStranger task p → count < length task.addresses → others ≡ None
    → used_or (number_at task.me.0 count) given back p others ≡ None
not_used_or task p count given back others strange there none =
    ap (λ (b : Bool). if b then Some (record { given = given; back = back }) else others) (ne_eqb (number_at task.me.0 count) p (strange count there)) ∙ none

no_link_to : (machine : Kept) (task : Task) (start end : NetView) (ob on : SinkView) {result : Result Ended HostFault} (plays : Plays machine task start end ob on result) (p : ℕ) → IsStranger task p
    → link_to plays p ≡ None
no_link_to machine task start end ob on (NotListening count net cause there listened call same) p strange = refl
no_link_to machine task start end ob on (NotAnnounced failed announces) p strange = refl
no_link_to machine task start end ob on (NotGiven count sessions met net cause meets there gets back) p strange =
    not_used task sessions p strange meets.met.all 0 count (omega (arith, there)) meets.met.peers
no_link_to machine task start end ob on (NoRoom count sessions met net back given meets there gets handed hung) p strange =
    not_used_or task p count given given (used_in meets.met.all sessions p) strange there (not_used task sessions p strange meets.met.all 0 count (omega (arith, there)) meets.met.peers)
no_link_to machine task start end ob on (NotGreeted count sessions met net back given link refusal meets there gets greets handed hung) p strange =
    not_used_or task p count given link (used_in meets.met.all sessions p) strange there (not_used task sessions p strange meets.met.all 0 count (omega (arith, there)) meets.met.peers)
no_link_to machine task start end ob on (Driven sessions later met out result meets drives back) p strange =
    not_used task later p strange meets.met.all 0 (length task.addresses) (omega arith) meets.met.peers

number_low : (me place : ℕ) → number_at me place ≤ suc place
number_low me place =
    elim (less_or_least place me) [
      | inl less ↦ let e = earlier_number me place less in omega (arith, e)
      | inr least ↦ let e = later_number me place least in omega (arith, e)
    ]

own_stranger : (task : Task) → IsStranger task task.me.0
own_stranger task place there = number_apart task.me.0 place

past_stranger : (task : Task) (n p : ℕ) → length task.addresses + 1 ≡ n → n ≤ p → IsStranger task p
past_stranger task n p count past place there e = let low = number_low task.me.0 place in omega (arith, low, e, there, count, past)

-- ---- a fault of a greeting stays one where more comes

bad_more : (offset byte : ℕ) (bytes more : List ℕ) → IsBadByte 0x47 1 0 1 offset byte bytes → IsBadByte 0x47 1 0 1 offset byte (bytes ++ more)
bad_more offset byte bytes more (inl at) = inl (at.0, record { rest = at.1.rest ++ more; begins = ap (λ (l : List ℕ). l ++ more) at.1.begins; wrong = at.1.wrong })
bad_more offset byte bytes more (inr at) = inr (at.0, record { rest = at.1.rest ++ more; begins = ap (λ (l : List ℕ). l ++ more) at.1.begins; wrong = at.1.wrong })

greeting_more : (bytes more plan : List ℕ) (from to : ℕ) → Greeting bytes plan from to → Greeting (bytes ++ more) plan from to
greeting_more bytes more plan from to g = record {
  rest = g.rest ++ more;
  digest = g.digest;
  came = ap (λ (l : List ℕ). l ++ more) g.came ∙ append_assoc (greeting plan from to) g.rest more;
}

-- no greeting is blamed that is a prefix of the awaited one and more
abbrev Blames : GreetFault → Type 0
Blames (greet_fault.BadFrame offset byte) = Unit {0}
Blames (greet_fault.WrongProgram ours theirs) = Unit {0}
Blames (greet_fault.WrongHost wanted named) = Unit {0}
Blames other = ⊥

fault_more : (plan : List ℕ) (me peer : ℕ) (bytes more : List ℕ) (f : GreetFault) → Blames f → IsGreetFault (ends plan me peer) bytes f → IsGreetFault (ends plan me peer) (bytes ++ more) f
fault_more plan me peer bytes more greet_fault.Peer b i = absurd b
fault_more plan me peer bytes more (greet_fault.BadFrame offset byte) b i = bad_more offset byte bytes more i
fault_more plan me peer bytes more (greet_fault.WrongProgram ours theirs) b i = (i.0, i.1, (i.2.0, i.2.1, greeting_more bytes more theirs i.2.0 i.2.1 i.2.2))
fault_more plan me peer bytes more (greet_fault.WrongHost wanted named) b i = (i.0, i.1, greeting_more bytes more plan i.0 i.1 i.2, i.3)
fault_more plan me peer bytes more greet_fault.End b i = absurd b

not_peer : (f : GreetFault) → Blames f → f ≢ greet_fault.Peer
not_peer greet_fault.Peer b e = b
not_peer (greet_fault.BadFrame offset byte) b e = cc
not_peer (greet_fault.WrongProgram ours theirs) b e = cc
not_peer (greet_fault.WrongHost wanted named) b e = cc
not_peer greet_fault.End b e = b

never_blamed : (plan : List ℕ) (me peer : ℕ) (bytes more : List ℕ) (f : GreetFault) → length plan ≡ 32 → Blames f → IsPrefixOf bytes (greeting plan peer me ++ more) → IsGreetFault (ends plan me peer) bytes f → ⊥
never_blamed plan me peer bytes more f long b p i =
    no_greet_fault (ends plan me peer) more f long (not_peer f b) (subst (λ (l : List ℕ). IsGreetFault (ends plan me peer) l f) p.1 (fault_more plan me peer bytes p.0 f b i))

-- ---- a host that is not declared

abbrev pub nothing_dealt : Lists
nothing_dealt = record { inputs = []; deal = record { hosts = 0; me = host 0; own = []; triples = []; bits = []; pairs = [] } }

none_in : {X : Type 0} (f : X → List ℕ) (b : Bool) (i : ℕ) (l : List X) → l ≡ [] → item_or_none f (slice_get (if b then [] else l) i) ≡ None
none_in f true i l e = refl
none_in f false i l e = ap (λ q. item_or_none f (slice_get q i)) e

pub no_items : (source : List_of) (i : ℕ) → items_of nothing_dealt source i ≡ None
no_items Inputs i = refl
no_items OwnWords i = refl
no_items (Triples p) i = none_in _ (nat_eq p 0) i _ refl
no_items (BitTriples p) i = none_in _ (nat_eq p 0) i _ refl
no_items (Pairs p) i = none_in _ (nat_eq p 0) i _ refl

past_list : {X : Type 0} (xs : List X) (i : ℕ) → length xs ≤ i → slice_get xs i ≡ None
past_list [] i past = refl
past_list (x ∷ xs) zero past = absurd (omega (arith, past))
past_list (x ∷ xs) (suc i) past = past_list xs i (omega (arith, past))

-- ---- numbers of peers

behind_place : (me p peers : ℕ) → p ≢ me → me ≤ p → p < peers + 1 → (place : ℕ) × (place < peers) × (number_at me place ≡ p)
behind_place me zero peers other le few = absurd (other (omega (arith, le)))
behind_place me (suc place) peers other le few =
    let least : me ≤ place = omega (arith, le, other) in
    (place, omega (arith, few), later_number me place least)

-- the place of a host among the peers of another
place_of : (me p peers : ℕ) → p ≢ me → p < peers + 1 → me < peers + 1 → (place : ℕ) × (place < peers) × (number_at me place ≡ p)
place_of me p peers other few own =
    elim (less_or_least p me) [
      | inl less ↦ (p, omega (arith, less, own), earlier_number me p less)
      | inr least ↦ behind_place me p peers other least few
    ]

number_rises : (me a b : ℕ) → a < b → number_at me a < number_at me b
number_rises me a b lt =
    elim (less_or_least a me) [
      | inl early ↦
          let x = earlier_number me a early in
          elim (less_or_least b me) [
            | inl less ↦ let y = earlier_number me b less in omega (arith, x, y, lt)
            | inr least ↦ let y = later_number me b least in omega (arith, x, y, lt)
          ]
      | inr late ↦ let x = later_number me a late in let y = later_number me b (omega (arith, late, lt)) in omega (arith, x, y, lt)
    ]

-- ---- hosts whose lists suffice

short_same : (items others : List_of → ℕ → Option (List ℕ)) → ((source : List_of) (i : ℕ) → others source i ≡ items source i) → (c : Cursors) (x : Need) → IsShortAt items c x → IsShortAt others c x
short_same items others same c Nothing h = h
short_same items others same c (Item source) h = same source (c source) ∙ h
short_same items others same c (Packet p k) h = h
short_same items others same c (Unequal x y) h = h
short_same items others same c NoNeed h = h

never_short : (s : Supply) (j : Joint) (n : ℕ) (codes : ℕ → Code) (lists : ℕ → Lists) (events : ℕ → List Event) (state : ℕ → State) → RunsWell s j → AreHastened n j codes
    → Suffices s (last_of s j) → AreDriven s codes lists events state → (h : ℕ) → IsShortAt (s h) (state h).cursors (need (state h)) → ⊥
never_short s j n codes lists events state well are enough d h short =
    let t : (h : ℕ) → Trace s h (resting codes fresh h) (events h) (state h) = all_traced s codes lists events state d in
    let words : ℕ → List (List ℕ) = λ h. (t h).words in
    let histories : AreHistoriesFrom s (resting codes fresh) words = record {
      each = λ h. (t h).goes;
      linked = λ h. (t h).links (λ p. (stand_from (resting codes fresh) words p).sent h) (λ p. subst (λ q. IsPrefixOf (received_from p (events h)) q) (sym ((t p).sends h)) (d.linked p h));
    } in
    let b = reached_from s j n codes words well are histories in
    hastened_never_short s j n codes b.0 h (record { well = well; enough = enough }) are
    (subst (λ (l : Local). IsShortAt (s h) l.state.cursors (need l.state)) (sym (b.1 h)) (subst (λ (q : State). IsShortAt (s h) q.cursors (need q)) (sym (t h).state_is) short))

abbrev reading : Code → Reading
reading k = record { code = k; blocks = [] }

-- a text is that of one code
same_code : (is : List Instr) (c d : Code) → IsCodeOf is c → IsCodeOf is d → c ≡ d
same_code is c d e f =
    let same : Some (reading c) ≡ Some (reading d) = sym e ∙ f in
    let one : reading c ≡ reading d = cc in
    ap (λ (r : Reading). r.code) one

-- a machine that has ended needs nothing
ended_need : (m : State) → m.pending ≡ Finished → need m ≡ NoNeed
ended_need m e = ap (need_of m.registers) e

-- what a machine waits for that has not ended
abbrev WaitsAs : Lists → List Event → State → (ℕ → List ℕ) → Type 0
WaitsAs l events m come =
    (m.pending ≡ Finished) ⊎ (IsShortAt (items_of l) m.cursors (need m)
    ⊎ ((q : ℕ) × (count : ℕ) × (need m ≡ Packet q count) × (rest : List ℕ) × (come q ≡ frames (received_from q events) ++ rest) × IsLinkFault count 0 rest link_fault.End))

waits_as : (l : Lists) (events : List Event) (m : State) (come : ℕ → List ℕ) (r : Result Ended EngineFault) → Waits l events m come r → WaitsAs l events m come
waits_as l events m come (Ok done) w = inl w
waits_as l events m come (Err (engine_fault.Peer peer)) w = absurd w
waits_as l events m come (Err engine_fault.Write) w = absurd w
waits_as l events m come (Err (engine_fault.BadFrame peer offset byte)) w = absurd w
waits_as l events m come (Err (engine_fault.Unequal left right)) w = absurd w
waits_as l events m come (Err (engine_fault.ShortInput cursor count)) w = inr (inl w)
waits_as l events m come (Err (engine_fault.ShortDeal kind cursor count)) w = inr (inl w)
waits_as l events m come (Err (engine_fault.EndOfLink peer)) w = inr (inr (peer.0, w.0, w.1, w.2, w.3, w.4))

-- a machine that has ended was driven well
ended_well : (l : Lists) (events : List Event) (m : State) (come : ℕ → List ℕ) (r : Result Ended EngineFault) (result : Result Ended HostFault) → Waits l events m come r → m.pending ≡ Finished
    → ((done : Ended) → r ≡ Ok done → result ≡ Ok done) → (done : Ended) × (result ≡ Ok done)
ended_well l events m come (Ok done) result w e well = (done, well done refl)
ended_well l events m come (Err (engine_fault.Peer peer)) result w e well = absurd w
ended_well l events m come (Err engine_fault.Write) result w e well = absurd w
ended_well l events m come (Err (engine_fault.BadFrame peer offset byte)) result w e well = absurd w
ended_well l events m come (Err (engine_fault.Unequal left right)) result w e well = absurd w
ended_well l events m come (Err (engine_fault.ShortInput cursor count)) result w e well = absurd (subst (λ (x : Need). IsShortAt (items_of l) m.cursors x) (ended_need m e) w)
ended_well l events m come (Err (engine_fault.ShortDeal kind cursor count)) result w e well = absurd (subst (λ (x : Need). IsShortAt (items_of l) m.cursors x) (ended_need m e) w)
ended_well l events m come (Err (engine_fault.EndOfLink peer)) result w e well = let wrong : NoNeed ≡ Packet peer.0 w.0 = sym (ended_need m e) ∙ w.1 in absurd (cc wrong)

-- ---- all hosts

module _ (program : NormalForm) (list : List Proto) (plan : Digest) (inputs : List (List ℕ)) (deals : List Deal) (run : ℕ → Run) (outputs : List (List ℕ)) (same : program_outputs program inputs ≡ outputs)
    (are : AreRunOverLinks program list plan inputs deals run) (one : ℕ) (base : CanBeStored program list plan one) where
  abbrev n : ℕ
  n = length program.hosts

  abbrev s : Supply
  s = supply_of_files inputs deals

  abbrev j : Joint
  j = joint_of program list

  abbrev Place : ℕ → Type 0
  Place h = (h < n) ⊎ (n ≤ h)

  long : length plan.bytes ≡ 32
  long = base.digest.0

  task_plan : (h : ℕ) (lt : h < n) → (run h).ready.task.plan ≡ plan.bytes
  task_plan h lt = (are.starts h lt).starts.plan ∙ ap (λ (d : Digest). d.bytes) (are.starts h lt).hastened.plan

  task_me : (h : ℕ) (lt : h < n) → (run h).ready.task.me.0 ≡ h
  task_me h lt = ap (λ (q : HostId). q.0) ((are.starts h lt).starts.me ∙ (are.starts h lt).hastened.me)

  task_count : (h : ℕ) (lt : h < n) → length (run h).ready.task.addresses + 1 ≡ n
  task_count h lt = ap (λ (l : List (List ℕ)). length l + 1) (are.starts h lt).starts.addresses_are ∙ (are.starts h lt).peers

  -- ---- its own code, and the one from which it is run

  code_is : (h : ℕ) → h < n → (stored_program program list plan h).code ≡ text (code_of h j) []
  code_is h lt = get_or-map-range_with_len (λ k. text (code_of k j) []) 0 n h h [] lt (omega arith)

  is_code : (h : ℕ) → h < n → IsCodeOf (stored_program program list plan h).code (code_of h j)
  is_code h lt = subst (λ (l : List Instr). IsCodeOf l (code_of h j)) (sym (code_is h lt)) (codes_can_be_loaded program list base.runs.made (runnable_over program list base.runs.made base.runs.runnable) h).nested

  abbrev code_at : (h : ℕ) → Place h → Code
  code_at h (inl lt) = (are.starts h lt).hastened.new_code
  code_at h (inr le) = code_of h j

  abbrev codes : ℕ → Code
  codes h = code_at h (cases_lt h n)

  from_own : (h : ℕ) (lt : h < n) → IsHastened (code_of h j) (are.starts h lt).hastened.new_code
  from_own h lt =
      let y = (are.starts h lt).hastened in
      subst (λ c. IsHastened c y.new_code) (same_code (stored_program program list plan h).code y.old_code (code_of h j) y.old_is (is_code h lt)) y.hastened

  each_hastened : (h : ℕ) (place : Place h) → IsHastened (code_of h j) (code_at h place)
  each_hastened h (inl lt) = from_own h lt
  each_hastened h (inr le) = (0, refl)

  past_own : (h : ℕ) (place : Place h) → n ≤ h → code_of h j ≡ code_at h place
  past_own h (inl lt) past = absurd (omega (arith, lt, past))
  past_own h (inr le) past = refl

  all_hastened : AreHastened n j codes
  all_hastened = record { each = λ h. each_hastened h (cases_lt h n); others = λ h past. past_own h (cases_lt h n) past }

  own_numbers : (h : ℕ) → Place h → NumbersAreWords (code_of h j)
  own_numbers h (inl lt) = numbers_small (stored_program program list plan h).code (code_of h j) _ (stored_programs_stand_in_files program list plan h (are.stored h lt)).file.lines (is_code h lt)
  own_numbers h (inr le) = subst NumbersAreWords (sym (ended_past program list base.runs h le)) tt

  numbers : (h : ℕ) → NumbersAreWords (codes h)
  numbers h = hastened_small (code_of h j) (codes h) (each_hastened h (cases_lt h n)) (own_numbers h (cases_lt h n))

  hosts : AreHosts s j n codes
  hosts =
      let valid = files_are_valid inputs deals are.files in
      record {
        well = codes_run_well program list base.runs inputs are.files.words s valid.0 valid.1;
        deal = valid.0;
        hastened = all_hastened;
        numbers = numbers;
      }

  prints : (h : ℕ) → h < n → (last_of s j h).printed ≡ slice_index_or outputs h []
  prints h lt =
      let t : Tape = followed_by_zeros s in
      let valid = files_are_valid inputs deals are.files in
      let told : RunsAsToldBy program (proto_in list) inputs t = codes_run_as_told program list base.runs inputs are.files.words t valid.0 valid.1 in
      sym (get_or-map-range_with_len (λ (k : ℕ). (last_of s j k).printed) 0 n h h [] lt (omega arith)) ∙ ap (λ (o : List (List ℕ)). slice_index_or o h []) (told.prints ∙ same)

  -- ---- its links

  abbrev link_in : (h : ℕ) → Place h → ℕ → Option Used
  link_in h (inl lt) p = link_to (are.plays h lt) p
  link_in h (inr le) p = None

  abbrev links : ℕ → ℕ → Option Used
  links h = link_in h (cases_lt h n)

  abbrev come : ℕ → ℕ → List ℕ
  come h p = drop 36 (bytes_that_came (links h p))

  abbrev went : ℕ → ℕ → List ℕ
  went h p = drop 36 (bytes_that_went (links h p))

  -- what came to one from another is a prefix of what that one sent, whoever they are
  none_came : (h : ℕ) (lt : h < n) (p : ℕ) → IsStranger (run h).ready.task p → link_to (are.plays h lt) p ≡ None
  none_came h lt p strange = no_link_to (run h).ready.machine (run h).ready.task (run h).net (run h).net_now (run h).out (run h).out_now (are.plays h lt) p strange

  front_none : (u : Option Used) (ys : List ℕ) → u ≡ None → IsPrefixOf (bytes_that_came u) ys
  front_none u ys e = subst (λ (o : Option Used). IsPrefixOf (bytes_that_came o) ys) (sym e) (ys, refl)

  in_front : (a b : ℕ) (pa : Place a) (pb : Place b) → IsPrefixOf (bytes_that_came (link_in b pb a)) (bytes_that_went (link_in a pa b))
  in_front a b pa (inr le) = (bytes_that_went (link_in a pa b), refl)
  in_front a b (inr past) (inl lt) = front_none _ _ (none_came b lt a (past_stranger (run b).ready.task n a (task_count b lt) past))
  in_front a b (inl la) (inl lt) =
      elim (same_or_not a b) [
        | inl same ↦ front_none _ _ (none_came b lt a (subst (IsStranger (run b).ready.task) (task_me b lt ∙ sym same) (own_stranger (run b).ready.task)))
        | inr other ↦ are.linked a b la lt other
      ]

  linked : (a b : ℕ) → IsPrefixOf (come b a) (went a b)
  linked a b = drop_front 36 _ _ (in_front a b (cases_lt a n) (cases_lt b n))

  -- ---- each host

  record HostAt (h : ℕ) (place : Place h) : Type 0 where
    lists : Lists
    supplied : (q : List_of) (i : ℕ) → s h q i ≡ items_of lists q i
    made : Made lists (at_start (code_at h place)) (λ p. drop 36 (bytes_that_came (link_in h place p))) (λ p. drop 36 (bytes_that_went (link_in h place p)))
    greets : (p : ℕ) → (more : List ℕ) × IsPrefixOf (bytes_that_went (link_in h place p)) (greeting plan.bytes h p ++ more)
    written : h < n → IsTrue (run h).out_now.told → (front : List ℕ) × ((run h).out_now.taken ≡ (run h).out.taken ++ front)
        × (IsPrefixOf front (listening ++ lines (printed made.events)) ⊎ ((made.state.pending ≡ Finished) × IsPrefixOf front (text_of (printed made.events))))
    ends_as : h < n → EndsAs lists (at_start (code_at h place)) plan.bytes h (link_in h place) (run h).out (run h).out_now made.events made.state (run h).result

  started_at : (h : ℕ) (lt : h < n) → state_of (run h).ready.machine ≡ at_start (code_at h (inl lt))
  started_at h lt = (are.starts h lt).starts.state (are.starts h lt).hastened.new_code (are.starts h lt).hastened.new_is

  abbrev lists_with : List ℕ → Deal → Lists
  lists_with words deal = record { inputs = words; deal = deal }

  lists_are : (h : ℕ) (lt : h < n) → (run h).ready.machine.lists ≡ lists_for inputs h (are.starts h lt).deal
  lists_are h lt =
      let l = (run h).ready.machine.lists in
      ap (λ (i : List ℕ). lists_with i l.deal) (are.starts h lt).starts.inputs_are ∙ ap (lists_with (inputs_of inputs h)) (are.starts h lt).starts.deal_is

  declared : (h : ℕ) (lt : h < n) (plan_now : List ℕ) (me : ℕ) (from : State) → plan_now ≡ plan.bytes → me ≡ h → from ≡ at_start (code_at h (inl lt))
      → Course (run h).ready.machine.lists from plan_now me (link_in h (inl lt)) (run h).out (run h).out_now (run h).result → HostAt h (inl lt)
  declared h lt plan_now me from plans mes froms c0 =
      let l = (run h).ready.machine.lists in
      let c1 = subst (λ (q : List ℕ). Course l from q me (link_in h (inl lt)) (run h).out (run h).out_now (run h).result) plans c0 in
      let c2 = subst (λ (q : ℕ). Course l from plan.bytes q (link_in h (inl lt)) (run h).out (run h).out_now (run h).result) mes c1 in
      let c = subst (λ (q : State). Course l q plan.bytes h (link_in h (inl lt)) (run h).out (run h).out_now (run h).result) froms c2 in
      record {
        lists = l;
        supplied = λ q i. ap (λ (o : Option Deal). items_for inputs h o q i) (are.starts h lt).dealt ∙ ap (λ (k : Lists). items_of k q i) (sym (lists_are h lt));
        made = c.made;
        greets = c.greets;
        written = λ less. c.written;
        ends_as = λ less. c.ends_as;
      }

  host_at : (h : ℕ) (place : Place h) → HostAt h place
  host_at h (inl lt) =
      declared h lt (run h).ready.task.plan (run h).ready.task.me.0 (state_of (run h).ready.machine) (task_plan h lt) (task_me h lt) (started_at h lt)
      (course (run h).ready.machine (run h).ready.task (run h).net (run h).net_now (run h).out (run h).out_now (ap (λ (l : List ℕ). length l) (task_plan h lt) ∙ long) (are.plays h lt) (are.told h lt))
  host_at h (inr le) = record {
    lists = nothing_dealt;
    supplied = λ q i. ap (λ (o : Option Deal). items_for inputs h o q i) (past_list deals h (let e = are.each in omega (arith, le, e))) ∙ sym (no_items q i);
    made = record { steps = 0; events = []; state = at_start (code_at h (inr le)); reached = AtStart; came = λ p. ([], refl); sent = λ p. ([], refl) };
    greets = λ p. ([], (greeting plan.bytes h p ++ [], refl));
    written = λ less. absurd (omega (arith, less, le));
    ends_as = λ less. absurd (omega (arith, less, le));
  }

  abbrev at : (h : ℕ) → HostAt h (cases_lt h n)
  at h = host_at h (cases_lt h n)

  abbrev made_by : (h : ℕ) → Made (at h).lists (at_start (codes h)) (come h) (went h)
  made_by h = (at h).made

  told : AreTold s j (λ h. (made_by h).events) (λ h. (made_by h).state)
  told = tells s j n codes (λ h. (at h).lists) come went hosts (λ h. (at h).supplied) made_by linked

  -- what came to a host from another begins as that one's greeting
  came_greets : (h p : ℕ) → (more : List ℕ) × IsPrefixOf (bytes_that_came (links h p)) (greeting plan.bytes p h ++ more)
  came_greets h p = let g = (at p).greets h in (g.0, front_trans _ _ _ (in_front p h (cases_lt p n) (cases_lt h n)) g.1)

  not_blamed : (h p : ℕ) (f : GreetFault) → Blames f → IsGreetFault (ends plan.bytes h p) (bytes_that_came (links h p)) f → ⊥
  not_blamed h p f b i = let g = came_greets h p in never_blamed plan.bytes h p (bytes_that_came (links h p)) g.0 f long b g.1 i

  not_bad : (h offset byte : ℕ) → BadBytes (at h).lists (at_start (codes h)) plan.bytes h (links h) (run h).out (run h).out_now offset byte (made_by h).events (made_by h).state → ⊥
  not_bad h offset byte (inl greeting) = not_blamed h greeting.0 (greet_fault.BadFrame offset byte) tt greeting.1
  not_bad h offset byte (inr packet) =
      never_bad s j n codes (λ h. (at h).lists) come went hosts (λ h. (at h).supplied) made_by linked h packet.0 offset byte packet.1 packet.2 packet.3 packet.4 packet.5 _ packet.6

  blames : (h : ℕ) (r : Result Ended HostFault) → EndsAs (at h).lists (at_start (codes h)) plan.bytes h (links h) (run h).out (run h).out_now (made_by h).events (made_by h).state r → BlamesNobody r
  blames h (Ok done) e = tt
  blames h (Err (fault.BadFrame offset byte)) e = not_bad h offset byte e
  blames h (Err (fault.Unequal left right)) e = told.equal h left right e
  blames h (Err (fault.WrongProgram peer ours theirs)) e = not_blamed h e.0 (greet_fault.WrongProgram ours theirs) tt e.1
  blames h (Err (fault.WrongHost wanted named)) e = not_blamed h e.0 (greet_fault.WrongHost wanted named) tt e.1
  blames h (Err other) e = tt

  -- ---- what is written

  front_of_text : (h : ℕ) (lt : h < n) (front : List ℕ)
      → IsPrefixOf front (listening ++ lines (printed (made_by h).events)) ⊎ (((made_by h).state.pending ≡ Finished) × IsPrefixOf front (text_of (printed (made_by h).events)))
      → IsPrefixOf front (text_of (slice_index_or outputs h []))
  front_of_text h lt front (inl part) =
      let told_words = slice_index_or outputs h [] in
      let words = subst (IsPrefixOf (printed (made_by h).events)) (prints h lt) (told.prints h) in
      let texts = flat_front _ (printed (made_by h).events) told_words words in
      front_trans front _ _ part (front_both listening (lines (printed (made_by h).events)) (lines told_words ++ ended) (front_trans _ (lines told_words) _ texts (ended, refl)))
  front_of_text h lt front (inr all) = subst (λ (words : List ℕ). IsPrefixOf front (text_of words)) (told.all_printed h all.0 ∙ prints h lt) all.1

  writes : (h : ℕ) (lt : h < n) (r : Result Ended HostFault) → (run h).result ≡ r
      → EndsAs (at h).lists (at_start (codes h)) plan.bytes h (links h) (run h).out (run h).out_now (made_by h).events (made_by h).state r
      → IsTrue (run h).out_now.told → WritesUpTo (run h).out (run h).out_now (text_of (slice_index_or outputs h [])) r
  writes h lt (Ok done) is e t = e.1 t ∙ ap (λ (words : List ℕ). (run h).out.taken ++ text_of words) (told.all_printed h e.0 ∙ prints h lt)
  writes h lt (Err cause) is e t = let w = (at h).written lt t in (w.0, front_of_text h lt w.0 w.2, w.1)

  each_tells : (h : ℕ) → h < n → WritesWhatItIsTold (slice_index_or outputs h []) (run h)
  each_tells h lt =
      let e = (at h).ends_as lt in
      record { written = writes h lt (run h).result refl e; blames = blames h (run h).result e }

  -- ---- what it is told are words

  items : (h : ℕ) → AreItems (at h).lists
  items h q i = item_words q (items_of (at h).lists q i) (subst (λ (o : Option (List ℕ)). AreItem (or_zeros q o)) ((at h).supplied q i) (hosts.deal.words h q i))

  -- what a host is told that ends are numbers of 32 bits
  pub told_words : (h : ℕ) → h < n → (done : Ended) → (run h).result ≡ Ok done → AreWords (slice_index_or outputs h [])
  told_words h lt done is =
      let m = made_by h in
      let e = subst (EndsAs (at h).lists (at_start (codes h)) plan.bytes h (links h) (run h).out (run h).out_now m.events m.state) is ((at h).ends_as lt) in
      subst AreWords (told.all_printed h e.0 ∙ prints h lt)
      (printed_words (at h).lists (items h) (at_start (codes h)) (λ r. omega arith) (numbers h) m.steps m.events m.state m.reached)

  pub outputs_count : length outputs ≡ n
  outputs_count =
      let t : Tape = followed_by_zeros s in
      let valid = files_are_valid inputs deals are.files in
      let as_told : RunsAsToldBy program (proto_in list) inputs t = codes_run_as_told program list base.runs inputs are.files.words t valid.0 valid.1 in
      ap (λ (o : List (List ℕ)). length o) (sym (as_told.prints ∙ same)) ∙ length-map-range_with_len (λ (k : ℕ). (last_of s j k).printed) 0 n

  -- ---- where all goes through, all end

  abbrev peers : ℕ → ℕ
  peers h = length (run h).ready.task.addresses

  abbrev link_of : (h : ℕ) → h < n → ℕ → Option Used
  link_of h lt p = link_to (are.plays h lt) p

  abbrev lists_at : ℕ → Lists
  lists_at h = (run h).ready.machine.lists

  number_in : (h : ℕ) → h < n → (place : ℕ) → place < peers h → number_at h place < n
  number_in h lt place there = let low = number_low h place in let count = task_count h lt in omega (arith, low, count, there)

  module _ (goes : GoesThrough program list plan inputs deals run are) where
    stage_of : (h : ℕ) (lt : h < n) → Stage (lists_at h) (at_start (code_at h (inl lt))) plan.bytes h (peers h) (link_of h lt) (run h).result
    stage_of h lt =
        let l = lists_at h in
        let c0 = stage (run h).ready.machine (run h).ready.task (run h).net (run h).net_now (run h).out (run h).out_now (ap (λ (q : List ℕ). length q) (task_plan h lt) ∙ long) (are.plays h lt) (are.told h lt)
        (goes.undisturbed h lt) (each_tells h lt).blames in
        let c1 = subst (λ (q : List ℕ). Stage l (state_of (run h).ready.machine) q (run h).ready.task.me.0 (peers h) (link_of h lt) (run h).result) (task_plan h lt) c0 in
        let c2 = subst (λ (q : ℕ). Stage l (state_of (run h).ready.machine) plan.bytes q (peers h) (link_of h lt) (run h).result) (task_me h lt) c1 in
        subst (λ (q : State). Stage l q plan.bytes h (peers h) (link_of h lt) (run h).result) (started_at h lt) c2

    -- no greeting falls short that was sent whole
    not_short : (b : ℕ) (lb : b < n) (p : ℕ) (lp : p < n) → p ≢ b → IsGreetFault (ends plan.bytes b p) (bytes_that_came (link_of b lb p)) greet_fault.End → IsGreetedBy plan.bytes p b (link_of p lp b) → ⊥
    not_short b lb p lp other short g =
        let came : bytes_that_came (link_of b lb p) ≡ greeting plan.bytes p b ++ g.0 = goes.came p b lp lb other ∙ g.1 in
        no_greet_fault (ends plan.bytes b p) g.0 greet_fault.End long (λ e. cc) (subst (λ (q : List ℕ). IsGreetFault (ends plan.bytes b p) q greet_fault.End) came short)

    -- a host that is refused waits for one that was refused by a host before it, and so on
    never_refused : (m b : ℕ) (lb : b < n) (r : Refused plan.bytes b (peers b) (link_of b lb)) → b + number_at b r.count ≤ m → ⊥
    never_refused zero b lb r le = number_apart b r.count (omega (arith, le))
    never_refused (suc m) b lb r le =
        let p : ℕ = number_at b r.count in
        let lp : number_at b r.count < n = number_in b lb r.count r.there in
        let apart : number_at b r.count ≢ b = number_apart b r.count in
        let count = task_count p lp in
        let q = place_of p b (peers p) (λ e. apart (sym e)) (omega (arith, count, lb)) (omega (arith, count, lp)) in
        let back : IsGreetedBy plan.bytes p (number_at p q.0) (link_of p lp (number_at p q.0)) → ⊥ =
        λ g. not_short b lb p lp apart r.short (subst (λ (x : ℕ). IsGreetedBy plan.bytes p x (link_of p lp x)) q.2 g) in
        elim (stage_of p lp) [
          | inl other ↦
              elim (less_or_least other.count q.0) [
                | inl less ↦ never_refused m p lp other (let rise = number_rises p other.count q.0 less in let at = q.2 in omega (arith, le, rise, at))
                | inr least ↦ back (other.greeted q.0 least)
              ]
          | inr drove ↦ back (drove.greeted q.0 q.1)
        ]

    drove : (h : ℕ) (lt : h < n) → WasDriven (lists_at h) (at_start (code_at h (inl lt))) plan.bytes h (peers h) (link_of h lt) (run h).result
    drove h lt = elim (stage_of h lt) [ inl r ↦ absurd (never_refused (h + number_at h r.count) h lt r (omega arith)) | inr d ↦ d ]

    -- ---- each host, and what it waits for

    record WaitsAt (h : ℕ) (place : Place h) : Type 0 where
      lists : Lists
      supplied : (q : List_of) (i : ℕ) → s h q i ≡ items_of lists q i
      made : Made lists (at_start (code_at h place)) (λ p. drop 36 (bytes_that_came (link_in h place p))) (λ p. drop 36 (bytes_that_went (link_in h place p)))
      went_is : (p : ℕ) → drop 36 (bytes_that_went (link_in h place p)) ≡ frames (sent_to p made.events)
      waits : WaitsAs lists made.events made.state (λ p. drop 36 (bytes_that_came (link_in h place p)))
      well : h < n → made.state.pending ≡ Finished → (done : Ended) × ((run h).result ≡ Ok done)

    waits_at : (h : ℕ) (place : Place h) → WaitsAt h place
    waits_at h (inl lt) =
        let d = drove h lt in
        let g = d.went_on in
        record {
          lists = lists_at h;
          supplied = λ q i. ap (λ (o : Option Deal). items_for inputs h o q i) (are.starts h lt).dealt ∙ ap (λ (k : Lists). items_of k q i) (sym (lists_are h lt));
          made = record { steps = g.steps; events = g.events; state = g.state; reached = g.reached; came = g.came; sent = λ p. front_same _ _ (g.went_is p) };
          went_is = g.went_is;
          waits = waits_as (lists_at h) g.events g.state (λ p. drop 36 (bytes_that_came (link_of h lt p))) d.engine g.waits;
          well = λ less e. ended_well (lists_at h) g.events g.state (λ p. drop 36 (bytes_that_came (link_of h lt p))) d.engine (run h).result g.waits e d.well;
        }
    waits_at h (inr le) = record {
      lists = nothing_dealt;
      supplied = λ q i. ap (λ (o : Option Deal). items_for inputs h o q i) (past_list deals h (let e = are.each in omega (arith, le, e))) ∙ sym (no_items q i);
      made = record { steps = 0; events = []; state = at_start (code_at h (inr le)); reached = AtStart; came = λ p. ([], refl); sent = λ p. ([], refl) };
      went_is = λ p. refl;
      waits = inl (ended_past program list base.runs h le);
      well = λ less e. absurd (omega (arith, less, le));
    }

    abbrev waiting : (h : ℕ) → WaitsAt h (cases_lt h n)
    waiting h = waits_at h (cases_lt h n)

    abbrev lists : ℕ → Lists
    lists h = (waiting h).lists

    abbrev made : (h : ℕ) → Made (lists h) (at_start (codes h)) (come h) (went h)
    made h = (waiting h).made

    abbrev events : ℕ → List Event
    events h = (made h).events

    abbrev state : ℕ → State
    state h = (made h).state

    are_driven : AreDriven s codes lists events state
    are_driven = driven s j n codes lists come went hosts (λ h. (waiting h).supplied) made linked

    are_told : AreTold s j events state
    are_told = tells s j n codes lists come went hosts (λ h. (waiting h).supplied) made linked

    are_sound : (h : ℕ) → AreSound (events h) (state h)
    are_sound h = sound s j n codes lists come went hosts (λ h. (waiting h).supplied) made linked h

    -- all that one sent to another came there, whoever they are
    nothing_either : (u v : Option Used) → u ≡ None → v ≡ None → bytes_that_came u ≡ bytes_that_went v
    nothing_either u v e f = ap bytes_that_came e ∙ ap bytes_that_went (sym f)

    itself_none : (h : ℕ) (lt : h < n) (p : ℕ) → p ≡ h → link_of h lt p ≡ None
    itself_none h lt p same = none_came h lt p (subst (IsStranger (run h).ready.task) (task_me h lt ∙ sym same) (own_stranger (run h).ready.task))

    same_in : (a b : ℕ) (pa : Place a) (pb : Place b) → bytes_that_came (link_in b pb a) ≡ bytes_that_went (link_in a pa b)
    same_in a b (inr past) (inr le) = refl
    same_in a b (inl la) (inr le) = nothing_either None (link_of a la b) refl (none_came a la b (past_stranger (run a).ready.task n b (task_count a la) le))
    same_in a b (inr past) (inl lb) = nothing_either (link_of b lb a) None (none_came b lb a (past_stranger (run b).ready.task n a (task_count b lb) past)) refl
    same_in a b (inl la) (inl lb) =
        elim (same_or_not a b) [
          | inl same ↦ nothing_either (link_of b lb a) (link_of a la b) (itself_none b lb a same) (itself_none a la b (sym same))
          | inr other ↦ goes.came a b la lb other
        ]

    all_came : (a b : ℕ) → come b a ≡ went a b
    all_came a b = ap (λ (q : List ℕ). drop 36 q) (same_in a b (cases_lt a n) (cases_lt b n))

    -- who waits for a packet has received all that was sent
    none_left : (h q count : ℕ) → need (state h) ≡ Packet q count → (rest : List ℕ) → IsLinkFault count 0 rest link_fault.End
        → (zs : List (List ℕ)) → received_from q (events h) ++ zs ≡ sent_to h (events q) → rest ≡ frames zs → received_from q (events h) ≡ sent_to h (events q)
    none_left h q count needs rest short [] is left = sym (append-nil (received_from q (events h))) ∙ is
    none_left h q count needs rest short (z ∷ zs) is left =
        let size : length z ≡ count =
        are_told.counted h q count z needs (ap (λ (l : List (List ℕ)). slice_get l (length (received_from q (events h)))) (sym is) ∙ next_there (received_from q (events h)) zs z) in
        absurd (no_fault z (frames zs) 0 link_fault.End (λ e. cc) (subst (λ (l : List ℕ). IsLinkFault (length z) 0 l link_fault.End) left (subst (λ (k : ℕ). IsLinkFault k 0 rest link_fault.End) (sym size) short)))

    received_all : (h q count : ℕ) → need (state h) ≡ Packet q count → (rest : List ℕ) → come h q ≡ frames (received_from q (events h)) ++ rest → IsLinkFault count 0 rest link_fault.End
        → received_from q (events h) ≡ sent_to h (events q)
    received_all h q count needs rest comes short =
        let all : frames (received_from q (events h)) ++ rest ≡ frames (sent_to h (events q)) = sym comes ∙ all_came q h ∙ (waiting q).went_is h in
        let f = packets_front (received_from q (events h)) (sent_to h (events q)) rest ((are_sound h).received q) ((are_sound q).sent h) all in
        none_left h q count needs rest short f.0 f.1 f.2

    waits_for : (h : ℕ) → WaitsFor events h (need (state h))
    waits_for h =
        elim (waiting h).waits [
          | inl finished ↦ subst (WaitsFor events h) (sym (ended_need (state h) finished)) tt
          | inr (inl short) ↦
              absurd (never_short s j n codes lists events state hosts.well all_hastened goes.enough are_driven h
              (short_same (items_of (lists h)) (s h) (waiting h).supplied (state h).cursors (need (state h)) short))
          | inr (inr w) ↦ subst (WaitsFor events h) (sym w.2) (received_all h w.0 w.1 w.2 w.3 w.4 w.5)
        ]

    each_ends : (h : ℕ) → h < n → (done : Ended) × ((run h).result ≡ Ok done)
    each_ends h lt = (waiting h).well lt (waiting_ended s j n codes lists events state hosts.well goes.enough all_hastened are_driven waits_for h)

pub running_hosts_tell_the_source : RunningHostsTellTheSource
running_hosts_tell_the_source source program list plan inputs deals run same are h lt = each_tells program list plan inputs deals run (source_outputs source inputs) same are h (are.stored h lt) h lt

pub running_hosts_end : RunningHostsEnd
running_hosts_end program list plan inputs deals run are goes h lt = each_ends program list plan inputs deals run (program_outputs program inputs) refl are h (are.stored h lt) goes h lt
