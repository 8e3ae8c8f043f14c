-- What holds of all hosts under any schedule.
use Rattle.std.proofs.Common.{◌≡◌, ℕ, ◌<◌, nat_eq, Bool, true, false, List, [], ◌++◌, inl, inr, Option, Some, None, length, refl, sym, ap, ◌∙◌, subst, arith}
use Rattle.std.specs.Prelude.{if◌then◌else◌, slice_index_or}
use Rattle.std.proofs.lemmas.Bool.{cases_lt}
use Rattle.std.proofs.lemmas.List.FromFn.{get_or-map-range_with_len}
use Rattle.vd_base.specs.declared.host_state.HostState.TheVariants as state
use Rattle.vd_base.specs.Holders.{proto_in}
use Rattle.vd_semantics.specs.ProgramMeaning.{program_outputs}
use Rattle.vd_elaborate.specs.Normal.{normal_form}
use Rattle.vd_elaborate.proofs.Front.{outputs_kept}
use Rattle.vd_execution.specs.declared.instructions.Action.{Action}
use Rattle.vd_execution.specs.declared.instructions.Action.TheVariants as action
use Rattle.vd_execution.specs.Registers.{Registers}
use Rattle.vd_execution.specs.Code.{Code, Finished, Then, Send, Recv, Choose, Repeat}
use Rattle.vd_execution.specs.Step.{Source, Inputs, OwnWords, Triples, BitTriples, Pairs, Cursors, Need, Nothing, Item, Packet, Unequal, Ended, Given, answer, of_length, need, need_of, need_of_action}
use Rattle.vd_execution.specs.States.{host_state, ready_or, short_of, state_for}
use Rattle.vd_execution.specs.World.{World, Supply, AllEnded, EndedFrom, IsPrefixOf, IsShort, IsShortAt, IsStuck, all_rounds, followed_by_zeros, given, run, step, words_of}
use Rattle.vd_execution.specs.Joint.{Joint, started, at_end}
use Rattle.vd_execution.specs.Claims.{RunsWell, Suffices, IsOf, last_of, then_all}
use Rattle.vd_execution.proofs.Front.{ended_needs, on_the_way, stepped, whole, all_stuck, run_ended, run_both}
use Rattle.vd_report.specs.declared.schedule.Schedule.{Schedule}
use Rattle.vd_backend_laws.specs.Whole.{CanRun, RunsAsToldBy}
use Rattle.vd_backend_laws.proofs.Front.{code_runs_well}
use Rattle.vd_projection.proofs.Front.{assignments_can_run, assignments_tell_the_same}
use Rattle.vd_world.specs.Supplies.{supply_of_files}
use Rattle.vd_world.specs.Schedules.{numbers, replayed}
use Rattle.vd_world.specs.Told.{HaveEnded, IsToldOf, TellsUnder, chosen_code, ProgramsTell, SourcesTell}
use Rattle.vd_world.proofs.Supplies.{files_are_valid}
use Rattle.vd_world.proofs.Runs.{replayed_is, turns_of}

-- ---- a host is reported as ended exactly where nothing is pending

action_is_left : (f : Registers) (a : Action) → need_of_action f a ≡ Ended → ⊥
action_is_left f (action.Same x y) e = at (nat_eq (f x.0) (f y.0)) e
  where
    at : (b : Bool) → (if b then Nothing else Unequal (f x.0) (f y.0)) ≡ Ended → ⊥
    at true d = cc
    at false d = cc
action_is_left f a e = cc

code_ended : (f : Registers) (c : Code) → need_of f c ≡ Ended → c ≡ Finished
code_ended f Finished e = refl
code_ended f (Then a rest) e = absurd (action_is_left f a e)
code_ended f (Send p rs rest) e = cc
code_ended f (Recv p rs rest) e = cc
code_ended f (Choose g first other rest) e = cc
code_ended f (Repeat r turn count body rest) e = cc

item_is_left : (source : Source) (o : Option (List ℕ)) → ready_or (short_of source) o ≡ state.Ended → ⊥
item_is_left Inputs None e = cc
item_is_left OwnWords None e = cc
item_is_left (Triples p) None e = cc
item_is_left (BitTriples p) None e = cc
item_is_left (Pairs p) None e = cc
item_is_left source (Some xs) e = cc

need_ended : (g : Given) (c : Cursors) (n : Need) → state_for g c n ≡ state.Ended → n ≡ Ended
need_ended g c Nothing e = cc
need_ended g c (Item source) e = absurd (item_is_left source (g.item source (c source)) e)
need_ended g c (Packet p n) e = at (of_length n (g.front p)) e
  where
    at : (o : Option (List ℕ)) → ready_or (state.Waiting (record { 0 = p })) o ≡ state.Ended → Packet p n ≡ Ended
    at None d = cc
    at (Some xs) d = cc
need_ended g c (Unequal x y) e = cc
need_ended g c Ended e = refl

pending_ended : (s : Supply) (w : World) (h : ℕ) → host_state s w h ≡ state.Ended → (w h).state.pending ≡ Finished
pending_ended s w h e = code_ended (w h).state.registers (w h).state.pending (need_ended (given s w h (w h)) (w h).state.cursors (need (w h).state) e)

all_ended : (s : Supply) (n : ℕ) (w : World) → EndedFrom n w → HaveEnded s n w → AllEnded w
all_ended s n w past have h = elim (cases_lt h n) [ inl lt ↦ pending_ended s w h (have h lt) | inr le ↦ past h le ]

have_ended : (s : Supply) (n : ℕ) (w : World) → AllEnded w → HaveEnded s n w
have_ended s n w all h lt = ap (λ (c : Code). state_for (given s w h (w h)) (w h).state.cursors (need_of (w h).state.registers c)) (all h)

-- a host that has ended neither steps nor is short, so who does is one of the hosts
low_of : (n : ℕ) (w : World) (h : ℕ) → EndedFrom n w → ((w h).state.pending ≡ Finished → ⊥) → h < n
low_of n w h past left = elim (cases_lt h n) [ inl lt ↦ lt | inr le ↦ absurd (left (past h le)) ]

not_answered : (g : Given) (c : Cursors) (n : Need) (xs : List ℕ) → answer g c n ≡ Some xs → n ≡ Ended → ⊥
not_answered g c n xs e h = let z = ap (answer g c) h in cc

step_low : (s : Supply) (n : ℕ) (w : World) (h : ℕ) (u : World) → EndedFrom n w → step s h w ≡ Some u → h < n
step_low s n w h u past e =
    let a = stepped s h w u e in
    low_of n w h past (λ ended. not_answered (given s w h (w h)) (w h).state.cursors (need (w h).state) a.words a.able (ended_needs (w h) ended))

short_low : (s : Supply) (n : ℕ) (w : World) (h : ℕ) → EndedFrom n w → IsShort s w h → h < n
short_low s n w h past short = low_of n w h past (λ ended. subst (λ (need : Need). IsShortAt (s h) (w h).state.cursors need) (ended_needs (w h) ended) short)

-- ---- the worlds that a schedule leads to

module _ (n : ℕ) (outputs : List (List ℕ)) (s : Supply) (j : Joint) (runs : RunsWell s j) (of_hosts : IsOf n j)
    (prints : (h : ℕ) → h < n → slice_index_or outputs h [] ≡ (last_of s j h).printed) where
  reached_told : (b : List ℕ) → IsToldOf n outputs (last_of s j) s (run s b (started j))
  reached_told b =
      let w = run s b (started j) in
      let way = on_the_way s j b runs in
      let past : EndedFrom n w = run_ended s n b (started j) of_hosts in
      record {
        printed = λ h lt. subst (λ (xs : List ℕ). IsPrefixOf (w h).printed xs) (sym (prints h lt)) (way.printed h);
        sent = way.talk;
        faultless = way.faultless;
        goes_on = elim way.goes_on [
          | inl all ↦ inl (have_ended s n w all)
          | inr (inl can) ↦ inr (inl (record { host = can.0; low = step_low s n w can.0 can.1.0 past can.1.1; holds = can.1 }))
          | inr (inr short) ↦ inr (inr (record { host = short.0; low = short_low s n w short.0 past short.1; holds = short.1 }))
        ];
        all_printed = λ have h lt. ap (λ (v : World). (v h).printed) (way.whole (all_ended s n w past have)) ∙ sym (prints h lt);
        all_sent = λ have h p. ap (λ (v : World). words_of ((v h).sent p)) (way.whole (all_ended s n w past have));
      }

  told : (schedule : Schedule) → IsToldOf n outputs (last_of s j) s (replayed s n schedule (started j))
  told schedule = subst (λ (w : World). IsToldOf n outputs (last_of s j) s w) (sym (replayed_is s n schedule (started j))) (reached_told (turns_of s n schedule (started j)))

  -- rounds after entries end all hosts, where the lists suffice
  rounds_end : (entries : List ℕ) → Suffices s (last_of s j) → then_all s n (run s entries (started j)) ≡ at_end (last_of s j)
  rounds_end entries enough =
      let w = run s entries (started j) in
      let more = all_rounds n w in
      let both = run_both s entries more (started j) in
      let stuck = all_stuck s n w (run_ended s n entries (started j) of_hosts) in
      sym both ∙ (whole s j (entries ++ more) runs enough (subst (λ (v : World). IsStuck s v) (sym both) stuck)).0

  ends : (schedule : Schedule) → schedule.all ≡ true → Suffices s (last_of s j) → HaveEnded s n (replayed s n schedule (started j))
  ends schedule all enough =
      let entries = numbers schedule.entries in
      let rounds : replayed s n schedule (started j) ≡ then_all s n (run s entries (started j)) =
      ap (λ (b : Bool). if b then then_all s n (run s entries (started j)) else run s entries (started j)) all in
      subst (λ (w : World). HaveEnded s n w) (sym (rounds ∙ rounds_end entries enough)) (have_ended s n (at_end (last_of s j)) (λ h. refl))

  tells_under : (schedule : Schedule) → TellsUnder n outputs s j schedule
  tells_under schedule = record { told = told schedule; ends = ends schedule }

-- ---- programs and sources

pub programs_tell : ProgramsTell
programs_tell program labels protocols chosen inputs deals files count schedule =
    let s = supply_of_files inputs deals in
    let t = followed_by_zeros s in
    let valid = files_are_valid inputs deals files in
    let proto = proto_in protocols in
    let can : CanRun program proto inputs t = assignments_can_run program labels protocols chosen inputs files.words t valid.0 valid.1 in
    let told : RunsAsToldBy program proto inputs t = assignments_tell_the_same program labels protocols chosen inputs files.words t valid.0 valid.1 in
    let n = length program.hosts in
    let last = last_of s (chosen_code program protocols) in
    let prints : (h : ℕ) → h < n → slice_index_or (program_outputs program inputs) h [] ≡ (last h).printed =
    λ h lt. ap (λ (outputs : List (List ℕ)). slice_index_or outputs h []) (sym told.prints) ∙ get_or-map-range_with_len (λ (k : ℕ). (last k).printed) 0 n h h [] lt (omega arith) in
    tells_under n (program_outputs program inputs) s (chosen_code program protocols) (code_runs_well program proto inputs s can) told.hosts prints schedule

pub sources_tell : SourcesTell
sources_tell source labels protocols chosen inputs deals files count schedule =
    subst (λ (outputs : List (List ℕ)). TellsUnder (length (normal_form source).hosts) outputs (supply_of_files inputs deals) (chosen_code (normal_form source) protocols) schedule) (outputs_kept source inputs)
    (programs_tell (normal_form source) labels protocols chosen inputs deals files count schedule)
