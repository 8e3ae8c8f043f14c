-- The words of a link, as a world of filled inputs has them at its end.
use Rattle.std.proofs.Common.{◌≡◌, ◌≢◌, inl, inr, ℕ, ◌+◌, ◌<◌, ◌≤◌, true, List, [], Option, Some, None, length, get_or, sym, ap, subst, ◌∙◌, arith}
use Rattle.std.specs.Prelude.{slice_get}
use Rattle.std.specs.Option.{option_map_or}
use Rattle.std.proofs.lemmas.Bool.{cases_lt}
use Rattle.std.proofs.lemmas.List.FromFn.{get_or-map-range_with_len}
use Rattle.std.proofs.lemmas.Option.{get_or_from_slice_get, slice_get_within, slice_get_cases}
use Rattle.vd_base.specs.Limits.{most_hosts}
use Rattle.vd_base.specs.declared.protocols.Proto.{Proto}
use Rattle.vd_core.specs.declared.normal.NormalForm.{NormalForm}
use Rattle.vd_core.specs.Facts.{IsWellMade}
use Rattle.vd_semantics.specs.ProgramMeaning.{program_outputs}
use Rattle.vd_core.specs.Numbers.{NumbersFit}
use Rattle.vd_tape.specs.declared.deal_items.deal.Deal.{Deal}
use Rattle.vd_tape.specs.Validity.{AreDeals}
use Rattle.vd_tape.proofs.Front.{all_deals}
use Rattle.vd_execution.specs.declared.instructions.Instr.{Instr}
use Rattle.vd_execution.specs.Step.{Source, Inputs, OwnWords, Triples, BitTriples, Pairs}
use Rattle.vd_execution.specs.Code.{Code}
use Rattle.vd_execution.specs.Joint.{Joint, Hosts, code_of, fresh, joint}
use Rattle.vd_execution.specs.Ranges.{IsInRange}
use Rattle.vd_execution.specs.Text.{IsCodeOf, text}
use Rattle.vd_execution.specs.World.{World, Tape, followed_by_zeros, words_of}
use Rattle.vd_execution.specs.Claims.{IsOf, Suffices, last_of}
use Rattle.vd_backend_laws.specs.Given.{zero_deal}
use Rattle.vd_backend_laws.specs.Whole.{inputs_of}
use Rattle.vd_backend_laws.proofs.Front.{zero_deals_are_valid}
use Rattle.vd_deal_needs.specs.DealNeedsLawsNeeds.{counts, takes}
use Rattle.vd_deal_needs.proofs.Front.{most}
use Rattle.vd_deal_needs.specs.declared.taking.HostNeeds.{HostNeeds}
use Rattle.vd_machine.specs.Machines.{word_item}
use Rattle.vd_projection.specs.Programs.{CanRunAt, IsRunnable, host_codes, joint_of}
use Rattle.vd_projection.proofs.Front.{valid_for, runnable_over, codes_can_be_loaded, codes_run_as_told, ended_past, no_words}
use Rattle.vd_deal_needs.specs.Enough.{needs_for}
use Rattle.vd_deal_needs.proofs.Front.{count_codes, any_there, count_needs, counted, needs_at, taken}
use Rattle.vd_report.specs.declared.schedule.Schedule.{Schedule}
use Rattle.vd_world.specs.Loading.{AreCodesOf, AreForAll}
use Rattle.vd_world.specs.Played.{played}
use Rattle.vd_world.specs.Supplies.{AreFiles, items_for, supply_of_files}
use Rattle.vd_world.specs.Told.{TellsUnder}
use Rattle.vd_world.proofs.Front.{programs_tell}
use Rattle.vd_excuse.specs.Filling.{filled, inputs_taken}
use Rattle.vd_excuse.specs.Talk.{talk, IsPlayable}
use Rattle.vd_excuse.proofs.Filled.{filled_count, long_enough, same_dealt, same_tape, same_words}

module _ (program : NormalForm) (protocols : List Proto) (made : IsWellMade program) (numbers : NumbersFit program) (runnable : IsRunnable program protocols) where
  can : CanRunAt program protocols
  can = record { made = made; numbers = numbers; runnable = runnable }

  -- ---- the codes can be loaded

  code_at_host : (h : ℕ) (code : List Instr) → slice_get (host_codes program protocols) h ≡ Some code → code ≡ text (code_of h (joint_of program protocols)) []
  code_at_host h code is =
      let within = slice_get_within (host_codes program protocols) h code is in
      let count = count_codes program protocols can in
      sym (get_or_from_slice_get (host_codes program protocols) h code code is)
      ∙ get_or-map-range_with_len (λ (k : ℕ). text (code_of k (joint_of program protocols)) []) 0 (length program.hosts) h h code (omega (arith, within, count)) (omega arith)

  are_codes : AreCodesOf (host_codes program protocols) (joint_of program protocols)
  are_codes = record {
    each = λ h code is. subst (λ (c : List Instr). IsCodeOf c (code_of h (joint_of program protocols))) (sym (code_at_host h code is)) (codes_can_be_loaded program protocols made (runnable_over program protocols made runnable) h).nested;
    in_range = λ h lt. subst (λ (hosts : ℕ). IsInRange hosts (code_of h (joint_of program protocols))) (sym (count_codes program protocols can)) (codes_can_be_loaded program protocols made (runnable_over program protocols made runnable) h).in_range;
    all =
        let zeros = zero_deals_are_valid (inputs_of []) no_words in
        let told = codes_run_as_told program protocols can [] no_words (zero_deal (inputs_of [])) zeros.0 zeros.1 in
        subst (λ (hosts : ℕ). IsOf hosts (joint_of program protocols)) (sym (count_codes program protocols can)) told.hosts;
  }

  module _ (inputs : List (List ℕ)) (deals : List Deal) (playable : IsPlayable program protocols inputs deals) where
    dealt : AreDeals deals
    dealt =
        let few : length deals ≤ most_hosts = let limit = made.limits.hosts in let all = playable.all_deals in omega (arith, limit, all) in
        all_deals deals few playable.files.dealt

    pub are_for_all : (codes : List (List Instr)) (needs : List HostNeeds) (all : List (List ℕ)) → codes ≡ host_codes program protocols → all ≡ filled inputs needs → AreForAll codes all deals
    are_for_all codes needs all is filled_as =
        subst (λ (cs : List (List Instr)). AreForAll cs all deals) (sym is)
        (subst (λ (xs : List (List ℕ)). AreForAll (host_codes program protocols) xs deals) (sym filled_as) (record {
          are_codes = (joint_of program protocols, are_codes);
          all_inputs = filled_count inputs needs ∙ playable.all_inputs ∙ sym (count_codes program protocols can);
          all_deals = playable.all_deals ∙ sym (count_codes program protocols can);
          are_deals = dealt;
        }))

    -- ---- the inputs reach

    files : AreFiles (filled inputs (needs_for program protocols)) deals
    files = record {
      words = λ h i. subst (λ (v : ℕ). v < 4294967296) (sym (same_words inputs (needs_for program protocols) h i)) (playable.files.words h i);
      few = let n = filled_count inputs (needs_for program protocols) in let few = playable.files.few in omega (arith, n, few);
      dealt = playable.files.dealt;
      consistent = playable.files.consistent;
    }

    tape_is : followed_by_zeros (supply_of_files (filled inputs (needs_for program protocols)) deals) ≡ followed_by_zeros (supply_of_files inputs deals)
    tape_is = same_tape inputs (needs_for program protocols) deals

    taken_inputs : (h : ℕ) → h < length program.hosts → takes (joint_of program protocols) h Inputs ≤ inputs_taken (needs_for program protocols) h
    taken_inputs h low =
        let n : length (needs_for program protocols) ≡ length program.hosts = count_needs program protocols can in
        elim (slice_get_cases (needs_for program protocols) h).1 [
          | inl there ↦
              let e : inputs_taken (needs_for program protocols) h ≡ there.0.inputs = ap (λ (o : Option HostNeeds). option_map_or (λ (x : HostNeeds). x.inputs) o 0) there.2 in
              let g : get_or (needs_for program protocols) h there.0 ≡ there.0 = get_or_from_slice_get (needs_for program protocols) h there.0 there.0 there.2 in
              let k : (get_or (needs_for program protocols) h there.0).inputs ≡ counted program protocols can h Inputs = ap (λ (x : HostNeeds). x.inputs) (needs_at program protocols can h there.0 low) in
              let m : (get_or (needs_for program protocols) h there.0).inputs ≡ there.0.inputs = ap (λ (x : HostNeeds). x.inputs) g in
              let t : takes (joint_of program protocols) h Inputs ≡ counted program protocols can h Inputs = taken program protocols can h Inputs in
              omega (arith, e, k, m, t)
          | inr past ↦ absurd (omega (arith, past.0, n, low))
        ]

    none_past : (h : ℕ) → length program.hosts ≤ h → takes (joint_of program protocols) h Inputs ≡ 0
    none_past h le = taken program protocols can h Inputs ∙ ap (λ (c : Code). counts c Inputs) (ended_past program protocols can h le)

    last_is : last_of (supply_of_files (filled inputs (needs_for program protocols)) deals) (joint_of program protocols) ≡ last_of (supply_of_files inputs deals) (joint_of program protocols)
    last_is = ap (λ (t : Tape). joint t (joint_of program protocols) fresh) tape_is

    has_input : (h i : ℕ) → h < length program.hosts → i < takes (joint_of program protocols) h Inputs → supply_of_files (filled inputs (needs_for program protocols)) deals h Inputs i ≢ None
    has_input h i low less =
        let all = playable.all_deals in
        let ins = playable.all_inputs in
        let t = taken_inputs h low in
        let l : inputs_taken (needs_for program protocols) h ≤ length (inputs_of (filled inputs (needs_for program protocols)) h) = long_enough inputs (needs_for program protocols) h (omega (arith, low, ins)) in
        elim (slice_get_cases deals h).1 [
          | inl there ↦
              subst (λ (o : Option Deal). items_for (filled inputs (needs_for program protocols)) h o Inputs i ≢ None) (sym there.2)
              (any_there word_item (inputs_of (filled inputs (needs_for program protocols)) h) i (omega (arith, less, t, l)))
          | inr past ↦ absurd (omega (arith, past.0, all, low))
        ]

    of_deal : (h : ℕ) (s : Source) (i : ℕ) → s ≢ Inputs → i < (last_of (supply_of_files (filled inputs (needs_for program protocols)) deals) (joint_of program protocols) h).cursors s
        → supply_of_files (filled inputs (needs_for program protocols)) deals h s i ≢ None
    of_deal h s i not less =
        let less_too : i < (last_of (supply_of_files inputs deals) (joint_of program protocols) h).cursors s = subst (λ (last : Hosts). i < (last h).cursors s) last_is less in
        subst (λ (o : Option (List ℕ)). o ≢ None) (sym (same_dealt inputs (needs_for program protocols) h (slice_get deals h) s i not)) (playable.reaches h s i not less_too)

    suffices : Suffices (supply_of_files (filled inputs (needs_for program protocols)) deals) (last_of (supply_of_files (filled inputs (needs_for program protocols)) deals) (joint_of program protocols))
    suffices h Inputs i less =
        let m : (last_of (supply_of_files (filled inputs (needs_for program protocols)) deals) (joint_of program protocols) h).cursors Inputs ≤ 0 + takes (joint_of program protocols) h Inputs =
        most (followed_by_zeros (supply_of_files (filled inputs (needs_for program protocols)) deals)) (joint_of program protocols) fresh h Inputs in
        elim (cases_lt h (length program.hosts)) [
          | inl low ↦ has_input h i low (omega (arith, less, m))
          | inr high ↦ absurd (let z = none_past h high in omega (arith, less, m, z))
        ]
    suffices h OwnWords i less = of_deal h OwnWords i (λ e. cc) less
    suffices h (Triples p) i less = of_deal h (Triples p) i (λ e. cc) less
    suffices h (BitTriples p) i less = of_deal h (BitTriples p) i (λ e. cc) less
    suffices h (Pairs p) i less = of_deal h (Pairs p) i (λ e. cc) less

    -- ---- so the world ends, with all words sent

    told : (schedule : Schedule) → TellsUnder (length program.hosts) (program_outputs program (filled inputs (needs_for program protocols))) (supply_of_files (filled inputs (needs_for program protocols)) deals) (joint_of program protocols) schedule
    told schedule = programs_tell program can.runnable.labels protocols (valid_for program protocols can) (filled inputs (needs_for program protocols)) deals files playable.all_deals schedule

    pub talk_is : (codes : List (List Instr)) (needs : List HostNeeds) (all : List (List ℕ)) (schedule : Schedule) (w : World) (from to : ℕ) → codes ≡ host_codes program protocols → needs ≡ needs_for program protocols
        → all ≡ filled inputs needs → schedule.all ≡ true → ((k : Joint) → AreCodesOf codes k → w ≡ played all deals (length codes) schedule k)
        → words_of ((w from).sent to) ≡ talk program protocols inputs deals from to
    talk_is codes needs all schedule w from to is needed filled_as rounds world =
        let of_joint : AreCodesOf codes (joint_of program protocols) = subst (λ (cs : List (List Instr)). AreCodesOf cs (joint_of program protocols)) (sym is) are_codes in
        let count : length codes ≡ length program.hosts = ap (λ (cs : List (List Instr)). length cs) is ∙ count_codes program protocols can in
        let inputs_are : all ≡ filled inputs (needs_for program protocols) = filled_as ∙ ap (λ (n : List HostNeeds). filled inputs n) needed in
        let w_is : w ≡ played (filled inputs (needs_for program protocols)) deals (length program.hosts) schedule (joint_of program protocols) =
        world (joint_of program protocols) of_joint ∙ (λ i. played (inputs_are i) deals (count i) schedule (joint_of program protocols)) in
        let t = told schedule in
        ap (λ (u : World). words_of ((u from).sent to)) w_is ∙ t.told.all_sent (t.ends rounds suffices) from to
        ∙ ap (λ (last : Hosts). words_of ((last from).sent to)) last_is
